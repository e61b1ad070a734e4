use Rattle.std.proofs.Common.{◌≡◌, ◌+◌, ◌++◌, map, take}
use Rattle.samoa_serial.specs.World.{calls_from, entry_of}
use Rattle.samoa_calls.proofs.attempt.enter.Given as goal

abbrev pub invariant-loop-handler : goal.invariant-loop-handler
invariant-loop-handler l = record {
  entries : l.entries.entries ≡ l.initial.entries.entries ++ map (entry_of l.caller l.arg) (calls_from l.made (take l.handler-index l.handlers));
  number : l.number ≡ l.made + l.handler-index;
  room : l.entries.room + l.handler-index ≡ l.initial.entries.room;
}
