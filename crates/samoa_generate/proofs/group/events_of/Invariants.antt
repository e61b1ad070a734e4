use Rattle.std.proofs.Common.{◌≡◌, map, take}
use Rattle.samoa_laws.specs.trace.Group.{event}
use Rattle.samoa_generate.proofs.group.events_of.Given as goal

abbrev pub invariant-loop-number : goal.invariant-loop-number
invariant-loop-number l = l.events.items ≡ map event (take l.number-index l.numbers)
