use Rattle.std.proofs.Common.{◌≡◌, ◌≤◌, ◌+◌, ◌++◌, length, reverse, drop, vec_capacity}
use Rattle.samoa_serial.specs.World.{calls_from}
use Rattle.samoa_serial.specs.Calls.{to_begin}
use Rattle.samoa_calls.proofs.stack.activate.Given as goal

abbrev pub invariant-loop-left : goal.invariant-loop-left
invariant-loop-left l = record {
  active : reverse l.active.items ≡ to_begin l.arg (calls_from (l.made + l.left) (drop l.left l.handlers)) ++ reverse l.initial.active.items;
  left : l.left ≤ length l.handlers;
  capacity : vec_capacity l.active ≡ vec_capacity l.initial.active;
}

abbrev pub decreases-loop-left : goal.decreases-loop-left
decreases-loop-left l = l.left
