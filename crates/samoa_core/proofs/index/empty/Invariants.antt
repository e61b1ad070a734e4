use Rattle.std.proofs.Common.{◌≡◌, ◌-◌, ◌≤◌, length}
use Rattle.samoa_core.specs.Settling.{NoneBelow}
use Rattle.samoa_core.proofs.index.empty.Given as goal

abbrev pub invariant-loop-at : goal.invariant-loop-at
invariant-loop-at l = record {
  below : NoneBelow l.members l.past;
  size : length l.members ≡ length l.fn.members;
  within : l.past ≤ length l.members;
}

abbrev pub decreases-loop-at : goal.decreases-loop-at
decreases-loop-at l = length l.members - l.past
