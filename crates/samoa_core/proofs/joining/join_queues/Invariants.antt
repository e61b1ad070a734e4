use Rattle.std.proofs.Common.{◌-◌, ◌≤◌}
use Rattle.samoa_invariant.specs.Index.{Index}
use Rattle.samoa_core.specs.Joining.{Joins, TailsWithin}
use Rattle.samoa_core.proofs.joining.join_queues.Given as goal

abbrev pub invariant-loop-micro : goal.invariant-loop-micro
invariant-loop-micro g l = record {
  joins : (x : Index) → TailsWithin l.control x → Joins l.control l.fn.index x 0 → Joins l.control l.index x l.micro;
  below : l.micro ≤ l.micros;
}

abbrev pub decreases-loop-micro : goal.decreases-loop-micro
decreases-loop-micro g l = l.micros - l.micro
