use Rattle.std.proofs.Common.{◌≡◌, ◌-◌, ◌≤◌, length, replicate, None}
use Rattle.samoa_core.proofs.index.nones.Given as goal

abbrev pub invariant-loop-list : goal.invariant-loop-list
invariant-loop-list l = record {
  items : l.list.items ≡ replicate (length l.list.items) None;
  below : length l.list.items ≤ l.count;
}

abbrev pub decreases-loop-list : goal.decreases-loop-list
decreases-loop-list l = l.count - length l.list.items
