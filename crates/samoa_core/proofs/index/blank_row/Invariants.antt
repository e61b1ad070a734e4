use Rattle.std.proofs.Common.{◌≡◌, ℕ, ◌+◌, ◌-◌, ◌<◌, ◌≤◌, length, slice_get, Some, None}
use Rattle.samoa_core.proofs.index.blank_row.Given as goal

abbrev pub invariant-loop-at : goal.invariant-loop-at
invariant-loop-at l = record {
  size : length l.list.items ≡ length l.fn.list.items;
  blank : (p : ℕ) → p < l.at → slice_get l.list.items (l.from + p) ≡ Some None;
  before : (i : ℕ) → i < l.from → slice_get l.list.items i ≡ slice_get l.fn.list.items i;
  below : l.at ≤ l.count;
}

abbrev pub decreases-loop-at : goal.decreases-loop-at
decreases-loop-at l = l.count - l.at
