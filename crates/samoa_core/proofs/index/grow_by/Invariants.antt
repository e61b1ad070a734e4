use Rattle.std.proofs.Common.{◌≡◌, ℕ, ◌-◌, ◌++◌, List, length, Option}
use Rattle.samoa_core.proofs.index.grow_by.Given as goal

abbrev pub invariant-loop-list : goal.invariant-loop-list
invariant-loop-list l = (more : List (Option ℕ)) × (l.list.items ≡ l.fn.list.items ++ more)

abbrev pub decreases-loop-list : goal.decreases-loop-list
decreases-loop-list l = l.long - length l.list.items
