use Rattle.std.proofs.Common.{◌≡◌, map, take}
use Rattle.samoa_bind.proofs.rows.rows_of_each.Given as goal

abbrev pub invariant-loop-change : goal.invariant-loop-change
invariant-loop-change l = l.rows.items ≡ map (λ c. c.table) (take l.change-index l.changes)
