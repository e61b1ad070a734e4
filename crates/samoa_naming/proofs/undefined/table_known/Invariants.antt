use Rattle.std.proofs.Common.{◌≡◌, None, take}
use Rattle.samoa_grammar.specs.Walks.{first_along}
use Rattle.samoa_grammar.specs.Passes.{table_unknown}
use Rattle.samoa_naming.proofs.undefined.table_known.Given as goal

abbrev pub invariant-loop-row : goal.invariant-loop-row
invariant-loop-row l = first_along (table_unknown l.draft) (take l.row-index l.table) ≡ None
