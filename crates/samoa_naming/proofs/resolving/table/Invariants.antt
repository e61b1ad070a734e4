use Rattle.std.proofs.Common.{◌≡◌, take, map}
use Rattle.samoa_grammar.specs.Meaning.{table_meant}
use Rattle.samoa_naming.proofs.resolving.table.Given as goal

abbrev pub invariant-loop-draft_row : goal.invariant-loop-draft_row
invariant-loop-draft_row l = l.found.items ≡ map (table_meant l.draft) (take l.draft_row-index l.rows)
