use Rattle.std.proofs.Common.{◌≡◌, None, take}
use Rattle.samoa_grammar.specs.Walks.{first_along}
use Rattle.samoa_grammar.specs.Passes.{change_unknown}
use Rattle.samoa_naming.proofs.undefined.changes_known.Given as goal

abbrev pub invariant-loop-change : goal.invariant-loop-change
invariant-loop-change l = first_along (change_unknown l.draft) (take l.change-index l.draft.changes) ≡ None
