use Rattle.std.proofs.Common.{◌≡◌, None, take}
use Rattle.samoa_grammar.specs.Walks.{first_along}
use Rattle.samoa_grammar.specs.declared.draft.BoundDraft.{BoundDraft}
use Rattle.samoa_grammar.specs.Passes.{among, micro_names}
use Rattle.samoa_naming.proofs.undefined.bounds_known.Given as goal

abbrev pub invariant-loop-bound : goal.invariant-loop-bound
invariant-loop-bound l = first_along (λ (b : BoundDraft). among (micro_names l.draft) b.micro) (take l.bound-index l.bounds) ≡ None
