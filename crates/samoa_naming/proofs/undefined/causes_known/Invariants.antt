use Rattle.std.proofs.Common.{◌≡◌, None, take}
use Rattle.samoa_grammar.specs.Walks.{first_along}
use Rattle.samoa_grammar.specs.declared.draft.DoDraft.{DoDraft}
use Rattle.samoa_grammar.specs.Passes.{cause_unknown}
use Rattle.samoa_naming.proofs.undefined.causes_known.Given as goal

abbrev pub invariant-loop-item : goal.invariant-loop-item
invariant-loop-item l = first_along (λ (item : DoDraft). cause_unknown l.draft item.cause) (take l.item-index l.draft.does) ≡ None
