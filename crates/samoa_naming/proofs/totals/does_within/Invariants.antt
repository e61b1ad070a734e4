use Rattle.std.proofs.Common.{◌≡◌, None, take, codes}
use Rattle.samoa_grammar.specs.Walks.{first_along}
use Rattle.samoa_grammar.specs.declared.draft.DoDraft.{DoDraft}
use Rattle.samoa_grammar.specs.Passes.{node_fault}
use Rattle.samoa_naming.proofs.totals.does_within.Given as goal

abbrev pub invariant-loop-item : goal.invariant-loop-item
invariant-loop-item l = first_along (λ (item : DoDraft). node_fault l.draft.nodes (codes "node") item.node) (take l.item-index l.draft.does) ≡ None
