use Rattle.std.proofs.Common.{◌≡◌, None, take}
use Rattle.samoa_grammar.specs.Walks.{first_along}
use Rattle.samoa_grammar.specs.declared.draft.DeclDraft.{DeclDraft}
use Rattle.samoa_grammar.specs.Passes.{vertices_fault}
use Rattle.samoa_naming.proofs.totals.bodies_within.Given as goal

abbrev pub invariant-loop-decl : goal.invariant-loop-decl
invariant-loop-decl l = first_along (λ (d : DeclDraft). vertices_fault l.draft.micros d.body) (take l.decl-index l.draft.decls) ≡ None
