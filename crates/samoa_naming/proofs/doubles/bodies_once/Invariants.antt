use Rattle.std.proofs.Common.{◌≡◌, None, take}
use Rattle.samoa_grammar.specs.Walks.{first_along}
use Rattle.samoa_grammar.specs.declared.draft.DeclDraft.{DeclDraft}
use Rattle.samoa_grammar.specs.Passes.{body_twice}
use Rattle.samoa_naming.proofs.doubles.bodies_once.Given as goal

abbrev pub invariant-loop-decl : goal.invariant-loop-decl
invariant-loop-decl l = first_along (λ (d : DeclDraft). body_twice d.body) (take l.decl-index l.draft.decls) ≡ None
