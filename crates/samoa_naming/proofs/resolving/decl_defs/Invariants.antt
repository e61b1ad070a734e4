use Rattle.std.proofs.Common.{◌≡◌, take, map}
use Rattle.samoa_grammar.specs.Meaning.{decl_meant}
use Rattle.samoa_naming.proofs.resolving.decl_defs.Given as goal

abbrev pub invariant-loop-decl : goal.invariant-loop-decl
invariant-loop-decl l = l.found.items ≡ map (decl_meant l.draft) (take l.decl-index l.draft.decls)
