use Rattle.std.proofs.Common.{◌≡◌, take, map}
use Rattle.samoa_grammar.specs.Meaning.{do_meant}
use Rattle.samoa_naming.proofs.resolving.do_defs.Given as goal

abbrev pub invariant-loop-item : goal.invariant-loop-item
invariant-loop-item l = l.found.items ≡ map (do_meant l.draft) (take l.item-index l.draft.does)
