use Rattle.std.proofs.Common.{◌≡◌, take, map}
use Rattle.samoa_grammar.specs.Meaning.{change_meant}
use Rattle.samoa_naming.proofs.resolving.change_defs.Given as goal

abbrev pub invariant-loop-change : goal.invariant-loop-change
invariant-loop-change l = l.found.items ≡ map (change_meant l.draft) (take l.change-index l.draft.changes)
