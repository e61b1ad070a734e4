use Rattle.std.proofs.Common.{◌≡◌, take, map}
use Rattle.samoa_grammar.specs.Meaning.{micro_meant}
use Rattle.samoa_naming.proofs.resolving.micro_defs.Given as goal

abbrev pub invariant-loop-micro : goal.invariant-loop-micro
invariant-loop-micro l = l.found.items ≡ map (micro_meant l.draft) (take l.micro-index l.draft.micros)
