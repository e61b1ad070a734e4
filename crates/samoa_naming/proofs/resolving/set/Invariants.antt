use Rattle.std.proofs.Common.{◌≡◌, take, map}
use Rattle.samoa_grammar.specs.Meaning.{number_in_names, micros_named}
use Rattle.samoa_naming.proofs.resolving.set.Given as goal

abbrev pub invariant-loop-name : goal.invariant-loop-name
invariant-loop-name l = l.found.items ≡ map (number_in_names (micros_named l.draft)) (take l.name-index l.names)
