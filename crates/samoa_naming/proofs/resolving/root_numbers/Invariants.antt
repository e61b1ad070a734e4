use Rattle.std.proofs.Common.{◌≡◌, take, map}
use Rattle.samoa_grammar.specs.Meaning.{vertex_of}
use Rattle.samoa_naming.proofs.resolving.root_numbers.Given as goal

abbrev pub invariant-loop-root : goal.invariant-loop-root
invariant-loop-root l = l.found.items ≡ map (vertex_of l.vertices) (take l.root-index l.roots)
