use Rattle.std.proofs.Common.{◌≡◌, [], take, map}
use Rattle.samoa_grammar.specs.Meaning.{edge_numbers, edges_after}
use Rattle.samoa_naming.proofs.routes.edges_once.Given as goal

abbrev pub invariant-loop-edge : goal.invariant-loop-edge
invariant-loop-edge l = l.found.items ≡ edges_after [] (map (edge_numbers l.draft.micros l.vertices) (take l.edge-index l.edges))
