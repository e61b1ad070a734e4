use Rattle.std.proofs.Common.{◌≡◌, take, map}
use Rattle.serde_json.specs.View.{view}
use Rattle.samoa_print.specs.Canonical.{edge_tree}
use Rattle.samoa_print.proofs.decls.each_edge.Given as goal

abbrev pub invariant-loop-edge : goal.invariant-loop-edge
invariant-loop-edge l = map view l.values.items ≡ map (edge_tree l.script l.vertices) (take l.edge-index l.edges)
