use Rattle.std.proofs.Common.{◌≡◌, take, map}
use Rattle.serde_json.specs.View.{view}
use Rattle.samoa_print.specs.Canonical.{vertex_tree}
use Rattle.samoa_print.proofs.decls.each_root.Given as goal

abbrev pub invariant-loop-root : goal.invariant-loop-root
invariant-loop-root l = map view l.values.items ≡ map (vertex_tree l.script l.vertices) (take l.root-index l.roots)
