use Rattle.std.proofs.Common.{◌≡◌, take, map}
use Rattle.serde_json.specs.View.{view}
use Rattle.samoa_print.specs.Canonical.{bound_tree}
use Rattle.samoa_print.proofs.decls.each_bound.Given as goal

abbrev pub invariant-loop-bound : goal.invariant-loop-bound
invariant-loop-bound l = map view l.values.items ≡ map (bound_tree l.script) (take l.bound-index l.bounds)
