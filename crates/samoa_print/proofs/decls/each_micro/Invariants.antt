use Rattle.std.proofs.Common.{◌≡◌, take, map}
use Rattle.serde_json.specs.View.{view}
use Rattle.samoa_print.specs.Canonical.{micro_name_tree}
use Rattle.samoa_print.proofs.decls.each_micro.Given as goal

abbrev pub invariant-loop-micro : goal.invariant-loop-micro
invariant-loop-micro l = map view l.values.items ≡ map (micro_name_tree l.script) (take l.micro-index l.micros)
