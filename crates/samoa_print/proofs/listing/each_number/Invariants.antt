use Rattle.std.proofs.Common.{◌≡◌, take, map}
use Rattle.serde_json.specs.View.{view}
use Rattle.samoa_print.specs.Canonical.{number_tree}
use Rattle.samoa_print.proofs.listing.each_number.Given as goal

abbrev pub invariant-loop-number : goal.invariant-loop-number
invariant-loop-number l = map view l.values.items ≡ map number_tree (take l.number-index l.numbers)
