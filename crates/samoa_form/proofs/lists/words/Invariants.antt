use Rattle.std.proofs.Common.{◌≡◌, take, map}
use Rattle.serde_json.specs.View.{view}
use Rattle.samoa_grammar.specs.Tree.{number_of}
use Rattle.samoa_form.proofs.lists.words.Given as goal

abbrev pub invariant-loop-item : goal.invariant-loop-item
invariant-loop-item l = l.words ≡ map number_of (map view (take l.item-index l.list))
