use Rattle.std.proofs.Common.{◌≡◌, None, take, map}
use Rattle.serde_json.specs.View.{view}
use Rattle.samoa_grammar.specs.Walks.{first_along}
use Rattle.samoa_form.proofs.lists.each_object.Given as goal

abbrev pub invariant-loop-item : goal.invariant-loop-item
invariant-loop-item g l = record {
  read : l.found.items ≡ map g.T.Part.meaning (map view (take l.item-index l.list));
  pass : first_along (g.T.Part.fault l.key) (map view (take l.item-index l.list)) ≡ None;
}
