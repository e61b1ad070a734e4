use Rattle.std.proofs.Common.{◌≡◌, true, take, map}
use Rattle.std.specs.List.{list_all}
use Rattle.serde_json.specs.View.{view}
use Rattle.samoa_form.proofs.lists.each_item.Given as goal

abbrev pub invariant-loop-item : goal.invariant-loop-item
invariant-loop-item g l = record {
  read : l.found.items ≡ map g.T.Item.meaning (map view (take l.item-index l.list));
  pass : list_all g.T.Item.passes (map view (take l.item-index l.list)) ≡ true;
}
