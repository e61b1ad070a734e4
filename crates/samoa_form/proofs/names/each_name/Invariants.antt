use Rattle.std.proofs.Common.{◌≡◌, true, take, map}
use Rattle.std.specs.List.{list_all}
use Rattle.serde_json.specs.View.{view}
use Rattle.samoa_grammar.specs.Tree.{text_of}
use Rattle.samoa_form.specs.Reads.{is_named}
use Rattle.samoa_form.proofs.names.each_name.Given as goal

abbrev pub invariant-loop-item : goal.invariant-loop-item
invariant-loop-item l = record {
  read : l.found.items ≡ map text_of (map view (take l.item-index l.list));
  pass : list_all (is_named l.form) (map view (take l.item-index l.list)) ≡ true;
}
