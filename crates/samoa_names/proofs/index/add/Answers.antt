use Rattle.std.proofs.Common.{◌≡◌, Some, None, bytes_eq, string_bytes, ap, ◌∙◌}
use Rattle.std.specs.HashMap.{get_by_text}
use Rattle.std.proofs.lemmas.Map.Text.{hash_map_updates_text}
use Rattle.samoa_names.specs.Names.{first_number}
use Rattle.samoa_names.proofs.Firsts.{absent, numbered}
use Rattle.samoa_names.proofs.index.add.Goals as goal

pub returns-in_ok-insert : goal.returns-in_ok-insert
returns-in_ok-insert c = λ q.
    let old = get_by_text c.args.firsts.now in
    let key = c.in_ok-from_str.field-0 in
    let none : old c.args.name.now ≡ None = absent (old c.args.name.now) cc in
    let gone : old (string_bytes key) ≡ None = ap old c.in_ok-from_str.ensures.ok ∙ none in
    hash_map_updates_text (string_bytes key) c.args.firsts.now c.insert.new.self (Some c.args.number) c.in_ok-insert.ensures.updates q
    ∙ numbered old (string_bytes key) q c.args.number gone
    ∙ ap (λ t. first_number (old q) (bytes_eq q t) c.args.number) c.in_ok-from_str.ensures.ok
