-- How long a handler's name is.
use Rattle.std.proofs.Common.{◌≡◌, ℕ, ◌+◌, ◌≤◌, ◌<◌, true, List, ◌∷◌, length, get_or, arith, ap, ◌∙◌, length-append}
use Rattle.std.specs.List.{position_or_len}
use Rattle.std.proofs.lemmas.Bool.{and_parts, leb-true, ltb-true}
use Rattle.std.proofs.lemmas.List.Sums.{split_at_first}
use Rattle.samoa_model.specs.NameRule.{is_script_name}
use Rattle.samoa_grammar.specs.Names.{is_dot, has_dot, micro_part, handler_part, is_handler_text}

name_length : (text : List ℕ) → is_script_name text ≡ true → length text ≤ 16
name_length text h = leb-true _ _ (and_parts _ _ (and_parts _ _ h).1).0

joined : (text : List ℕ) → has_dot text ≡ true → length text ≡ length (micro_part text) + (1 + length (handler_part text))
joined text h =
    let split = split_at_first is_dot text 0 (ltb-true _ _ h) in
    ap length split ∙ (length-append (micro_part text) (get_or text (position_or_len is_dot text) 0 ∷ handler_part text) ∙ omega arith)

pub some_byte : (text : List ℕ) → is_handler_text text ≡ true → 0 < length text
some_byte text h = omega (arith, joined text (and_parts _ _ h).0)

few_joined : (text : List ℕ) → has_dot text ≡ true → is_script_name (micro_part text) ≡ true → is_script_name (handler_part text) ≡ true → length text ≤ 33
few_joined text dot micro handler = omega (arith, joined text dot, name_length (micro_part text) micro, name_length (handler_part text) handler)

pub few_bytes : (text : List ℕ) → is_handler_text text ≡ true → length text ≤ 33
few_bytes text h =
    let names : (is_script_name (micro_part text) ≡ true) × (is_script_name (handler_part text) ≡ true) = and_parts _ _ (and_parts _ _ h).1 in
    few_joined text (and_parts _ _ h).0 names.0 names.1
