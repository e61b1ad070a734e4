-- Names in a JSON tree.
use Rattle.std.specs.Prelude.{◌≡◌, ℕ, Bool, true, ◌&&◌, ◌==◌, List, length, nat_lt}
use Rattle.std.specs.List.{before_first, after_first, position_or_len}
use Rattle.serde_json.specs.Data.{Data}
use Rattle.samoa_model.specs.NameRule.{is_script_name}
use Rattle.samoa_grammar.specs.Tree.{is_text, text_of}

abbrev pub is_name : Data → Bool
is_name d = is_text d && is_script_name (text_of d)

abbrev pub is_dot : ℕ → Bool
is_dot c = c == 46

abbrev pub has_dot : List ℕ → Bool
has_dot text = nat_lt (position_or_len is_dot text) (length text)

-- a handler name is two names joined by one dot
abbrev pub micro_part : List ℕ → List ℕ
micro_part text = before_first is_dot text

abbrev pub handler_part : List ℕ → List ℕ
handler_part text = after_first is_dot text

abbrev pub is_handler_text : List ℕ → Bool
is_handler_text text = has_dot text && (is_script_name (micro_part text) && is_script_name (handler_part text))

abbrev pub IsHandlerText : List ℕ → Type 0
IsHandlerText text = is_handler_text text ≡ true

abbrev pub is_handler_name : Data → Bool
is_handler_name d = is_text d && is_handler_text (text_of d)
