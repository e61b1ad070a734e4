-- Instructions of a scripted handler.
use Rattle.std.specs.Prelude.{ℕ, ◌-◌, ◌^◌, min, Bool, ◌&&◌, ◌==◌, List, [], ◌∷◌, nat_le, codes, bytes_eq, Option, Some, None, option_map, option_and_then, unwrap_or, is_some, if◌then◌else◌}
use Rattle.serde_json.specs.Data.{Data}
use Rattle.serde_json.specs.Find.{as_str}
use Rattle.samoa_model.specs.declared.setup.Place.{Place}
use Rattle.samoa_model.specs.declared.setup.Place.TheVariants.{Reg, Local}
use Rattle.samoa_model.specs.declared.setup.Instr.{Instr}
use Rattle.samoa_model.specs.declared.setup.Instr.TheVariants as instr
use Rattle.samoa_grammar.specs.Tree.{list_of, number_in}

-- the place of a letter and a digit
abbrev pub place_at : ℕ → ℕ → Option Place
place_at letter digit =
    if nat_le 48 digit && nat_le digit 51 then
    (if letter == 114 then Some (Reg (digit - 48)) else (if letter == 120 then Some (Local (digit - 48)) else None))
    else None

-- `r0` to `r3` and `x0` to `x3`
abbrev pub place_named : List ℕ → Option Place
place_named [] = None
place_named (letter ∷ []) = None
place_named (letter ∷ digit ∷ []) = place_at letter digit
place_named (letter ∷ digit ∷ more ∷ rest) = None

abbrev pub place_in : Data → Option Place
place_in d = option_and_then place_named (as_str d)

-- a number between bounds
abbrev pub number_between : ℕ → ℕ → ℕ → Option ℕ
number_between least most n = if nat_le least n && nat_le n most then Some n else None

-- how many words are sent
abbrev pub count_in : Data → Option ℕ
count_in d = option_and_then (number_between 0 4) (number_in d)

-- how many instructions are skipped
abbrev pub skip_in : Data → Option ℕ
skip_in d = option_and_then (number_between 1 31) (number_in d)

-- a position among the ports or the changes. No list is as long as the greatest that is told apart
abbrev pub position_in : Data → Option ℕ
position_in d = option_map (λ n. min n (2 ^ 32 - 1)) (number_in d)

-- an instruction by its word and what stands after it
abbrev pub after_one : List ℕ → Data → Option Instr
after_one word k =
    if bytes_eq word (codes "deliver") then option_map (λ n. instr.Deliver n) (count_in k) else
    if bytes_eq word (codes "done") then option_map (λ n. instr.Done n) (count_in k) else
    None

abbrev pub of_places : (Place → Place → Instr) → Data → Data → Option Instr
of_places make d s = option_and_then (λ to. option_map (λ from. make to from) (place_in s)) (place_in d)

abbrev pub of_position : (ℕ → ℕ → Instr) → Data → Data → Option Instr
of_position make port k = option_and_then (λ at. option_map (λ n. make at n) (count_in k)) (position_in port)

abbrev pub after_two : List ℕ → Data → Data → Option Instr
after_two word a b =
    if bytes_eq word (codes "set") then option_and_then (λ to. option_map (λ n. instr.Set to n) (number_in b)) (place_in a) else
    if bytes_eq word (codes "copy") then of_places (λ to from. instr.Copy to from) a b else
    if bytes_eq word (codes "add") then of_places (λ to from. instr.Add to from) a b else
    if bytes_eq word (codes "sub") then of_places (λ to from. instr.Sub to from) a b else
    if bytes_eq word (codes "call") then of_position (λ port k. instr.Call port k) a b else
    if bytes_eq word (codes "later") then of_position (λ port k. instr.Later port k) a b else
    if bytes_eq word (codes "change") then of_position (λ c k. instr.Change c k) a b else
    None

abbrev pub after_three : List ℕ → Data → Data → Data → Option Instr
after_three word a b c =
    if bytes_eq word (codes "less") then
    option_and_then (λ s. option_and_then (λ t. option_map (λ j. instr.Less s t j) (skip_in c)) (place_in b)) (place_in a) else
    if bytes_eq word (codes "send") then
    option_and_then (λ s. option_and_then (λ port. option_map (λ k. instr.Send s port k) (count_in c)) (position_in b)) (place_in a) else
    None

abbrev pub after_word : List ℕ → List Data → Option Instr
after_word word [] = None
after_word word (a ∷ []) = after_one word a
after_word word (a ∷ b ∷ []) = after_two word a b
after_word word (a ∷ b ∷ c ∷ []) = after_three word a b c
after_word word (a ∷ b ∷ c ∷ d ∷ more) = None

abbrev pub instr_among : List Data → Option Instr
instr_among [] = None
instr_among (word ∷ rest) = option_and_then (λ text. after_word text rest) (as_str word)

-- the instruction that a part of the tree is, if it is one
unfoldable pub instr_in : Data → Option Instr
instr_in d = instr_among (list_of d)

abbrev pub is_instr : Data → Bool
is_instr d = is_some (instr_in d)

abbrev pub instr_of : Data → Instr
instr_of d = unwrap_or (instr_in d) (instr.Done 0)
