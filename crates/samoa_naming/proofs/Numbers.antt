-- Names that are defined have numbers below the length of their list.
use Rattle.std.proofs.Common.{◌≡◌, ℕ, ◌<◌, true, List, length, get_or, map, bytes_eq, Option, Some, None, refl, sym, subst}
use Rattle.std.specs.Prelude.{option_map, option_and_then, unwrap_or, is_some}
use Rattle.std.specs.List.{list_any, position}
use Rattle.std.proofs.lemmas.List.{length-map}
use Rattle.samoa_model.specs.declared.ids.HandlerId.{HandlerId}
use Rattle.samoa_model.specs.Allowed.{no_handler}
use Rattle.samoa_grammar.specs.declared.draft.MicroDraft.{MicroDraft}
use Rattle.samoa_grammar.specs.Names.{micro_part, handler_part}
use Rattle.samoa_grammar.specs.Meaning.{number_in_names, handler_names, no_micro_draft, handler_in, handler_of}
use Rattle.samoa_grammar.specs.Passes.{among, handler_unknown}
use Rattle.samoa_grammar.proofs.Dedup.{place_below, position_found}
use Rattle.samoa_names.proofs.Positions.{position_within}
use Rattle.samoa_naming.proofs.Sizes.{when_passes}

pub number_below : (names : List (List ℕ)) (name : List ℕ) → among names name ≡ None → number_in_names names name < length names
number_below names name h =
    let some : list_any (bytes_eq name) names ≡ true = when_passes (list_any (bytes_eq name) names) _ h in
    subst (λ o. unwrap_or o 0 < length names) (sym (position_found (bytes_eq name) names some)) (place_below (bytes_eq name) names some)

-- ---- handlers

abbrev at : ℕ → ℕ → HandlerId
at p h = record { micro = record { 0 = p }; index = h }

made_below : (p : ℕ) (o : Option ℕ) (len : ℕ) → p < len → is_some (option_map (at p) o) ≡ true → (unwrap_or (option_map (at p) o) no_handler).micro.0 < len
made_below p None len below some = absurd (cc)
made_below p (Some h) len below some = below

found_handler : (o : Option ℕ) (f : ℕ → Option ℕ) (len : ℕ) → ((p : ℕ) → o ≡ Some p → p < len) → is_some (option_and_then (λ p. option_map (at p) (f p)) o) ≡ true
    → (unwrap_or (option_and_then (λ p. option_map (at p) (f p)) o) no_handler).micro.0 < len
found_handler None f len below some = absurd (cc)
found_handler (Some p) f len below some = made_below p (f p) len (below p refl) some

pub handler_below : (micros : List MicroDraft) (name : List ℕ) → handler_unknown micros name ≡ None → (handler_of micros name).micro.0 < length micros
handler_below micros name h =
    let names = map (λ (m : MicroDraft). m.name) micros in
    let some : is_some (handler_in micros name) ≡ true = when_passes (is_some (handler_in micros name)) _ h in
    found_handler (position (bytes_eq (micro_part name)) names) (λ p. position (bytes_eq (handler_part name)) (handler_names (get_or micros p no_micro_draft))) (length micros)
    (λ p here. subst (λ n. p < n) (length-map micros (λ (m : MicroDraft). m.name)) (position_within (bytes_eq (micro_part name)) names p here))
    some

-- the number of a handler is below the number of handlers that its microprotocol has
made_there : (size : ℕ → ℕ) (p : ℕ) (o : Option ℕ) → ((i : ℕ) → o ≡ Some i → i < size p) → is_some (option_map (at p) o) ≡ true
    → (unwrap_or (option_map (at p) o) no_handler).index < size (unwrap_or (option_map (at p) o) no_handler).micro.0
made_there size p None below some = absurd (cc)
made_there size p (Some i) below some = below i refl

found_there : (size : ℕ → ℕ) (o : Option ℕ) (f : ℕ → Option ℕ) → ((p i : ℕ) → f p ≡ Some i → i < size p) → is_some (option_and_then (λ p. option_map (at p) (f p)) o) ≡ true
    → (unwrap_or (option_and_then (λ p. option_map (at p) (f p)) o) no_handler).index < size (unwrap_or (option_and_then (λ p. option_map (at p) (f p)) o) no_handler).micro.0
found_there size None f below some = absurd (cc)
found_there size (Some p) f below some = made_there size p (f p) (below p) some

pub handler_there : (micros : List MicroDraft) (name : List ℕ) → handler_unknown micros name ≡ None
    → (handler_of micros name).index < length (handler_names (get_or micros (handler_of micros name).micro.0 no_micro_draft))
handler_there micros name h =
    let own : ℕ → List (List ℕ) = λ p. handler_names (get_or micros p no_micro_draft) in
    let some : is_some (handler_in micros name) ≡ true = when_passes (is_some (handler_in micros name)) _ h in
    found_there (λ p. length (own p)) (position (bytes_eq (micro_part name)) (map (λ (m : MicroDraft). m.name) micros)) (λ p. position (bytes_eq (handler_part name)) (own p))
    (λ p i here. position_within (bytes_eq (handler_part name)) (own p) i here)
    some
