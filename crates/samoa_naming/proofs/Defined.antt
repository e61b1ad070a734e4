-- A name that is defined, turned into a number, is the name of that number.
use Rattle.std.proofs.Common.{◌≡◌, ℕ, ◌+◌, ◌<◌, true, List, [], ◌∷◌, ◌++◌, length, map, get_or, take, drop, Option, Some, None, refl, sym, ap, ap₂, ◌∙◌, cond}
use Rattle.std.specs.Prelude.{unwrap_or, option_map, option_and_then, is_some, codes, bytes_eq}
use Rattle.std.specs.List.{position, position_or_len}
use Rattle.std.proofs.lemmas.Bool.{and_parts}
use Rattle.std.proofs.lemmas.List.{take_more, take-append-drop}
use Rattle.std.proofs.lemmas.List.Quantifiers.{position-Some}
use Rattle.std.proofs.lemmas.Slice.Eq.{bytes_eq-Decides}
use Rattle.samoa_model.specs.Allowed.{no_handler}
use Rattle.samoa_model.specs.Scripts.{no_micro, no_event, micro_at, event_at}
use Rattle.samoa_model.specs.Handlers.{names_of_handlers, handler_text}
use Rattle.samoa_model.specs.declared.ids.HandlerId.{HandlerId}
use Rattle.samoa_model.specs.declared.script.MicroDef.{MicroDef}
use Rattle.samoa_model.specs.declared.script.DeclDef.{DeclDef}
use Rattle.samoa_model.specs.declared.script.EventDef.{EventDef}
use Rattle.samoa_model.specs.declared.script.ChangeDef.{ChangeDef}
use Rattle.samoa_model.specs.declared.script.Script.{Script}
use Rattle.samoa_grammar.specs.declared.draft.MicroDraft.{MicroDraft}
use Rattle.samoa_grammar.specs.declared.draft.DeclDraft.{DeclDraft}
use Rattle.samoa_grammar.specs.declared.draft.EventDraft.{EventDraft}
use Rattle.samoa_grammar.specs.declared.draft.ChangeDraft.{ChangeDraft}
use Rattle.samoa_grammar.specs.declared.draft.Draft.{Draft}
use Rattle.samoa_grammar.specs.Names.{is_dot, has_dot, micro_part, handler_part, IsHandlerText}
use Rattle.samoa_grammar.specs.Meaning.{number_in_names, handler_names, no_micro_draft, handler_in, handler_of, event_named, micro_meant, decl_meant, event_meant, change_meant, script_of}
use Rattle.samoa_grammar.specs.Passes.{among, micro_names, event_names, handler_unknown}
use Rattle.samoa_grammar.proofs.Dedup.{equal_numbers}
use Rattle.samoa_grammar.proofs.Lists.{name_at}
use Rattle.samoa_naming.proofs.Sizes.{when_passes}
use Rattle.samoa_naming.proofs.Apart.{number_back}
use Rattle.samoa_naming.proofs.Decls.{names_kept}

-- ---- names of a script

pub micros_kept : (x : Draft) (ms : List MicroDraft) → map (λ (m : MicroDef). m.name) (map (micro_meant x) ms) ≡ map (λ (m : MicroDraft). m.name) ms
unfolding micro_meant
micros_kept x [] = refl
micros_kept x (m ∷ ms) = ap (λ ns. m.name ∷ ns) (micros_kept x ms)

pub decls_kept : (x : Draft) (ds : List DeclDraft) → map (λ (d : DeclDef). d.name) (map (decl_meant x) ds) ≡ map (λ (d : DeclDraft). d.name) ds
unfolding decl_meant
decls_kept x [] = refl
decls_kept x (d ∷ ds) = ap (λ ns. d.name ∷ ns) (decls_kept x ds)

pub events_kept : (x : Draft) (es : List EventDraft) → map (λ (e : EventDef). e.name) (map (event_meant x) es) ≡ map (λ (e : EventDraft). e.name) es
unfolding event_meant
events_kept x [] = refl
events_kept x (e ∷ es) = ap (λ ns. e.name ∷ ns) (events_kept x es)

pub changes_kept : (x : Draft) (cs : List ChangeDraft) → map (λ (c : ChangeDef). c.name) (map (change_meant x) cs) ≡ map (λ (c : ChangeDraft). c.name) cs
unfolding change_meant
changes_kept x [] = refl
changes_kept x (c ∷ cs) = ap (λ ns. c.name ∷ ns) (changes_kept x cs)

micro_text_is : (x : Draft) (p : ℕ) → (micro_at (script_of x) p).name ≡ get_or (micro_names x) p []
unfolding script_of
micro_text_is x p = name_at (λ (m : MicroDef). m.name) no_micro refl (map (micro_meant x) x.micros) p ∙ ap (λ ns. get_or ns p []) (micros_kept x x.micros)

event_text_is : (x : Draft) (p : ℕ) → (event_at (script_of x) p).name ≡ get_or (event_names x) p []
unfolding script_of
event_text_is x p = name_at (λ (e : EventDef). e.name) no_event refl (map (event_meant x) x.events) p ∙ ap (λ ns. get_or ns p []) (events_kept x x.events)

pub event_back_is : (x : Draft) (name : List ℕ) → among (event_names x) name ≡ None → (event_at (script_of x) (event_named x name).0).name ≡ name
event_back_is x name h = event_text_is x (number_in_names (event_names x) name) ∙ number_back (event_names x) name h

-- ---- names of handlers

-- the two numbers of a handler that is defined
record IsDefined (micros : List MicroDraft) (name : List ℕ) : Type 0 where
  micro : ℕ
  own : ℕ
  micro_is : position (bytes_eq (micro_part name)) (map (λ (m : MicroDraft). m.name) micros) ≡ Some micro
  own_is : position (bytes_eq (handler_part name)) (handler_names (get_or micros micro no_micro_draft)) ≡ Some own

of_then : {X Y : Type 0} (f : X → Option Y) (o : Option X) → is_some (option_and_then f o) ≡ true → (v : X) × (o ≡ Some v) × (is_some (f v) ≡ true)
of_then f None h = cc
of_then f (Some v) h = (v, refl, h)

of_map : {X Y : Type 0} (f : X → Y) (o : Option X) → is_some (option_map f o) ≡ true → (v : X) × (o ≡ Some v)
of_map f None h = cc
of_map f (Some v) h = (v, refl)

handler_found : (micros : List MicroDraft) (name : List ℕ) → handler_unknown micros name ≡ None → IsDefined micros name
handler_found micros name h =
    let found = when_passes (is_some (handler_in micros name)) _ h in
    let own = λ (p : ℕ). position (bytes_eq (handler_part name)) (handler_names (get_or micros p no_micro_draft)) in
    let made = λ (p q : ℕ). (let r : HandlerId = record { micro = record { 0 = p }; index = q } in r) in
    let first = of_then (λ (p : ℕ). option_map (made p) (own p)) (position (bytes_eq (micro_part name)) (map (λ (m : MicroDraft). m.name) micros)) found in
    let second = of_map (made first.0) (own first.0) first.2 in
    record { micro = first.0; own = second.0; micro_is = first.1; own_is = second.1 }

handler_is : (micros : List MicroDraft) (name : List ℕ) (d : IsDefined micros name) → handler_in micros name ≡ Some (record { micro = record { 0 = d.micro }; index = d.own })
handler_is micros name d =
    let made = λ (p q : ℕ). (let r : HandlerId = record { micro = record { 0 = p }; index = q } in r) in
    ap (λ o. option_and_then (λ (p : ℕ). option_map (made p) (position (bytes_eq (handler_part name)) (handler_names (get_or micros p no_micro_draft)))) o) d.micro_is
    ∙ ap (λ o. option_map (made d.micro) o) d.own_is

-- the item at a place that was found
found_is : (names : List (List ℕ)) (name : List ℕ) (i : ℕ) → position (bytes_eq name) names ≡ Some i → get_or names i [] ≡ name
found_is names name i h = sym ((bytes_eq-Decides name (get_or names i [])).0 (position-Some (bytes_eq name) names i [] h).1)

own_text_is : (x : Draft) (p : ℕ) → names_of_handlers (micro_at (script_of x) p) ≡ handler_names (get_or x.micros p no_micro_draft)
unfolding script_of
own_text_is x p = names_kept x x.micros p

-- a text is what stands before a place, the item there, and what stands after it
cut_at : (xs : List ℕ) (i c : ℕ) → i < length xs → get_or xs i 0 ≡ c → (take i xs ++ c ∷ []) ++ drop (i + 1) xs ≡ xs
cut_at xs i c below is =
    ap (λ ys. ys ++ drop (i + 1) xs) (ap (λ z. take i xs ++ z ∷ []) (sym is) ∙ sym (take_more xs i 0 below)) ∙ take-append-drop (i + 1) xs

dot_place : (t : List ℕ) → has_dot t ≡ true → position is_dot t ≡ Some (position_or_len is_dot t)
dot_place t h = ap (λ b. cond b (Some (position_or_len is_dot t)) None) h

dot_is : (c : ℕ) → is_dot c ≡ true → c ≡ 46
dot_is c h = equal_numbers c 46 h

parts_are : (t : List ℕ) → has_dot t ≡ true → (micro_part t ++ codes ".") ++ handler_part t ≡ t
parts_are t h =
    let place = position-Some is_dot t (position_or_len is_dot t) 0 (dot_place t h) in
    cut_at t (position_or_len is_dot t) 46 place.0 (dot_is (get_or t (position_or_len is_dot t) 0) place.1)

text_at : (s : Script) (p h : ℕ) → handler_text s (record { micro = record { 0 = p }; index = h }) ≡ ((micro_at s p).name ++ codes ".") ++ get_or (names_of_handlers (micro_at s p)) h []
text_at s p h = refl

-- a handler that is defined has the name that it was found by
pub handler_back_is : (x : Draft) (name : List ℕ) → handler_unknown x.micros name ≡ None → IsHandlerText name → handler_text (script_of x) (handler_of x.micros name) ≡ name
handler_back_is x name known named =
    let d = handler_found x.micros name known in
    let is = ap (λ o. unwrap_or o no_handler) (handler_is x.micros name d) in
    let micro = micro_text_is x d.micro ∙ found_is (micro_names x) (micro_part name) d.micro d.micro_is in
    let own = ap (λ ns. get_or ns d.own []) (own_text_is x d.micro) ∙ found_is (handler_names (get_or x.micros d.micro no_micro_draft)) (handler_part name) d.own d.own_is in
    ap (handler_text (script_of x)) is
    ∙ text_at (script_of x) d.micro d.own
    ∙ ap₂ (λ a b. (a ++ codes ".") ++ b) micro own
    ∙ parts_are name (and_parts (has_dot name) _ named).0
