-- The names of a microprotocol's handlers, by their numbers.
use Rattle.std.proofs.Common.{◌≡◌, ℕ, ◌-◌, ◌<◌, ◌≤◌, List, [], length, get_or, map, Bor, sym, ap, ◌∙◌}
use Rattle.std.proofs.lemmas.List.{get_or_append_left, get_or-append_right, get_or-map, length-map, get_or_past}
use Rattle.samoa_model.specs.declared.script.CodeDef.{CodeDef}
use Rattle.samoa_model.specs.declared.script.MicroDef.{MicroDef}
use Rattle.samoa_model.specs.Handlers.{handlers_of_kind, names_of_handlers}

-- a number below the number of the script's handlers names one of those
pub name_of_script : (m : MicroDef) (i : ℕ) (h : CodeDef) → i < length m.handlers → h ≡ get_or m.handlers i h → get_or (names_of_handlers m) i [] ≡ h.name
name_of_script m i h below is =
    let names : List (List ℕ) = map (λ (c : CodeDef). c.name) m.handlers in
    let inside : i < length names = rw (length-map m.handlers (λ (c : CodeDef). c.name)) below in
    get_or_append_left names (handlers_of_kind m.kind) [] i inside
    ∙ get_or-map (λ (c : CodeDef). c.name) m.handlers i h [] below
    ∙ ap (λ (c : CodeDef). c.name) (sym is)

-- a greater number names a handler of the kind
pub name_of_kind : (m : MicroDef) (i : ℕ) → length m.handlers ≤ i → get_or (names_of_handlers m) i [] ≡ get_or (handlers_of_kind m.kind) (i - length m.handlers) []
name_of_kind m i past =
    get_or-append_right (map (λ (c : CodeDef). c.name) m.handlers) (handlers_of_kind m.kind) (length m.handlers) i []
    (length-map m.handlers (λ (c : CodeDef). c.name)) past

pub picked : (names : List (Bor (List ℕ))) (i : ℕ) (n : Bor (List ℕ)) → i < length names → n ≡ get_or names i n → get_or (map (λ (t : Bor (List ℕ)). t.now) names) i [] ≡ n.now
picked names i n below is =
    get_or-map (λ (t : Bor (List ℕ)). t.now) names i n [] below ∙ ap (λ (t : Bor (List ℕ)). t.now) (sym is)

pub none_picked : (names : List (Bor (List ℕ))) (i : ℕ) → length names ≤ i → get_or (map (λ (t : Bor (List ℕ)). t.now) names) i [] ≡ []
none_picked names i past = get_or_past (map (λ (t : Bor (List ℕ)). t.now) names) i [] (rw (length-map names (λ (t : Bor (List ℕ)). t.now)) past)
