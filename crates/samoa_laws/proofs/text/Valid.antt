-- The names of a script that a text can hold.
use Rattle.std.proofs.Common.{◌≡◌, sym, ◌∙◌, ℕ, zero, suc, ◌<◌, arith, List, [], ◌∷◌, get_or, length, map, refl, ◌⊎◌, inl, inr}
use Rattle.std.specs.List as list
use Rattle.std.proofs.lemmas.List.{length-map}
use Rattle.std.proofs.lemmas.List.Elements.{All-head, All-tail}
use Rattle.samoa_model.specs.declared.script.ChangeDef.{ChangeDef}
use Rattle.samoa_model.specs.declared.script.CodeDef.{CodeDef}
use Rattle.samoa_model.specs.declared.script.EventDef.{EventDef}
use Rattle.samoa_model.specs.declared.script.MicroDef.{MicroDef}
use Rattle.samoa_model.specs.declared.script.Script.{Script}
use Rattle.samoa_model.specs.Scripts.{no_micro}
use Rattle.samoa_model.specs.Valid.{AreApart, IsMicroValid, IsValid}
use Rattle.samoa_serial.specs.Lists.{Each}
use Rattle.samoa_laws.specs.text.Deliveries.{HasNames, IsName}

each_named : {X : Type 0} (name : X → List ℕ) (xs : List X) → list.All IsName (map name xs) → Each (λ x. IsName (name x)) xs
each_named name [] all = tt
each_named name (x ∷ xs) all =
    (All-head IsName (name x) (map name xs) all, each_named name xs (All-tail IsName (name x) (map name xs) all))

handlers_named : (ms : List MicroDef) → list.All IsMicroValid ms → Each (λ (m : MicroDef). Each (λ (c : CodeDef). IsName c.name) m.handlers) ms
handlers_named [] all = tt
handlers_named (m ∷ ms) all =
    (each_named (λ (c : CodeDef). c.name) m.handlers (All-head IsMicroValid m ms all).names.each, handlers_named ms (All-tail IsMicroValid m ms all))

name_at : (ms : List MicroDef) (p : ℕ) → (get_or ms p no_micro).name ≡ get_or (map (λ (m : MicroDef). m.name) ms) p []
name_at [] p = refl
name_at (m ∷ ms) zero = refl
name_at (m ∷ ms) (suc p) = name_at ms p

either_way : (p q : ℕ) → (p ≡ q) ⊎ ((p < q) ⊎ (q < p))
either_way zero zero = inl refl
either_way zero (suc q) = inr (inl (omega arith))
either_way (suc p) zero = inr (inr (omega arith))
either_way (suc p) (suc q) = next (either_way p q)
  where
    next : (p ≡ q) ⊎ ((p < q) ⊎ (q < p)) → (suc p ≡ suc q) ⊎ ((suc p < suc q) ⊎ (suc q < suc p))
    next (inl is) = inl (omega (arith, is))
    next (inr (inl less)) = inr (inl (omega (arith, less)))
    next (inr (inr more)) = inr (inr (omega (arith, more)))

-- equal items of a list without repetition stand at one place
one_place : (names : List (List ℕ)) → AreApart names → (p q : ℕ) → p < length names → q < length names
    → get_or names p [] ≡ get_or names q [] → p ≡ q
one_place names apart p q low high same = at (either_way p q)
  where
    at : (p ≡ q) ⊎ ((p < q) ⊎ (q < p)) → p ≡ q
    at (inl is) = is
    at (inr (inl less)) = absurd (apart p q [] less high same)
    at (inr (inr more)) = absurd (apart q p [] more low (sym same))

pub valid_names : (script : Script) → IsValid script → HasNames script
valid_names script valid = record {
  micros = each_named (λ (m : MicroDef). m.name) script.micros valid.micro_names.each;
  handlers = handlers_named script.micros valid.micros;
  events = each_named (λ (e : EventDef). e.name) script.events valid.event_names.each;
  changes = each_named (λ (c : ChangeDef). c.name) script.changes valid.change_names.each;
  apart = λ p q low high same.
      one_place (map (λ (m : MicroDef). m.name) script.micros) valid.micro_names.apart p q
      (omega (arith, low, length-map script.micros (λ (m : MicroDef). m.name)))
      (omega (arith, high, length-map script.micros (λ (m : MicroDef). m.name)))
      (sym (name_at script.micros p) ∙ (same ∙ name_at script.micros q));
}
