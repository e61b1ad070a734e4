-- The canonical tree of an instruction is that instruction again.
use Rattle.std.proofs.Common.{◌≡◌, ℕ, zero, suc, ◌-◌, ◌^◌, Bool, true, Some, None, refl, ap, ap₂, ◌∙◌, arith, cond}
use Rattle.std.specs.Prelude.{◌&&◌, min, unwrap_or, nat_le, nat_lt, option_and_then, option_map, is_some}
use Rattle.std.proofs.lemmas.Bool.{and_parts}
use Rattle.std.proofs.lemmas.Bool.Decides.{nat_tests}
use Rattle.samoa_model.specs.declared.setup.Place.{Place}
use Rattle.samoa_model.specs.declared.setup.Place.TheVariants.{Reg, Local}
use Rattle.samoa_model.specs.declared.setup.Instr.{Instr}
use Rattle.samoa_model.specs.declared.setup.Instr.TheVariants as instr
use Rattle.samoa_grammar.specs.Instrs.{place_in, count_in, skip_in, position_in, of_places, of_position, instr_in, is_instr, instr_of}
use Rattle.samoa_print.specs.Canonical.{number_tree, place_tree, instr_tree}

-- ---- instructions whose numbers keep to their limits

abbrev pub is_place : Place → Bool
is_place (Reg n) = nat_lt n 4
is_place (Local n) = nat_lt n 4

abbrev pub is_count : ℕ → Bool
is_count k = nat_le 0 k && nat_le k 4

abbrev pub is_skip : ℕ → Bool
is_skip j = nat_le 1 j && nat_le j 31

abbrev pub is_position : ℕ → Bool
is_position port = nat_le port (2 ^ 32 - 1)

abbrev pub is_proper : Instr → Bool
is_proper (instr.Set d n) = is_place d
is_proper (instr.Copy d s) = is_place d && is_place s
is_proper (instr.Add d s) = is_place d && is_place s
is_proper (instr.Sub d s) = is_place d && is_place s
is_proper (instr.Less s t j) = is_place s && (is_place t && is_skip j)
is_proper (instr.Call port k) = is_position port && is_count k
is_proper (instr.Later port k) = is_position port && is_count k
is_proper (instr.Send s port k) = is_place s && (is_position port && is_count k)
is_proper (instr.Deliver k) = is_count k
is_proper (instr.Change c k) = is_position c && is_count k
is_proper (instr.Done k) = is_count k

abbrev pub IsProper : Instr → Type 0
IsProper i = is_proper i ≡ true

-- ---- the canonical tree of an instruction

too_great : (n : ℕ) → nat_lt (suc (suc (suc (suc n)))) 4 ≡ true → ⊥
too_great n h = grind (arith, nat_tests)

place_again : (p : Place) → is_place p ≡ true → place_in (place_tree p) ≡ Some p
place_again (Reg zero) h = refl
place_again (Reg (suc zero)) h = refl
place_again (Reg (suc (suc zero))) h = refl
place_again (Reg (suc (suc (suc zero)))) h = refl
place_again (Reg (suc (suc (suc (suc n))))) h = absurd (too_great n h)
place_again (Local zero) h = refl
place_again (Local (suc zero)) h = refl
place_again (Local (suc (suc zero))) h = refl
place_again (Local (suc (suc (suc zero)))) h = refl
place_again (Local (suc (suc (suc (suc n))))) h = absurd (too_great n h)

count_again : (k : ℕ) → is_count k ≡ true → count_in (number_tree k) ≡ Some k
count_again k h = ap (λ b. cond b (Some k) None) h

skip_again : (k : ℕ) → is_skip k ≡ true → skip_in (number_tree k) ≡ Some k
skip_again k h = ap (λ b. cond b (Some k) None) h

min_itself : (n : ℕ) → is_position n ≡ true → min n (2 ^ 32 - 1) ≡ n
min_itself n h = grind (arith, nat_tests)

position_again : (n : ℕ) → is_position n ≡ true → position_in (number_tree n) ≡ Some n
position_again n h = ap (λ m. Some m) (min_itself n h)

places_again : (make : Place → Place → Instr) (d s : Place) → (is_place d && is_place s) ≡ true → of_places make (place_tree d) (place_tree s) ≡ Some (make d s)
places_again make d s h =
    let p = and_parts (is_place d) (is_place s) h in
    ap₂ (λ a b. option_and_then (λ to. option_map (λ from. make to from) b) a) (place_again d p.0) (place_again s p.1)

positions_again : (make : ℕ → ℕ → Instr) (port k : ℕ) → (is_position port && is_count k) ≡ true → of_position make (number_tree port) (number_tree k) ≡ Some (make port k)
positions_again make port k h =
    let p = and_parts (is_position port) (is_count k) h in
    ap₂ (λ a b. option_and_then (λ at. option_map (λ n. make at n) b) a) (position_again port p.0) (count_again k p.1)

pub instr_again : (i : Instr) → IsProper i → instr_in (instr_tree i) ≡ Some i
unfolding instr_in instr_tree
instr_again (instr.Set d n) h = ap (λ a. option_and_then (λ to. option_map (λ m. instr.Set to m) (Some n)) a) (place_again d h)
instr_again (instr.Copy d s) h = places_again (λ to from. instr.Copy to from) d s h
instr_again (instr.Add d s) h = places_again (λ to from. instr.Add to from) d s h
instr_again (instr.Sub d s) h = places_again (λ to from. instr.Sub to from) d s h
instr_again (instr.Less s t j) h =
    let p = and_parts (is_place s) (is_place t && is_skip j) h in
    let q = and_parts (is_place t) (is_skip j) p.1 in
    ap₂ (λ a b. option_and_then (λ x. option_and_then (λ y. option_map (λ z. instr.Less x y z) (skip_in (number_tree j))) b) a) (place_again s p.0) (place_again t q.0)
    ∙ ap (λ c. option_map (λ z. instr.Less s t z) c) (skip_again j q.1)
instr_again (instr.Call port k) h = positions_again (λ port k. instr.Call port k) port k h
instr_again (instr.Later port k) h = positions_again (λ port k. instr.Later port k) port k h
instr_again (instr.Send s port k) h =
    let p = and_parts (is_place s) (is_position port && is_count k) h in
    let q = and_parts (is_position port) (is_count k) p.1 in
    ap₂ (λ a b. option_and_then (λ x. option_and_then (λ y. option_map (λ z. instr.Send x y z) (count_in (number_tree k))) b) a) (place_again s p.0) (position_again port q.0)
    ∙ ap (λ c. option_map (λ z. instr.Send s port z) c) (count_again k q.1)
instr_again (instr.Deliver k) h = ap (λ c. option_map (λ z. instr.Deliver z) c) (count_again k h)
instr_again (instr.Change c k) h = positions_again (λ port k. instr.Change port k) c k h
instr_again (instr.Done k) h = ap (λ c. option_map (λ z. instr.Done z) c) (count_again k h)

pub is_instr_again : (i : Instr) → IsProper i → is_instr (instr_tree i) ≡ true
is_instr_again i h = ap is_some (instr_again i h)

pub instr_of_again : (i : Instr) → IsProper i → instr_of (instr_tree i) ≡ i
instr_of_again i h = ap (λ o. unwrap_or o (instr.Done 0)) (instr_again i h)
