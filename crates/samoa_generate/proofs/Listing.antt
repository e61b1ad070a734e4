-- Facts on lists that are there in full, by tests.
use Rattle.std.proofs.Common.{◌≡◌, ◌<◌, ◌≤◌, ℕ, length, Bool, true, false, List, [], ◌∷◌, bytes_eq, refl, sym, ap, ◌∙◌, arith}
use Rattle.std.specs.Prelude.{◌&&◌, not, nat_lt}
use Rattle.std.specs.List.{All, list_all}
use Rattle.std.proofs.lemmas.List.Elements.{All-weaker}
use Rattle.std.proofs.lemmas.List.Kept.{AllPairs-cons}
use Rattle.std.proofs.lemmas.List.Sums.{AllPass-from_list_all}
use Rattle.std.proofs.lemmas.Slice.Eq.{bytes_eq-Decides}
use Rattle.samoa_model.specs.NameRule.{is_script_name}
use Rattle.samoa_model.specs.Valid.{AreApart, AreNames}

pub both : (a b : Bool) → (a && b) ≡ true → (a ≡ true) × (b ≡ true)
both true b e = (refl, e)
both false b e = absurd (cc)

-- each item passes
pub pass : {X : Type 0} (test : X → Bool) (P : X → Type 0) → ((x : X) → test x ≡ true → P x) → (xs : List X) → list_all test xs ≡ true → All P xs
pass test P says xs e = All-weaker (λ x. test x ≡ true) P says xs (AllPass-from_list_all test xs e)

-- no item is like a later one
abbrev pub once : {X : Type 0} → (X → X → Bool) → List X → Bool
once same [] = true
once same (x ∷ xs) = list_all (λ y. not (same x y)) xs && once same xs

pub apart : {X : Type 0} (same : X → X → Bool) → ((x y : X) → x ≡ y → same x y ≡ true) → (xs : List X) → once same xs ≡ true → AreApart xs
apart same sees [] e = λ i j d first below. absurd (omega arith)
apart {X} same sees (x ∷ xs) e =
    let parts = both (list_all (λ (y : X). not (same x y)) xs) (once same xs) e in
    AllPairs-cons (λ (a b : X). a ≡ b → ⊥) x xs (pass (λ (y : X). not (same x y)) (λ (y : X). x ≡ y → ⊥) differ xs parts.0) (apart same sees xs parts.1)
  where
    differ : (y : X) → not (same x y) ≡ true → x ≡ y → ⊥
    differ y e is = let f : not true ≡ true = ap not (sym (sees x y is)) ∙ e in cc

pub alone : {X : Type 0} (xs : List X) → length xs ≤ 1 → AreApart xs
alone xs few = λ i j d first within. absurd (omega arith)

-- these are names, none twice
pub names : (xs : List (List ℕ)) → list_all is_script_name xs ≡ true → once bytes_eq xs ≡ true → AreNames xs
names xs each alone = record { each = AllPass-from_list_all is_script_name xs each; apart = apart bytes_eq same_bytes xs alone }
  where
    same_bytes : (x y : List ℕ) → x ≡ y → bytes_eq x y ≡ true
    same_bytes x y is = grind (arith, bytes_eq-Decides x y, is)

pub below : {X : Type 0} (f : X → ℕ) (n : ℕ) (xs : List X) → list_all (λ x. nat_lt (f x) n) xs ≡ true → All (λ x. f x < n) xs
below {X} f n xs e = pass (λ (x : X). nat_lt (f x) n) (λ (x : X). f x < n) (λ x t. grind (arith, t)) xs e
