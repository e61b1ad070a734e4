-- Two majorities of the nodes have a common node.
use Rattle.std.proofs.Common.{◌≡◌, ◌⊎◌, inl, inr, ℕ, ◌+◌, ◌/◌, ◌-◌, ◌%◌, ◌<◌, ◌≤◌, Bool, true, false, ◌||◌, eqb, List, [], ◌∷◌, ◌++◌, length, refl, arith, length-append, ◌==◌, if◌then◌else◌, eqb-true}
use Rattle.std.specs.Prelude.{⊤}
use Rattle.std.specs.List.{list_any, IsDistinct, AllByRecursion}
use Rattle.std.proofs.lemmas.Map.Keys.{IsDistinct-head, IsDistinct-tail, IsDistinct-cons, IsDistinct-push}
use Rattle.std.proofs.lemmas.Map.Steps.{length-le_from_distinct_below}
use Rattle.std.proofs.lemmas.Cmp.{nat_eq_equiv}
use Rattle.std.proofs.lemmas.Bool.Decides.{nat_tests}
use Rattle.samoa_laws.specs.lists.Lists.{In}

-- of n nodes
abbrev pub majority_of : ℕ → ℕ
majority_of n = n / 2 + 1

-- the coordinator of round r, from 1
abbrev pub coordinator_of : ℕ → ℕ → ℕ
coordinator_of n r = if n == 0 then 0 else (r - 1) % n

-- what a test finds
pub in_has : (x : ℕ) (xs : List ℕ) → list_any (λ y. eqb x y) xs ≡ true → In x xs
in_has x [] e = absurd (cc)
in_has x (y ∷ ys) e = go (in_has x ys) (eqb x y) refl e
  where
    go : (list_any (λ z. eqb x z) ys ≡ true → In x ys) → (b : Bool) → eqb x y ≡ b → (b || list_any (λ z. eqb x z) ys) ≡ true → In x (y ∷ ys)
    go rest true t h = inl (eqb-true x y t)
    go rest false t h = inr (rest h)

pub has_in : (x : ℕ) (xs : List ℕ) → In x xs → list_any (λ y. eqb x y) xs ≡ true
has_in x [] h = absurd h
has_in x (y ∷ ys) (inl e) = go (eqb x y) refl
  where
    go : (b : Bool) → eqb x y ≡ b → (b || list_any (λ z. eqb x z) ys) ≡ true
    go true t = refl
    go false t = grind (arith, nat_tests)
has_in x (y ∷ ys) (inr h) = go (has_in x ys h) (eqb x y)
  where
    go : list_any (λ z. eqb x z) ys ≡ true → (b : Bool) → (b || list_any (λ z. eqb x z) ys) ≡ true
    go rest true = refl
    go rest false = rest

-- no element of xs stands in ys
abbrev Apart : List ℕ → List ℕ → Type 0
Apart [] ys = ⊤
Apart (x ∷ xs) ys = (list_any (λ y. eqb x y) ys ≡ false) × Apart xs ys

none_equal : (x : ℕ) (ys : List ℕ) → list_any (λ y. eqb x y) ys ≡ false → AllByRecursion (λ y. eqb x y ≡ false) ys
none_equal x [] e = tt
none_equal x (y ∷ ys) e = go (none_equal x ys) (eqb x y) refl e
  where
    go : (list_any (λ z. eqb x z) ys ≡ false → AllByRecursion (λ z. eqb x z ≡ false) ys) → (b : Bool) → eqb x y ≡ b → (b || list_any (λ z. eqb x z) ys) ≡ false → AllByRecursion (λ z. eqb x z ≡ false) (y ∷ ys)
    go rest true t h = absurd (cc)
    go rest false t h = (t, rest h)

all_append : (x : ℕ) (xs ys : List ℕ) → AllByRecursion (λ z. eqb x z ≡ false) xs → AllByRecursion (λ z. eqb x z ≡ false) ys
    → AllByRecursion (λ z. eqb x z ≡ false) (xs ++ ys)
all_append x [] ys a b = b
all_append x (y ∷ xs) ys a b = (a.0, all_append x xs ys a.1 b)

distinct_append : (xs ys : List ℕ) → IsDistinct eqb xs → IsDistinct eqb ys → Apart xs ys → IsDistinct eqb (xs ++ ys)
distinct_append [] ys d e apart = e
distinct_append (x ∷ xs) ys d e apart =
    IsDistinct-cons eqb x (xs ++ ys)
    (all_append x xs ys (IsDistinct-head eqb x xs d) (none_equal x ys apart.0))
    (distinct_append xs ys (IsDistinct-tail eqb x xs d) e apart.1)

-- either a common element, or none
search_common : (xs ys : List ℕ) → ((x : ℕ) × In x xs × In x ys) ⊎ Apart xs ys
search_common [] ys = inr tt
search_common (x ∷ xs) ys = go (search_common xs ys) (list_any (λ y. eqb x y) ys) refl
  where
    rest : ((z : ℕ) × In z xs × In z ys) ⊎ Apart xs ys → list_any (λ y. eqb x y) ys ≡ false → ((z : ℕ) × In z (x ∷ xs) × In z ys) ⊎ Apart (x ∷ xs) ys
    rest (inl c) e = inl (c.0, inr c.1, c.2)
    rest (inr a) e = inr (e, a)

    go : ((z : ℕ) × In z xs × In z ys) ⊎ Apart xs ys → (b : Bool) → list_any (λ y. eqb x y) ys ≡ b → ((z : ℕ) × In z (x ∷ xs) × In z ys) ⊎ Apart (x ∷ xs) ys
    go later true e = inl (x, inl refl, in_has x ys e)
    go later false e = rest later e

below_append : (n : ℕ) (xs ys : List ℕ) → ((x : ℕ) → In x xs → x < n) → ((y : ℕ) → In y ys → y < n) → (z : ℕ) → In z (xs ++ ys) → z < n
below_append n [] ys a b z h = b z h
below_append n (x ∷ xs) ys a b z (inl e) = a z (inl e)
below_append n (x ∷ xs) ys a b z (inr h) = below_append n xs ys (λ w i. a w (inr i)) b z h

two_majorities : (n : ℕ) → n < majority_of n + majority_of n
two_majorities n = omega arith

-- two majorities have a common node
pub majorities_meet : (n : ℕ) (xs ys : List ℕ) → IsDistinct eqb xs → IsDistinct eqb ys → ((x : ℕ) → In x xs → x < n) → ((y : ℕ) → In y ys → y < n)
    → majority_of n ≤ length xs → majority_of n ≤ length ys → (x : ℕ) × In x xs × In x ys
majorities_meet n xs ys d e a b many many' = go (search_common xs ys)
  where
    go : ((x : ℕ) × In x xs × In x ys) ⊎ Apart xs ys → (x : ℕ) × In x xs × In x ys
    go (inl c) = c
    go (inr apart) =
        let few : length (xs ++ ys) ≤ n = length-le_from_distinct_below (xs ++ ys) n (distinct_append xs ys d e apart)
        (λ q h. below_append n xs ys a b q (in_has q (xs ++ ys) h)) in
        let sum : length (xs ++ ys) ≡ length xs + length ys = length-append xs ys in
        absurd (omega (arith, two_majorities n))

pub distinct_end : (xs : List ℕ) (y : ℕ) → IsDistinct eqb xs → list_any (λ z. eqb y z) xs ≡ false → IsDistinct eqb (xs ++ y ∷ [])
distinct_end xs y d new = IsDistinct-push nat_eq_equiv xs y d new

pub distinct_none : IsDistinct eqb []
unfolding IsDistinct
distinct_none = tt
