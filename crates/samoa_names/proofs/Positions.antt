-- The place of a name in a list that is seen through a function, and in two lists joined.
use Rattle.std.proofs.Common.{◌≡◌, ℕ, zero, suc, ◌+◌, ◌<◌, Bool, true, false, cond, List, [], ◌∷◌, ◌++◌, length, map, take, Option, Some, None, refl, sym, subst, ap, ap₂, ◌∙◌, arith, ltb}
use Prim.Native.Nat.compare
use Rattle.std.specs.Prelude.{not, nat_lt, ◌||◌, option_map, is_some, IfSome}
use Rattle.std.specs.List.{prefix_len, position_or_len, position, list_any}
use Rattle.std.proofs.lemmas.List.{length-map, map-id}
use Rattle.std.proofs.lemmas.Bool.{lt-ltb, ltb-true}
use Rattle.std.proofs.lemmas.Bool.Decides.{nat_tests}
use Rattle.std.proofs.lemmas.Option.{cond_some}
use Rattle.samoa_grammar.proofs.Lists.{list_any-map}
use Rattle.samoa_names.specs.Names.{first_number}

prefix_len-map : {X Y : Type 0} (p : Y → Bool) (f : X → Y) (xs : List X) → prefix_len p (map f xs) ≡ prefix_len (λ x. p (f x)) xs
prefix_len-map p f [] = refl
prefix_len-map p f (x ∷ xs) = ap (λ n. cond (p (f x)) (1 + n) 0) (prefix_len-map p f xs)

pub position-map : {X Y : Type 0} (p : Y → Bool) (f : X → Y) (xs : List X) → position p (map f xs) ≡ position (λ x. p (f x)) xs
position-map p f xs =
    ap₂ (λ n len. cond (nat_lt n len) (Some n) None) (prefix_len-map (λ y. not (p y)) f xs) (length-map xs f)

pub ruleset same_names = (map-id)

pub ruleset seen_lists = (position-map, list_any-map)

-- ---- two lists joined

later_case : (b : Bool) (n : ℕ) → cond b (Some (suc n)) None ≡ option_map suc (cond b (Some n) None)
later_case true n = refl
later_case false n = refl

one_more : (n : ℕ) → 1 + n ≡ suc n
one_more n = omega arith

first_case : (b : Bool) (n len : ℕ) → cond (nat_lt (cond (not b) (1 + n) 0) (suc len)) (Some (cond (not b) (1 + n) 0)) None ≡ cond b (Some 0) (option_map suc (cond (nat_lt n len) (Some n) None))
first_case true n len = ap (λ b. cond b (Some 0) None) (lt-ltb 0 (suc len) (omega arith))
first_case false n len = rw (one_more n, compare.suc-suc) (later_case (nat_lt n len) n)

position-cons : {X : Type 0} (p : X → Bool) (x : X) (xs : List X) → position p (x ∷ xs) ≡ cond (p x) (Some 0) (option_map suc (position p xs))
position-cons p x xs = first_case (p x) (position_or_len p xs) (length xs)

abbrev pub first_of : Option ℕ → Option ℕ → Option ℕ
first_of None later = later
first_of (Some i) later = Some i

shifted_none : (o : Option ℕ) → o ≡ option_map (λ i. 0 + i) o
shifted_none None = refl
shifted_none (Some i) = ap Some (omega arith)

shifted_more : (o : Option ℕ) (n : ℕ) → option_map suc (option_map (λ i. n + i) o) ≡ option_map (λ i. suc n + i) o
shifted_more None n = refl
shifted_more (Some i) n = ap Some (omega arith)

joined_step : (b : Bool) (whole left right : Option ℕ) (n : ℕ) → whole ≡ first_of left (option_map (λ i. n + i) right)
    → cond b (Some 0) (option_map suc whole) ≡ first_of (cond b (Some 0) (option_map suc left)) (option_map (λ i. suc n + i) right)
joined_step true whole left right n h = refl
joined_step false whole None right n h = ap (option_map suc) h ∙ shifted_more right n
joined_step false whole (Some i) right n h = ap (option_map suc) h

pub position-append : {X : Type 0} (p : X → Bool) (xs ys : List X) → position p (xs ++ ys) ≡ first_of (position p xs) (option_map (λ i. length xs + i) (position p ys))
position-append p [] ys = shifted_none (position p ys)
position-append p (x ∷ xs) ys =
    position-cons p x (xs ++ ys)
    ∙ joined_step (p x) (position p (xs ++ ys)) (position p xs) (position p ys) (length xs) (position-append p xs ys)
    ∙ ap (λ o. first_of o (option_map (λ i. suc (length xs) + i) (position p ys))) (sym (position-cons p x xs))

-- the place in two lists joined: that in the first, if there is one, and else that in the second
pub position_left : {X : Type 0} (p : X → Bool) (xs ys : List X) (i : ℕ) → position p xs ≡ Some i → position p (xs ++ ys) ≡ Some i
position_left p xs ys i h = position-append p xs ys ∙ ap (λ o. first_of o (option_map (λ i. length xs + i) (position p ys))) h

pub position_right : {X : Type 0} (p : X → Bool) (xs ys : List X) → position p xs ≡ None → position p (xs ++ ys) ≡ option_map (λ i. length xs + i) (position p ys)
position_right p xs ys h = position-append p xs ys ∙ ap (λ o. first_of o (option_map (λ i. length xs + i) (position p ys))) h

pub ruleset joined_lists = (position_left, position_right)

-- ---- one more item

pushed_case : (o : Option ℕ) (b : Bool) (n : ℕ) → first_of o (option_map (λ i. n + i) (cond b (Some 0) None)) ≡ first_number o b n
pushed_case None true n = ap Some (omega arith)
pushed_case None false n = refl
pushed_case (Some i) b n = refl

pub position-push : {X : Type 0} (p : X → Bool) (xs : List X) (x : X) → position p (xs ++ x ∷ []) ≡ first_number (position p xs) (p x) (length xs)
position-push p xs x =
    position-append p xs (x ∷ []) ∙ ap (λ o. first_of (position p xs) (option_map (λ i. length xs + i) o)) (position-cons p x [])
    ∙ pushed_case (position p xs) (p x) (length xs)

pub position_within : {X : Type 0} (p : X → Bool) (xs : List X) (i : ℕ) → position p xs ≡ Some i → i < length xs
position_within p xs i h =
    let parts = cond_some (ltb (position_or_len p xs) (length xs)) (position_or_len p xs) i h in
    subst (λ n. n < length xs) parts.1 (ltb-true (position_or_len p xs) (length xs) parts.0)

pub found_within : {X : Type 0} (p : X → Bool) (xs : List X) (o : Option ℕ) → o ≡ position p xs → IfSome o (λ i. i < length xs)
found_within p xs None h = tt
found_within p xs (Some i) h = position_within p xs i (sym h)

some_case : (b : Bool) (o : Option ℕ) → is_some (cond b (Some 0) (option_map suc o)) ≡ (b || is_some o)
some_case true o = refl
some_case false None = refl
some_case false (Some i) = refl

-- a place is found exactly where an item passes
pub position_there : {X : Type 0} (p : X → Bool) (xs : List X) → is_some (position p xs) ≡ list_any p xs
position_there p [] = refl
position_there p (x ∷ xs) = ap is_some (position-cons p x xs) ∙ some_case (p x) (position p xs) ∙ ap (λ b. p x || b) (position_there p xs)

-- ---- items before a place

abbrev pub is_below : ℕ → Option ℕ → Bool
is_below k None = false
is_below k (Some i) = nat_lt i k

below_none : (o : Option ℕ) → false ≡ is_below 0 o
below_none None = refl
below_none (Some i) = grind (arith, nat_tests)

below_step : (b : Bool) (o : Option ℕ) (k : ℕ) → (b || is_below k o) ≡ is_below (suc k) (cond b (Some 0) (option_map suc o))
below_step true o k = grind (arith, nat_tests)
below_step false None k = refl
below_step false (Some i) k = grind (arith, nat_tests)

-- an item passes before a place exactly where the first that passes stands there
pub below_first : {X : Type 0} (p : X → Bool) (xs : List X) (k : ℕ) → list_any p (take k xs) ≡ is_below k (position p xs)
below_first p xs zero = below_none (position p xs)
below_first p [] (suc k) = refl
below_first p (x ∷ xs) (suc k) =
    ap (λ b. p x || b) (below_first p xs k) ∙ below_step (p x) (position p xs) k ∙ ap (is_below (suc k)) (sym (position-cons p x xs))
