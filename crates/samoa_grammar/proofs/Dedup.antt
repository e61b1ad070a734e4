-- Lists in which each item stands once.
use Rattle.std.proofs.Common.{◌≡◌, ℕ, suc, ◌+◌, ◌<◌, ◌≤◌, Bool, true, false, List, [], ◌∷◌, ◌++◌, length, get_or, Some, None, refl, sym, ap, ap₂, ◌∙◌, subst, cond, arith}
use Rattle.std.specs.Prelude.{◌||◌, ◌==◌, not, nat_lt, unwrap_or, bytes_eq}
use Rattle.std.specs.List.{All, list_any, flat_map, position, position_or_len}
use Rattle.std.proofs.lemmas.Bool.Decides.{nat_tests}
use Rattle.std.proofs.lemmas.List.{append_assoc, append-nil}
use Rattle.std.proofs.lemmas.List.Elements.{All-nil, All-cons, All-head, All-tail}
use Rattle.std.proofs.lemmas.List.Folds.{list_any-append}
use Rattle.std.proofs.lemmas.List.Quantifiers.{position-Some}
use Rattle.std.proofs.lemmas.Bool.{and_parts, and_from, or_left, or_right}
use Rattle.std.proofs.lemmas.Slice.Eq.{bytes_eq-Decides}
use Rattle.samoa_model.specs.declared.ids.HandlerId.{HandlerId}
use Rattle.samoa_model.specs.Allowed.{same_handler}
use Rattle.samoa_model.specs.Routes.{once_after}
use Rattle.samoa_grammar.specs.Meaning.{same_edge, edges_after}

-- a test that passes equal items alone
pub record IsSame {X : Type 0} (same : X → X → Bool) : Type 0 where
  pub itself : (x : X) → same x x ≡ true
  pub equal : (x y : X) → same x y ≡ true → x ≡ y

pub same_bytes : IsSame bytes_eq
same_bytes = record { itself = λ x. (bytes_eq-Decides x x).1 refl; equal = λ x y h. (bytes_eq-Decides x y).0 h }

pub equal_numbers : (a b : ℕ) → (a == b) ≡ true → a ≡ b
equal_numbers a b h = grind (arith, nat_tests)

pub same_number : (a : ℕ) → (a == a) ≡ true
same_number a = grind (arith, nat_tests)

pub same_handlers : IsSame same_handler
same_handlers = record {
  itself = λ x. and_from (x.micro.0 == x.micro.0) (x.index == x.index) (same_number x.micro.0) (same_number x.index);
  equal = λ x y h.
      let p = and_parts (x.micro.0 == y.micro.0) (x.index == y.index) h in
      let micro = equal_numbers x.micro.0 y.micro.0 p.0 in
      let index = equal_numbers x.index y.index p.1 in
      λ i. record { micro = record { 0 = micro i }; index = index i };
}

pub same_edges : IsSame same_edge
same_edges = record {
  itself = λ x. and_from (x.0 == x.0) (x.1 == x.1) (same_number x.0) (same_number x.1);
  equal = λ x y h.
      let p = and_parts (x.0 == y.0) (x.1 == y.1) h in
      let a = equal_numbers x.0 y.0 p.0 in
      let b = equal_numbers x.1 y.1 p.1 in
      λ i. (a i, b i);
}

-- ---- the place of an item

step_below : (b rest : Bool) (n len : ℕ) → (b || rest) ≡ true → (rest ≡ true → n < len) → cond (not b) (1 + n) 0 < suc len
step_below true rest n len h f = omega arith
step_below false rest n len h f = let g = f h in omega arith

pub place_below : {X : Type 0} (p : X → Bool) (xs : List X) → list_any p xs ≡ true → position_or_len p xs < length xs
place_below p [] h = cc
place_below p (x ∷ xs) h = step_below (p x) (list_any p xs) (position_or_len p xs) (length xs) h (place_below p xs)

below_test : (a b : ℕ) → a < b → nat_lt a b ≡ true
below_test a b h = grind (arith, nat_tests)

pub position_found : {X : Type 0} (p : X → Bool) (xs : List X) → list_any p xs ≡ true → position p xs ≡ Some (position_or_len p xs)
position_found p xs h = ap (λ b. cond b (Some (position_or_len p xs)) None) (below_test (position_or_len p xs) (length xs) (place_below p xs h))

-- the item at the place of an item
pub place_back : {X : Type 0} (same : X → X → Bool) → IsSame same → (xs : List X) (x d : X) → list_any (same x) xs ≡ true → get_or xs (unwrap_or (position (same x) xs) 0) d ≡ x
place_back same laws xs x d h =
    let found = position_found (same x) xs h in
    let place = position_or_len (same x) xs in
    let stands = (position-Some (same x) xs place d found).1 in
    ap (λ o. get_or xs (unwrap_or o 0) d) found ∙ sym (laws.equal x (get_or xs place d) stands)

-- ---- each item once, but for those that stood before

abbrev pub dedup : {X : Type 0} (same : X → X → Bool) → List X → List X → List X
dedup same before [] = []
dedup same before (x ∷ xs) = cond (list_any (same x) before) (dedup same before xs) (x ∷ dedup same (before ++ x ∷ []) xs)

pub once_is : (b hs : List HandlerId) → once_after b hs ≡ dedup same_handler b hs
once_is b [] = refl
once_is b (h ∷ hs) = ap₂ (λ u v. cond (list_any (same_handler h) b) u (h ∷ v)) (once_is b hs) (once_is (b ++ h ∷ []) hs)

pub edges_is : (b es : List (ℕ × ℕ)) → edges_after b es ≡ dedup same_edge b es
edges_is b [] = refl
edges_is b (e ∷ es) = ap₂ (λ u v. cond (list_any (same_edge e) b) u (e ∷ v)) (edges_is b es) (edges_is (b ++ e ∷ []) es)

pub dedup_same : {X : Type 0} (same : X → X → Bool) (b c : List X) → ((z : X) → list_any (same z) b ≡ list_any (same z) c) → (xs : List X) → dedup same b xs ≡ dedup same c xs
dedup_same same b c e [] = refl
dedup_same {X = X} same b c e (x ∷ xs) =
    let pushed = λ (z : X). list_any-append (same z) b (x ∷ []) ∙ ap (λ k. k || list_any (same z) (x ∷ [])) (e z) ∙ sym (list_any-append (same z) c (x ∷ [])) in
    ap (λ k. cond k (dedup same b xs) (x ∷ dedup same (b ++ x ∷ []) xs)) (e x)
    ∙ ap₂ (λ u v. cond (list_any (same x) c) u (x ∷ v)) (dedup_same same b c e xs) (dedup_same same (b ++ x ∷ []) (c ++ x ∷ []) pushed xs)

or_absorbed : (m s t : Bool) → (s ≡ true → m ≡ true) → (m || t) ≡ (m || (s || t))
or_absorbed true s t h = refl
or_absorbed false true t h = let e = h refl in cc
or_absorbed false false t h = refl

-- an item that stood before adds nothing
absorbed : {X : Type 0} (same : X → X → Bool) → IsSame same → (b xs : List X) (x z : X) → list_any (same x) b ≡ true → (list_any (same z) b || list_any (same z) xs) ≡ (list_any (same z) b || (same z x || list_any (same z) xs))
absorbed same laws b xs x z h =
    or_absorbed (list_any (same z) b) (same z x) (list_any (same z) xs) (λ e. subst (λ y. list_any (same y) b ≡ true) (sym (laws.equal z x e)) h)

append_step : {X : Type 0} (same : X → X → Bool) → IsSame same → (b : List X) (x : X) (xs ys : List X) (k : Bool) → list_any (same x) b ≡ k
    → dedup same b (xs ++ ys) ≡ dedup same b xs ++ dedup same (b ++ xs) ys
    → dedup same (b ++ x ∷ []) (xs ++ ys) ≡ dedup same (b ++ x ∷ []) xs ++ dedup same ((b ++ x ∷ []) ++ xs) ys
    → cond k (dedup same b (xs ++ ys)) (x ∷ dedup same (b ++ x ∷ []) (xs ++ ys)) ≡ cond k (dedup same b xs) (x ∷ dedup same (b ++ x ∷ []) xs) ++ dedup same (b ++ x ∷ xs) ys
append_step {X = X} same laws b x xs ys true e one two =
    let same_before = λ (z : X). list_any-append (same z) b xs ∙ absorbed same laws b xs x z e ∙ sym (list_any-append (same z) b (x ∷ xs)) in
    one ∙ ap (λ v. dedup same b xs ++ v) (dedup_same same (b ++ xs) (b ++ x ∷ xs) same_before ys)
append_step same laws b x xs ys false e one two =
    ap (λ v. x ∷ v) (two ∙ ap (λ c. dedup same (b ++ x ∷ []) xs ++ dedup same c ys) (append_assoc b (x ∷ []) xs))

pub dedup_append : {X : Type 0} (same : X → X → Bool) → IsSame same → (b xs ys : List X) → dedup same b (xs ++ ys) ≡ dedup same b xs ++ dedup same (b ++ xs) ys
dedup_append same laws b [] ys = ap (λ c. dedup same c ys) (sym (append-nil b))
dedup_append same laws b (x ∷ xs) ys =
    append_step same laws b x xs ys (list_any (same x) b) refl (dedup_append same laws b xs ys) (dedup_append same laws (b ++ x ∷ []) xs ys)

again_step : {X : Type 0} (same : X → X → Bool) (b : List X) (x : X) (xs : List X) (k : Bool) → list_any (same x) b ≡ k
    → dedup same b (dedup same b xs) ≡ dedup same b xs → dedup same (b ++ x ∷ []) (dedup same (b ++ x ∷ []) xs) ≡ dedup same (b ++ x ∷ []) xs
    → dedup same b (cond k (dedup same b xs) (x ∷ dedup same (b ++ x ∷ []) xs)) ≡ cond k (dedup same b xs) (x ∷ dedup same (b ++ x ∷ []) xs)
again_step same b x xs true e one two = one
again_step same b x xs false e one two =
    ap (λ k. cond k (dedup same b (dedup same (b ++ x ∷ []) xs)) (x ∷ dedup same (b ++ x ∷ []) (dedup same (b ++ x ∷ []) xs))) e ∙ ap (λ v. x ∷ v) two

pub dedup_again : {X : Type 0} (same : X → X → Bool) (b xs : List X) → dedup same b (dedup same b xs) ≡ dedup same b xs
dedup_again same b [] = refl
dedup_again same b (x ∷ xs) = again_step same b x xs (list_any (same x) b) refl (dedup_again same b xs) (dedup_again same (b ++ x ∷ []) xs)

or_pushed : (p q r t : Bool) → ((p || (q || false)) || r) ≡ ((p || (q || false)) || t) → (p || (q || r)) ≡ (p || (q || t))
or_pushed true q r t h = refl
or_pushed false true r t h = refl
or_pushed false false r t h = h

kept_step : {X : Type 0} (same : X → X → Bool) → IsSame same → (b : List X) (x : X) (xs : List X) (z : X) (k : Bool) → list_any (same x) b ≡ k
    → (list_any (same z) b || list_any (same z) (dedup same b xs)) ≡ (list_any (same z) b || list_any (same z) xs)
    → (list_any (same z) (b ++ x ∷ []) || list_any (same z) (dedup same (b ++ x ∷ []) xs)) ≡ (list_any (same z) (b ++ x ∷ []) || list_any (same z) xs)
    → (list_any (same z) b || list_any (same z) (cond k (dedup same b xs) (x ∷ dedup same (b ++ x ∷ []) xs))) ≡ (list_any (same z) b || (same z x || list_any (same z) xs))
kept_step same laws b x xs z true e one two = one ∙ absorbed same laws b xs x z e
kept_step same laws b x xs z false e one two =
    or_pushed (list_any (same z) b) (same z x) (list_any (same z) (dedup same (b ++ x ∷ []) xs)) (list_any (same z) xs)
    (subst (λ k. (k || list_any (same z) (dedup same (b ++ x ∷ []) xs)) ≡ (k || list_any (same z) xs)) (list_any-append (same z) b (x ∷ [])) two)

-- the same items stand in it
pub dedup_kept : {X : Type 0} (same : X → X → Bool) → IsSame same → (b xs : List X) (z : X) → (list_any (same z) b || list_any (same z) (dedup same b xs)) ≡ (list_any (same z) b || list_any (same z) xs)
dedup_kept same laws b [] z = refl
dedup_kept same laws b (x ∷ xs) z =
    kept_step same laws b x xs z (list_any (same x) b) refl (dedup_kept same laws b xs z) (dedup_kept same laws (b ++ x ∷ []) xs z)

-- a list whose first part has lost its repeats
pub front_once : {X : Type 0} (same : X → X → Bool) → IsSame same → (hs ts : List X) → dedup same [] (dedup same [] hs ++ ts) ≡ dedup same [] (hs ++ ts)
front_once same laws hs ts =
    dedup_append same laws [] (dedup same [] hs) ts
    ∙ ap₂ (λ u v. u ++ v) (dedup_again same [] hs) (dedup_same same (dedup same [] hs) hs (dedup_kept same laws [] hs) ts)
    ∙ sym (dedup_append same laws [] hs ts)

-- what each item is, each that is kept is
all_step : {X : Type 0} (P : X → Type 0) (k : Bool) (x : X) (us vs : List X) → P x → All P us → All P vs → All P (cond k us (x ∷ vs))
all_step P true x us vs p u v = u
all_step P false x us vs p u v = All-cons P x vs p v

pub dedup_all : {X : Type 0} (P : X → Type 0) (same : X → X → Bool) (b xs : List X) → All P xs → All P (dedup same b xs)
dedup_all P same b [] each = All-nil P
dedup_all P same b (x ∷ xs) each =
    let rest = All-tail P x xs each in
    all_step P (list_any (same x) b) x (dedup same b xs) (dedup same (b ++ x ∷ []) xs) (All-head P x xs each) (dedup_all P same b xs rest) (dedup_all P same (b ++ x ∷ []) xs rest)

length_step : {X : Type 0} (k : Bool) (x : X) (us vs : List X) (n : ℕ) → length us ≤ n → length vs ≤ n → length (cond k us (x ∷ vs)) ≤ suc n
length_step true x us vs n u v = omega arith
length_step false x us vs n u v = omega arith

pub length_dedup : {X : Type 0} (same : X → X → Bool) (b xs : List X) → length (dedup same b xs) ≤ length xs
length_dedup same b [] = omega arith
length_dedup same b (x ∷ xs) =
    length_step (list_any (same x) b) x (dedup same b xs) (dedup same (b ++ x ∷ []) xs) (length xs) (length_dedup same b xs) (length_dedup same (b ++ x ∷ []) xs)

-- ---- the ends of edges that lost their repeats

abbrev pub two_ends : {X : Type 0} (at : ℕ → X) → ℕ × ℕ → List X
two_ends at n = at n.0 ∷ at n.1 ∷ []

-- the ends of each of these edges stood before
abbrev AreCovered : {X : Type 0} (same : X → X → Bool) (at : ℕ → X) (edge : (ℕ × ℕ) → (ℕ × ℕ) → Bool) → List X → List (ℕ × ℕ) → Type 0
AreCovered same at edge b eb = (n : ℕ × ℕ) → list_any (edge n) eb ≡ true → (list_any (same (at n.0)) b ≡ true) × (list_any (same (at n.1)) b ≡ true)

skipped : {X : Type 0} (same : X → X → Bool) (b : List X) (x y : X) (xs : List X) → list_any (same x) b ≡ true → list_any (same y) b ≡ true → dedup same b (x ∷ y ∷ xs) ≡ dedup same b xs
skipped same b x y xs p q =
    ap (λ k. cond k (dedup same b (y ∷ xs)) (x ∷ dedup same (b ++ x ∷ []) (y ∷ xs))) p ∙ ap (λ k. cond k (dedup same b xs) (y ∷ dedup same (b ++ y ∷ []) xs)) q

or_false : (a : Bool) → (a || false) ≡ true → a ≡ true
or_false true h = refl
or_false false h = h

stands_left : {X : Type 0} (p : X → Bool) (b c : List X) → list_any p b ≡ true → list_any p (b ++ c) ≡ true
stands_left p b c h = list_any-append p b c ∙ or_left (list_any p b) (list_any p c) h

stands_right : {X : Type 0} (p : X → Bool) (b c : List X) → list_any p c ≡ true → list_any p (b ++ c) ≡ true
stands_right p b c h = list_any-append p b c ∙ or_right (list_any p b) (list_any p c) h

cover_cases : {X : Type 0} (same : X → X → Bool) → IsSame same → (at : ℕ → X) (edge : (ℕ × ℕ) → (ℕ × ℕ) → Bool) → IsSame edge → (b : List X) (eb : List (ℕ × ℕ)) (n m : ℕ × ℕ)
    → AreCovered same at edge b eb → (k : Bool) → list_any (edge m) eb ≡ k → (k || (edge m n || false)) ≡ true
    → (list_any (same (at m.0)) (b ++ two_ends at n) ≡ true) × (list_any (same (at m.1)) (b ++ two_ends at n) ≡ true)
cover_cases same laws at edge elaws b eb n m covered true e h =
    let c = covered m e in (stands_left (same (at m.0)) b (two_ends at n) c.0, stands_left (same (at m.1)) b (two_ends at n) c.1)
cover_cases same laws at edge elaws b eb n m covered false e h =
    let is = elaws.equal m n (or_false (edge m n) h) in
    subst (λ (y : ℕ × ℕ). (list_any (same (at y.0)) (b ++ two_ends at n) ≡ true) × (list_any (same (at y.1)) (b ++ two_ends at n) ≡ true)) (sym is) (
      stands_right (same (at n.0)) b (two_ends at n) (or_left (same (at n.0) (at n.0)) _ (laws.itself (at n.0))),
      stands_right (same (at n.1)) b (two_ends at n) (or_right (same (at n.1) (at n.0)) _ (or_left (same (at n.1) (at n.1)) false (laws.itself (at n.1)))),
    )

covered_more : {X : Type 0} (same : X → X → Bool) → IsSame same → (at : ℕ → X) (edge : (ℕ × ℕ) → (ℕ × ℕ) → Bool) → IsSame edge → (b : List X) (eb : List (ℕ × ℕ)) (n : ℕ × ℕ)
    → AreCovered same at edge b eb → AreCovered same at edge (b ++ two_ends at n) (eb ++ n ∷ [])
covered_more same laws at edge elaws b eb n covered m h =
    cover_cases same laws at edge elaws b eb n m covered (list_any (edge m) eb) refl (sym (list_any-append (edge m) eb (n ∷ [])) ∙ h)

ends_step : {X : Type 0} (same : X → X → Bool) → IsSame same → (at : ℕ → X) (edge : (ℕ × ℕ) → (ℕ × ℕ) → Bool) → (b : List X) (eb : List (ℕ × ℕ)) (n : ℕ × ℕ) (ns : List (ℕ × ℕ))
    → AreCovered same at edge b eb → (k : Bool) → list_any (edge n) eb ≡ k
    → (AreCovered same at edge b eb → dedup same b (flat_map (two_ends at) (dedup edge eb ns)) ≡ dedup same b (flat_map (two_ends at) ns))
    → dedup same (b ++ two_ends at n) (flat_map (two_ends at) (dedup edge (eb ++ n ∷ []) ns)) ≡ dedup same (b ++ two_ends at n) (flat_map (two_ends at) ns)
    → dedup same b (flat_map (two_ends at) (cond k (dedup edge eb ns) (n ∷ dedup edge (eb ++ n ∷ []) ns))) ≡ dedup same b (two_ends at n ++ flat_map (two_ends at) ns)
ends_step same laws at edge b eb n ns covered true e one two =
    let c = covered n e in one covered ∙ sym (skipped same b (at n.0) (at n.1) (flat_map (two_ends at) ns) c.0 c.1)
ends_step same laws at edge b eb n ns covered false e one two =
    dedup_append same laws b (two_ends at n) (flat_map (two_ends at) (dedup edge (eb ++ n ∷ []) ns))
    ∙ ap (λ v. dedup same b (two_ends at n) ++ v) two
    ∙ sym (dedup_append same laws b (two_ends at n) (flat_map (two_ends at) ns))

pub ends_once : {X : Type 0} (same : X → X → Bool) → IsSame same → (at : ℕ → X) (edge : (ℕ × ℕ) → (ℕ × ℕ) → Bool) → IsSame edge → (b : List X) (eb ns : List (ℕ × ℕ))
    → AreCovered same at edge b eb → dedup same b (flat_map (two_ends at) (dedup edge eb ns)) ≡ dedup same b (flat_map (two_ends at) ns)
ends_once same laws at edge elaws b eb [] covered = refl
ends_once same laws at edge elaws b eb (n ∷ ns) covered =
    ends_step same laws at edge b eb n ns covered (list_any (edge n) eb) refl (ends_once same laws at edge elaws b eb ns)
    (ends_once same laws at edge elaws (b ++ two_ends at n) (eb ++ n ∷ []) ns (covered_more same laws at edge elaws b eb n covered))
