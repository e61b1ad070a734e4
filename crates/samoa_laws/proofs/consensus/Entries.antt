-- Maps by instance and by ballot.
use Rattle.std.proofs.Common.{◌≡◌, ◌⊎◌, inl, inr, ℕ, ◌<◌, Bool, true, false, ◌||◌, ◌&&◌, eqb, List, [], ◌∷◌, map, refl, sym, ap, ◌∙◌, subst, arith, Option, Some, cond, ◌==◌, if◌then◌else◌, eqb-true, eq-eqb, nat_cmp, Ordering, Less, Equal, Greater}
use Rattle.std.specs.Prelude.{find, unwrap_or}
use Rattle.std.specs.List.{list_any}
use Rattle.std.specs.Map.{lookup}
use Rattle.std.specs.Ordering.{is_eq, match_ordering}
use Rattle.std.specs.BTreeMap.{insert_entry}
use Rattle.std.proofs.lemmas.Bool.Decides.{nat_tests}
use Rattle.samoa_serial.specs.contracts.keys.BallotOrd.TheImpl.{ghosts as balloted}
use Rattle.samoa_serial.specs.State.{Round}
use Rattle.samoa_serial.specs.ConsTable.{instance_of, empty_round, round_at}
use Rattle.samoa_serial.specs.declared.keys.Ballot.{Ballot}
use Rattle.samoa_serial.specs.declared.message.Instance.{Instance}
use Rattle.samoa_laws.specs.lists.Lists.{In}
use Rattle.samoa_laws.proofs.broadcasts.Maps.{Agrees, lookup_insert, numbers_agree}
use Rattle.samoa_serial.proofs.Instances.{IsRising}
use Rattle.std.proofs.lemmas.Bool.{and_parts}

-- ---- ballots
abbrev pub same_ballot : Ballot → Ballot → Bool
same_ballot a b = (a.instance == b.instance) && (a.round == b.round)

tied_ballots : (a b : Ballot) → is_eq (balloted.cmp a b) ≡ same_ballot b a
tied_ballots a b = grind (arith, nat_tests)

pub equal_ballots : (a b : Ballot) → same_ballot a b ≡ true → a ≡ b
equal_ballots a b t =
    let both = and_parts (eqb a.instance b.instance) (eqb a.round b.round) t in
    let instance : a.instance ≡ b.instance = eqb-true a.instance b.instance both.0 in
    let round : a.round ≡ b.round = eqb-true a.round b.round both.1 in
    λ k. record { instance = instance k; round = round k }

pub same_ballot_self : (a : Ballot) → same_ballot a a ≡ true
same_ballot_self a = rw (eq-eqb a.instance a.instance refl, eq-eqb a.round a.round refl) refl

ballots_agree : Agrees balloted.cmp same_ballot
ballots_agree = record { tied = tied_ballots; equal = equal_ballots; self = same_ballot_self }

-- what stands at an instance, and at a ballot, after one was put in
pub instance_case : (Q : Option Instance → Type 0) (es : List (ℕ × Instance)) (i : ℕ) (x : Instance) (j : ℕ) → (i ≡ j → Q (Some x)) → Q (instance_of es j)
    → Q (instance_of (insert_entry nat_cmp es i x) j)
instance_case Q es i x j here there = subst Q (sym (lookup_insert nat_cmp (λ a b. a == b) numbers_agree es i x j)) (go (i == j) refl)
  where
    go : (b : Bool) → (i == j) ≡ b → Q (if b then Some x else instance_of es j)
    go true t = here (eqb-true i j t)
    go false t = there

pub instance_put : (es : List (ℕ × Instance)) (i : ℕ) (x : Instance) → instance_of (insert_entry nat_cmp es i x) i ≡ Some x
instance_put es i x =
    lookup_insert nat_cmp (λ a b. a == b) numbers_agree es i x i ∙ ap (λ (t : Bool). if t then Some x else instance_of es i) (eq-eqb i i refl)

pub round_case : (Q : Round → Type 0) (es : List (Ballot × Round)) (b : Ballot) (r : Round) (c : Ballot) → (b ≡ c → Q r) → Q (round_at es c)
    → Q (round_at (insert_entry balloted.cmp es b r) c)
round_case Q es b r c here there =
    subst (λ (o : Option Round). Q (unwrap_or o empty_round)) (sym (lookup_insert balloted.cmp same_ballot ballots_agree es b r c)) (go (same_ballot b c) refl)
  where
    go : (t : Bool) → same_ballot b c ≡ t → Q (unwrap_or (if t then Some r else lookup (λ k. is_eq (balloted.cmp c k)) es) empty_round)
    go true t = here (equal_ballots b c t)
    go false t = there

pub round_put : (es : List (Ballot × Round)) (b : Ballot) (r : Round) → round_at (insert_entry balloted.cmp es b r) b ≡ r
round_put es b r =
    ap (λ (o : Option Round). unwrap_or o empty_round) (lookup_insert balloted.cmp same_ballot ballots_agree es b r b
    ∙ ap (λ (t : Bool). if t then Some r else lookup (λ k. is_eq (balloted.cmp b k)) es) (same_ballot_self b))

-- ---- entries in order
tied_numbers : (k a : ℕ) → nat_cmp k a ≡ Equal → k ≡ a
tied_numbers k a o = grind (arith, nat_tests)

less_numbers : (k a : ℕ) → nat_cmp k a ≡ Less → k < a
less_numbers k a o = grind (arith, nat_tests)

greater_numbers : (k a : ℕ) → nat_cmp k a ≡ Greater → a < k
greater_numbers k a o = grind (arith, nat_tests)

in_insert : (es : List (ℕ × Instance)) (k : ℕ) (v : Instance) (x : ℕ × Instance) → In x (insert_entry nat_cmp es k v) → (x.0 ≡ k) ⊎ In x es
in_insert [] k v x (inl e) = inl (ap (λ (y : ℕ × Instance). y.0) e)
in_insert [] k v x (inr none) = absurd none
in_insert (e ∷ es) k v x h = go (in_insert es k v x) (nat_cmp k e.0) refl h
  where
    go : (In x (insert_entry nat_cmp es k v) → (x.0 ≡ k) ⊎ In x es) → (o : Ordering) → nat_cmp k e.0 ≡ o
        → In x (match_ordering o ((k, v) ∷ e ∷ es) ((e.0, v) ∷ es) (e ∷ insert_entry nat_cmp es k v)) → (x.0 ≡ k) ⊎ In x (e ∷ es)
    go ih Less o (inl f) = inl (ap (λ (y : ℕ × Instance). y.0) f)
    go ih Less o (inr h) = inr h
    go ih Equal o (inl f) = inl (ap (λ (y : ℕ × Instance). y.0) f ∙ sym (tied_numbers k e.0 o))
    go ih Equal o (inr h) = inr (inr h)
    go ih Greater o (inl f) = inr (inl f)
    go ih Greater o (inr h) = later (ih h)
      where
        later : (x.0 ≡ k) ⊎ In x es → (x.0 ≡ k) ⊎ In x (e ∷ es)
        later (inl f) = inl f
        later (inr i) = inr (inr i)

pub rising_insert : (es : List (ℕ × Instance)) (k : ℕ) (v : Instance) → IsRising es → IsRising (insert_entry nat_cmp es k v)
rising_insert [] k v r = ((λ x h. absurd h), tt)
rising_insert (e ∷ es) k v r = go (rising_insert es k v r.1) (nat_cmp k e.0) refl
  where
    go : IsRising (insert_entry nat_cmp es k v) → (o : Ordering) → nat_cmp k e.0 ≡ o
        → IsRising (match_ordering o ((k, v) ∷ e ∷ es) ((e.0, v) ∷ es) (e ∷ insert_entry nat_cmp es k v))
    go ih Less o = (below, r)
      where
        below : (x : ℕ × Instance) → In x (e ∷ es) → k < x.0
        below x (inl f) = subst (λ (a : ℕ). k < a) (sym (ap (λ (y : ℕ × Instance). y.0) f)) (less_numbers k e.0 o)
        below x (inr h) =
            let first : k < e.0 = less_numbers k e.0 o in
            let second : e.0 < x.0 = r.0 x h in
            omega arith
    go ih Equal o = (r.0, r.1)
    go ih Greater o = ((λ x h. above x (in_insert es k v x h)), ih)
      where
        above : (x : ℕ × Instance) → (x.0 ≡ k) ⊎ In x es → e.0 < x.0
        above x (inl f) = subst (λ (a : ℕ). e.0 < a) (sym f) (greater_numbers k e.0 o)
        above x (inr h) = r.0 x h

pub found_in : {A : Type 0} (p : A → Bool) (xs : List A) (x : A) → find p xs ≡ Some x → In x xs
found_in p [] x e = absurd (cc)
found_in {A} p (y ∷ ys) x e = go (found_in p ys x) (p y) e
  where
    same : (a b : A) → Some a ≡ Some b → b ≡ a
    same a b f = cc

    go : (find p ys ≡ Some x → In x ys) → (b : Bool) → cond b (Some y) (find p ys) ≡ Some x → In x (y ∷ ys)
    go ih true f = inl (same y x f)
    go ih false f = inr (ih f)

-- ---- who is among the senders
flipped : (a b : ℕ) → eqb a b ≡ eqb b a
flipped a b = grind (arith, nat_tests)

pub any_mapped : {A : Type 0} (f : A → ℕ) (s : ℕ) (xs : List A) → list_any (λ y. eqb s y) (map f xs) ≡ list_any (λ x. f x == s) xs
any_mapped f s [] = refl
any_mapped f s (x ∷ xs) =
    ap (λ (b : Bool). b || list_any (λ y. eqb s y) (map f xs)) (flipped s (f x)) ∙ ap (λ (b : Bool). (f x == s) || b) (any_mapped f s xs)

pub any_flipped : (s : ℕ) (xs : List ℕ) → list_any (λ y. eqb s y) xs ≡ list_any (λ y. y == s) xs
any_flipped s [] = refl
any_flipped s (x ∷ xs) = ap (λ (b : Bool). b || list_any (λ y. eqb s y) xs) (flipped s x) ∙ ap (λ (b : Bool). (x == s) || b) (any_flipped s xs)
