-- When messages are the same, their first places, and the first of each key.
use Rattle.std.proofs.Common.{◌≡◌, ◌⊎◌, inl, inr, ℕ, zero, suc, ◌+◌, ◌-◌, ◌≤◌, Bool, true, false, ◌||◌, ◌&&◌, eqb, List, [], ◌∷◌, ◌++◌, refl, sym, ap, ◌∙◌, subst, arith, append-nil, eqb-true, eq-eqb, Option, Some, None}
use Rattle.std.specs.List.{list_any}
use Rattle.samoa_serial.specs.Rows.{message_key, same_key}
use Rattle.samoa_serial.specs.AbcastTable.{has_message}
use Rattle.samoa_serial.specs.declared.keys.Key.{Key}
use Rattle.samoa_serial.specs.declared.message.Message.{Message}
use Rattle.samoa_serial.proofs.ListLaws.{begins-append, begins-refl, begins-trans}
use Rattle.samoa_laws.specs.lists.Lists.{In, Begins, Comparable, unknown}
use Rattle.samoa_laws.specs.lists.Messages.{alike_keys, same_message, first_places, first_of_keys}
use Rattle.samoa_laws.specs.broadcasts.Abcast.{listed, up_to}
use Rattle.samoa_laws.proofs.lists.Lists.{any_append, any_in, closed_unknown, firsts_in, firsts_new, firsts_old, in_any, in_firsts, or_none, begins_firsts}
use Rattle.std.proofs.lemmas.Bool.{and_parts}

-- ---- tests of messages
same_number : (a : ℕ) → eqb a a ≡ true
same_number a = eq-eqb a a refl

pub same_key_self : (k : Key) → same_key k k ≡ true
same_key_self k = rw (same_number k.epoch, same_number k.origin, same_number k.number) refl

pub same_key_equal : (a b : Key) → same_key a b ≡ true → a ≡ b
same_key_equal a b t =
    let first = and_parts (eqb a.epoch b.epoch && eqb a.origin b.origin) (eqb a.number b.number) t in
    let second = and_parts (eqb a.epoch b.epoch) (eqb a.origin b.origin) first.0 in
    let epoch : a.epoch ≡ b.epoch = eqb-true a.epoch b.epoch second.0 in
    let origin : a.origin ≡ b.origin = eqb-true a.origin b.origin second.1 in
    let number : a.number ≡ b.number = eqb-true a.number b.number first.1 in
    λ k. record { epoch = epoch k; origin = origin k; number = number k }

pub same_message_self : (m : Message) → same_message m m ≡ true
same_message_self m = rw (same_key_self (message_key m), same_number m.kind, same_number m.value) refl

pub same_message_equal : (a b : Message) → same_message a b ≡ true → a ≡ b
same_message_equal a b t =
    let first = and_parts (same_key (message_key a) (message_key b) && eqb a.kind b.kind) (eqb a.value b.value) t in
    let second = and_parts (same_key (message_key a) (message_key b)) (eqb a.kind b.kind) first.0 in
    let key : message_key a ≡ message_key b = same_key_equal (message_key a) (message_key b) second.0 in
    let kind : a.kind ≡ b.kind = eqb-true a.kind b.kind second.1 in
    let value : a.value ≡ b.value = eqb-true a.value b.value first.1 in
    λ k. record { epoch = (key k).epoch; origin = (key k).origin; number = (key k).number; kind = kind k; value = value k }

-- what is the same as one is the same as what that one is the same as
pub alike_trans : (x y z : Message) → alike_keys x y ≡ true → alike_keys y z ≡ true → alike_keys x z ≡ true
alike_trans x y z p q = ap (λ (k : Key). same_key k (message_key z)) (same_key_equal (message_key x) (message_key y) p) ∙ q

pub message_trans : (x y z : Message) → same_message x y ≡ true → same_message y z ≡ true → same_message x z ≡ true
message_trans x y z p q = ap (λ (w : Message). same_message w z) (same_message_equal x y p) ∙ q

-- ---- first places of messages
pub first_places_begin : (xs ys : List Message) → Begins xs ys → Begins (first_places xs) (first_places ys)
first_places_begin xs ys b = begins_firsts same_message message_trans unknown (closed_unknown same_message) xs ys b

pub in_first_places : (ms : List Message) (m : Message) → In m ms → In m (first_places ms)
in_first_places ms m h = in_firsts same_message same_message_equal ms m h

pub first_places_in : (ms : List Message) (m : Message) → In m (first_places ms) → In m ms
first_places_in ms m h = firsts_in same_message unknown ms m h

pub first_places_old : (ms : List Message) (m : Message) → In m ms → first_places (ms ++ m ∷ []) ≡ first_places ms
first_places_old ms m h = firsts_old same_message message_trans ms m (in_any (λ y. same_message y m) ms m h (same_message_self m))

pub first_places_new : (ms : List Message) (m : Message) → (In m ms → ⊥) → first_places (ms ++ m ∷ []) ≡ first_places ms ++ m ∷ []
first_places_new ms m new = go (list_any (λ y. same_message y m) ms) refl
  where
    go : (b : Bool) → list_any (λ y. same_message y m) ms ≡ b → first_places (ms ++ m ∷ []) ≡ first_places ms ++ m ∷ []
    go true t =
        let r = any_in (λ y. same_message y m) ms t in absurd (new (subst (λ (x : Message). In x ms) (same_message_equal r.0 m r.2) r.1))
    go false t = firsts_new same_message message_trans ms m t

-- ---- the first of each key
pub first_of_keys_in : (ms : List Message) (m : Message) → In m (first_of_keys ms) → In m ms
first_of_keys_in ms m h = firsts_in alike_keys unknown ms m h

pub first_of_keys_old : (ms : List Message) (m : Message) → has_message ms (message_key m) ≡ true → first_of_keys (ms ++ m ∷ []) ≡ first_of_keys ms
first_of_keys_old ms m t = firsts_old alike_keys alike_trans ms m t

pub first_of_keys_new : (ms : List Message) (m : Message) → has_message ms (message_key m) ≡ false
    → first_of_keys (ms ++ m ∷ []) ≡ first_of_keys ms ++ m ∷ []
first_of_keys_new ms m t = firsts_new alike_keys alike_trans ms m t

pub in_has : (ms : List Message) (m : Message) → In m ms → has_message ms (message_key m) ≡ true
in_has ms m h = in_any (λ x. same_key (message_key x) (message_key m)) ms m h (same_key_self (message_key m))

pub has_end : (ms : List Message) (m : Message) (k : Key) → has_message (ms ++ m ∷ []) k ≡ (has_message ms k || same_key (message_key m) k)
has_end ms m k =
    any_append (λ x. same_key (message_key x) k) ms (m ∷ [])
    ∙ ap (λ (b : Bool). has_message ms k || b) (or_none (same_key (message_key m) k))

-- one more of a key that is there
pub has_end_old : (ms : List Message) (m : Message) (k : Key) → has_message ms (message_key m) ≡ true → has_message (ms ++ m ∷ []) k ≡ has_message ms k
has_end_old ms m k old = has_end ms m k ∙ go (same_key (message_key m) k) refl
  where
    go : (b : Bool) → same_key (message_key m) k ≡ b → (has_message ms k || b) ≡ has_message ms k
    go true t =
        let there : has_message ms k ≡ true = sym (ap (λ (j : Key). has_message ms j) (same_key_equal (message_key m) k t)) ∙ old in
        ap (λ (b : Bool). b || true) there ∙ sym there
    go false t = or_none (has_message ms k)

-- ---- the messages of the first numbers
pub up_to_some : (message : ℕ → Option Message) (p : ℕ) (m : Message) → message (suc p) ≡ Some m → up_to message (suc p) ≡ up_to message p ++ m ∷ []
up_to_some message p m e = ap (λ (o : Option Message). up_to message p ++ listed o) e

pub up_to_none : (message : ℕ → Option Message) (p : ℕ) → message (suc p) ≡ None → up_to message (suc p) ≡ up_to message p
up_to_none message p e = ap (λ (o : Option Message). up_to message p ++ listed o) e ∙ append-nil (up_to message p)

up_to_more : (message : ℕ → Option Message) (m k : ℕ) → (n : ℕ) → n ≡ m + k → Begins (up_to message m) (up_to message n)
up_to_more message m zero n e =
    let same : m ≡ n = omega arith in
    subst (λ (i : ℕ). Begins (up_to message m) (up_to message i)) same (begins-refl (up_to message m))
up_to_more message m (suc k) zero e =
    let none : m ≡ 0 = omega arith in
    subst (λ (i : ℕ). Begins (up_to message i) []) (sym none) (begins-refl [])
up_to_more message m (suc k) (suc n) e =
    begins-trans (up_to message m) (up_to message n) (up_to message (suc n)) (up_to_more message m k n (omega arith))
    (begins-append (up_to message n) (listed (message (suc n))))

pub up_to_begins : (message : ℕ → Option Message) (m n : ℕ) → m ≤ n → Begins (up_to message m) (up_to message n)
up_to_begins message m n le = up_to_more message m (n - m) n (omega arith)

either : (a b : ℕ) → (a ≤ b) ⊎ (b ≤ a)
either a b = grind arith

-- the first of each key, up to two numbers
first_of_keys_begin : (xs ys : List Message) → Begins xs ys → Begins (first_of_keys xs) (first_of_keys ys)
first_of_keys_begin xs ys b = begins_firsts alike_keys alike_trans unknown (closed_unknown alike_keys) xs ys b

pub first_of_keys_comparable : (message : ℕ → Option Message) (m n : ℕ) → Comparable (first_of_keys (up_to message m)) (first_of_keys (up_to message n))
first_of_keys_comparable message m n = go (either m n)
  where
    go : (m ≤ n) ⊎ (n ≤ m) → Comparable (first_of_keys (up_to message m)) (first_of_keys (up_to message n))
    go (inl le) = inl (first_of_keys_begin (up_to message m) (up_to message n) (up_to_begins message m n le))
    go (inr le) = inr (first_of_keys_begin (up_to message n) (up_to message m) (up_to_begins message n m le))
