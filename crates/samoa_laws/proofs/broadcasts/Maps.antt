-- Sets of keys and maps from numbers, as the tables change them.
use Rattle.std.proofs.Common.{◌≡◌, ◌⊎◌, inl, inr, ℕ, zero, suc, ◌+◌, ◌<◌, ◌≤◌, Bool, true, false, ◌||◌, cond, List, [], ◌∷◌, ◌++◌, length, refl, sym, ap, ◌∙◌, arith, ◌==◌, if◌then◌else◌, eqb-true, eq-eqb, Option, Some, None, is_some, nat_cmp, Ordering, Less, Equal, Greater}
use Rattle.std.specs.Map.{lookup}
use Rattle.std.specs.Ordering.{is_eq, match_ordering}
use Rattle.std.specs.BTreeMap.{insert_entry}
use Rattle.std.proofs.lemmas.Bool.Decides.{nat_tests}
use Rattle.samoa_serial.specs.contracts.keys.KeyOrd.TheImpl.{ghosts as keyed}
use Rattle.samoa_serial.specs.Rows.{same_key, has_key, with_key, message_of, with_message}
use Rattle.samoa_serial.specs.declared.keys.Key.{Key}
use Rattle.samoa_serial.specs.declared.message.Message.{Message}
use Rattle.samoa_laws.proofs.lists.Messages.{same_key_equal}
use Rattle.samoa_laws.specs.lists.Lists.{In}
use Rattle.samoa_laws.proofs.lists.Lists.{some_same}
use Rattle.samoa_serial.proofs.DrainLaws.{from_on, from_on_le-length, fewer}

-- ---- sets of keys
keyed_is : (a b : Key) → is_eq (keyed.cmp a b) ≡ same_key b a
keyed_is a b = grind (arith, nat_tests)

key_put : (b rest c : Bool) → b ≡ c → (b || rest) ≡ (c || rest)
key_put b rest c e = ap (λ (a : Bool). a || rest) e

key_kept : (b rest c : Bool) → b ≡ c → (b || rest) ≡ (c || (b || rest))
key_kept true rest true e = refl
key_kept true rest false e = absurd (cc)
key_kept false rest true e = absurd (cc)
key_kept false rest false e = refl

key_later : (b rest new c : Bool) → new ≡ (c || rest) → (b || new) ≡ (c || (b || rest))
key_later true rest new true e = refl
key_later true rest new false e = refl
key_later false rest new c e = e

-- the keys after one was put in
pub has-with_key : (keys : List Key) (key k : Key) → has_key (with_key keys key) k ≡ (same_key key k || has_key keys k)
has-with_key [] key k = key_put (is_eq (keyed.cmp k key)) false (same_key key k) (keyed_is k key)
has-with_key (x ∷ xs) key k = go (has-with_key xs key k) (keyed.cmp key x) refl
  where
    equal : keyed.cmp key x ≡ Equal → x ≡ key
    equal o = same_key_equal x key (sym (keyed_is key x) ∙ ap is_eq o)

    go : has_key (with_key xs key) k ≡ (same_key key k || has_key xs k) → (o : Ordering) → keyed.cmp key x ≡ o
        → has_key (match_ordering o (key ∷ x ∷ xs) (x ∷ xs) (x ∷ with_key xs key)) k ≡ (same_key key k || has_key (x ∷ xs) k)
    go ih Less o = key_put (is_eq (keyed.cmp k key)) (has_key (x ∷ xs) k) (same_key key k) (keyed_is k key)
    go ih Equal o =
        key_kept (is_eq (keyed.cmp k x)) (has_key xs k) (same_key key k)
        (keyed_is k x ∙ ap (λ (y : Key). same_key y k) (equal o))
    go ih Greater o = key_later (is_eq (keyed.cmp k x)) (has_key xs k) (has_key (with_key xs key) k) (same_key key k) ih

-- ---- maps
-- what compares equal is the same
pub record Agrees {K : Type 0} (cmp : K → K → Ordering) (same : K → K → Bool) : Type 0 where
  pub tied : (a b : K) → is_eq (cmp a b) ≡ same b a
  pub equal : (a b : K) → same a b ≡ true → a ≡ b
  pub self : (a : K) → same a a ≡ true

first_of_two : {V : Type 0} (v : V) (rest : Option V) (b c : Bool) → b ≡ c → cond b (Some v) rest ≡ (if c then Some v else rest)
first_of_two v rest true true e = refl
first_of_two v rest true false e = absurd (cc)
first_of_two v rest false true e = absurd (cc)
first_of_two v rest false false e = refl

in_place : {V : Type 0} (v w : V) (rest : Option V) (b c : Bool) → b ≡ c
    → cond b (Some v) rest ≡ (if c then Some v else cond b (Some w) rest)
in_place v w rest true true e = refl
in_place v w rest true false e = absurd (cc)
in_place v w rest false true e = absurd (cc)
in_place v w rest false false e = refl

passed_by : {V : Type 0} (v w : V) (rest new : Option V) (b c : Bool) → (b ≡ true → c ≡ true → ⊥)
    → new ≡ (if c then Some v else rest)
    → cond b (Some w) new ≡ (if c then Some v else cond b (Some w) rest)
passed_by v w rest new true true no_both ih = absurd (no_both refl refl)
passed_by v w rest new true false no_both ih = refl
passed_by v w rest new false c no_both ih = ih

-- what stands at a key after an entry was put in
pub lookup_insert : {K V : Type 0} (cmp : K → K → Ordering) (same : K → K → Bool) → Agrees cmp same → (es : List (K × V)) (k : K) (v : V) (j : K)
    → lookup (λ x. is_eq (cmp j x)) (insert_entry cmp es k v) ≡ (if same k j then Some v else lookup (λ x. is_eq (cmp j x)) es)
lookup_insert cmp same laws [] k v j = first_of_two v None (is_eq (cmp j k)) (same k j) (laws.tied j k)
lookup_insert {K} {V} cmp same laws (e ∷ es) k v j = go (lookup_insert cmp same laws es k v j) (cmp k e.0) refl
  where
    equal : cmp k e.0 ≡ Equal → e.0 ≡ k
    equal o = laws.equal e.0 k (sym (laws.tied k e.0) ∙ ap is_eq o)

    apart : cmp k e.0 ≡ Greater → is_eq (cmp j e.0) ≡ true → same k j ≡ true → ⊥
    apart o p q =
        let first : e.0 ≡ j = laws.equal e.0 j (sym (laws.tied j e.0) ∙ p) in
        let second : k ≡ j = laws.equal k j q in
        let both : is_eq (cmp k e.0) ≡ true = laws.tied k e.0 ∙ (ap (λ (a : K). same a k) (first ∙ sym second) ∙ laws.self k) in
        let none : is_eq (cmp k e.0) ≡ false = ap is_eq o in
        cc

    go : lookup (λ x. is_eq (cmp j x)) (insert_entry cmp es k v) ≡ (if same k j then Some v else lookup (λ x. is_eq (cmp j x)) es)
        → (o : Ordering) → cmp k e.0 ≡ o
        → lookup (λ x. is_eq (cmp j x)) (match_ordering o ((k, v) ∷ e ∷ es) ((e.0, v) ∷ es) (e ∷ insert_entry cmp es k v))
        ≡ (if same k j then Some v else lookup (λ x. is_eq (cmp j x)) (e ∷ es))
    go ih Less o = first_of_two v (lookup (λ x. is_eq (cmp j x)) (e ∷ es)) (is_eq (cmp j k)) (same k j) (laws.tied j k)
    go ih Equal o =
        in_place v e.1 (lookup (λ x. is_eq (cmp j x)) es) (is_eq (cmp j e.0)) (same k j)
        (laws.tied j e.0 ∙ ap (λ (a : K). same a j) (equal o))
    go ih Greater o =
        passed_by v e.1 (lookup (λ x. is_eq (cmp j x)) es) (lookup (λ x. is_eq (cmp j x)) (insert_entry cmp es k v)) (is_eq (cmp j e.0)) (same k j)
        (apart o) ih

-- ---- maps from numbers
is_at : (a b : ℕ) → is_eq (nat_cmp a b) ≡ (b == a)
is_at a b = grind (arith, nat_tests)

pub numbers_agree : Agrees nat_cmp (λ a b. a == b)
numbers_agree = record { tied = is_at; equal = eqb-true; self = λ a. eq-eqb a a refl }

message_of-insert : (es : List (ℕ × Message)) (k : ℕ) (v : Message) (j : ℕ)
    → message_of (insert_entry nat_cmp es k v) j ≡ (if k == j then Some v else message_of es j)
message_of-insert es k v j = lookup_insert nat_cmp (λ a b. a == b) numbers_agree es k v j

length-insert : (es : List (ℕ × Message)) (k : ℕ) (v : Message) → length (insert_entry nat_cmp es k v) ≤ length es + 1
length-insert [] k v = omega arith
length-insert (e ∷ es) k v = go (nat_cmp k e.0) (length-insert es k v)
  where
    go : (o : Ordering) → length (insert_entry nat_cmp es k v) ≤ length es + 1
        → length (match_ordering o ((k, v) ∷ e ∷ es) ((e.0, v) ∷ es) (e ∷ insert_entry nat_cmp es k v)) ≤ length (e ∷ es) + 1
    go Less ih = omega arith
    go Equal ih = omega arith
    go Greater ih = omega arith

pub some_or_none : (o : Option Message) → ((m : Message) × (o ≡ Some m)) ⊎ (o ≡ None)
some_or_none None = inr refl
some_or_none (Some m) = inl (m, refl)

-- what `with_message` does: what was there stays, what is new is the one put in, and there is one more at most
pub record HasMore (es fs : List (ℕ × Message)) (i : ℕ) (m : Message) : Type 0 where
  pub stays : (j : ℕ) (x : Message) → message_of es j ≡ Some x → message_of fs j ≡ Some x
  pub new : (j : ℕ) (x : Message) → message_of fs j ≡ Some x → (message_of es j ≡ Some x) ⊎ ((i ≡ j) × (m ≡ x))
  pub few : length fs ≤ length es + 1

pub with_message_is : (es : List (ℕ × Message)) (i : ℕ) (m : Message) → HasMore es (with_message es i m) i m
with_message_is es i m = go (message_of es i) refl
  where
    put : List (ℕ × Message)
    put = insert_entry nat_cmp es i m

    same : (m x : Message) → Some m ≡ Some x → m ≡ x
    same m x e = cc

    no_message : (x : Message) → None ≡ Some x → ⊥
    no_message x e = cc

    stays : message_of es i ≡ None → (j : ℕ) (x : Message) → message_of es j ≡ Some x → message_of put j ≡ Some x
    stays none j x e = message_of-insert es i m j ∙ at (i == j) refl
      where
        at : (b : Bool) → (i == j) ≡ b → (if b then Some m else message_of es j) ≡ Some x
        at true t = absurd (no_message x (sym none ∙ (ap (λ (k : ℕ). message_of es k) (eqb-true i j t) ∙ e)))
        at false t = e

    new : (j : ℕ) (x : Message) → message_of put j ≡ Some x → (message_of es j ≡ Some x) ⊎ ((i ≡ j) × (m ≡ x))
    new j x e = at (i == j) refl (sym (message_of-insert es i m j) ∙ e)
      where
        at : (b : Bool) → (i == j) ≡ b → (if b then Some m else message_of es j) ≡ Some x → (message_of es j ≡ Some x) ⊎ ((i ≡ j) × (m ≡ x))
        at true t f = inr (eqb-true i j t, same m x f)
        at false t f = inl f

    go : (o : Option Message) → message_of es i ≡ o → HasMore es (if is_some o then es else put) i m
    go (Some x) e = record { stays = λ j y f. f; new = λ j y f. inl f; few = omega arith }
    go None e = record { stays = stays e; new = new; few = length-insert es i m }

-- ---- numbers that are all there
-- a message stands at the number
abbrev pub IsThere : List (ℕ × Message) → ℕ → Type 0
IsThere es i = (m : Message) × (message_of es i ≡ Some m)

counted : (es : List (ℕ × Message)) (p : ℕ) → ((i : ℕ) → 1 ≤ i → i ≤ p → IsThere es i) → from_on es (p + 1) + p ≤ length es
counted es zero all =
    let le : from_on es 1 ≤ length es = from_on_le-length es 1 in omega arith
counted es (suc p) all =
    let here : IsThere es (p + 1) = all (p + 1) (omega arith) (omega arith) in
    let less : from_on es (p + 1 + 1) < from_on es (p + 1) = fewer es (p + 1) here.0 here.1 in
    let rest : from_on es (p + 1) + p ≤ length es = counted es p (λ i lo hi. all i lo (omega arith)) in
    let same : from_on es (suc p + 1) ≡ from_on es (p + 1 + 1) = ap (λ (k : ℕ). from_on es k) (omega arith) in
    omega arith

-- as many entries as there are numbers
pub room : (es : List (ℕ × Message)) (p : ℕ) → ((i : ℕ) → 1 ≤ i → i ≤ p → IsThere es i) → p ≤ length es
room es p all = let c : from_on es (p + 1) + p ≤ length es = counted es p all in omega arith

-- ---- one more at the end of a list of numbers and messages
message_end_old : (ts : List (ℕ × Message)) (e : ℕ × Message) (j : ℕ) (x : Message) → message_of ts j ≡ Some x → message_of (ts ++ e ∷ []) j ≡ Some x
message_end_old [] e j x h = absurd (cc)
message_end_old (t ∷ ts) e j x h = go (is_eq (nat_cmp j t.0)) (message_end_old ts e j x) h
  where
    go : (b : Bool) → (message_of ts j ≡ Some x → message_of (ts ++ e ∷ []) j ≡ Some x) → cond b (Some t.1) (message_of ts j) ≡ Some x
        → cond b (Some t.1) (message_of (ts ++ e ∷ []) j) ≡ Some x
    go true ih h = h
    go false ih h = ih h

message_end_new : (ts : List (ℕ × Message)) (e : ℕ × Message) (j : ℕ) → message_of ts j ≡ None
    → message_of (ts ++ e ∷ []) j ≡ (if e.0 == j then Some e.1 else None)
message_end_new [] e j h = first_of_two e.1 None (is_eq (nat_cmp j e.0)) (e.0 == j) (is_at j e.0)
message_end_new (t ∷ ts) e j h = go (is_eq (nat_cmp j t.0)) (message_end_new ts e j) h
  where
    go : (b : Bool) → (message_of ts j ≡ None → message_of (ts ++ e ∷ []) j ≡ (if e.0 == j then Some e.1 else None))
        → cond b (Some t.1) (message_of ts j) ≡ None
        → cond b (Some t.1) (message_of (ts ++ e ∷ []) j) ≡ (if e.0 == j then Some e.1 else None)
    go true ih h = absurd (cc)
    go false ih h = ih h

pub message_end_cases : (ts : List (ℕ × Message)) (k : ℕ) (m : Message) (j : ℕ) (x : Message) → message_of (ts ++ (k, m) ∷ []) j ≡ Some x
    → (message_of ts j ≡ Some x) ⊎ ((message_of ts j ≡ None) × (k ≡ j) × (m ≡ x))
message_end_cases ts k m j x h = go (some_or_none (message_of ts j))
  where
    same : (o : Option Message) (y z : Message) → o ≡ Some y → o ≡ Some z → Some y ≡ Some z
    same o y z e f = cc

    at : message_of ts j ≡ None → (b : Bool) → (k == j) ≡ b → (if b then Some m else None) ≡ Some x
        → (message_of ts j ≡ Some x) ⊎ ((message_of ts j ≡ None) × (k ≡ j) × (m ≡ x))
    at none true t e = inr (none, eqb-true k j t, some_same (Some m) m x refl e)
    at none false t e = absurd (cc)

    go : ((y : Message) × (message_of ts j ≡ Some y)) ⊎ (message_of ts j ≡ None)
        → (message_of ts j ≡ Some x) ⊎ ((message_of ts j ≡ None) × (k ≡ j) × (m ≡ x))
    go (inl y) = inl (y.1 ∙ same (message_of (ts ++ (k, m) ∷ []) j) y.0 x (message_end_old ts (k, m) j y.0 y.1) h)
    go (inr none) = at none (k == j) refl (sym (message_end_new ts (k, m) j none) ∙ h)

pub message_end_same : (ts : List (ℕ × Message)) (k : ℕ) (m : Message) → message_of ts k ≡ None → message_of (ts ++ (k, m) ∷ []) k ≡ Some m
message_end_same ts k m none = message_end_new ts (k, m) k none ∙ ap (λ (b : Bool). if b then Some m else None) (eq-eqb k k refl)

pub message_end_other : (ts : List (ℕ × Message)) (k : ℕ) (m : Message) (j : ℕ) → (k ≡ j → ⊥) → message_of (ts ++ (k, m) ∷ []) j ≡ message_of ts j
message_end_other ts k m j other = go (some_or_none (message_of ts j))
  where
    at : message_of ts j ≡ None → (b : Bool) → (k == j) ≡ b → (if b then Some m else None) ≡ message_of ts j
    at none true t = absurd (other (eqb-true k j t))
    at none false t = sym none

    go : ((y : Message) × (message_of ts j ≡ Some y)) ⊎ (message_of ts j ≡ None) → message_of (ts ++ (k, m) ∷ []) j ≡ message_of ts j
    go (inl y) = message_end_old ts (k, m) j y.0 y.1 ∙ sym y.1
    go (inr none) = message_end_new ts (k, m) j none ∙ at none (k == j) refl

-- what a look-up finds stands in the list
pub message_of_in : (ts : List (ℕ × Message)) (j : ℕ) (x : Message) → message_of ts j ≡ Some x → In (j, x) ts
message_of_in [] j x h = absurd (cc)
message_of_in (t ∷ ts) j x h = go (is_eq (nat_cmp j t.0)) refl (message_of_in ts j x) h
  where
    go : (b : Bool) → is_eq (nat_cmp j t.0) ≡ b → (message_of ts j ≡ Some x → In (j, x) ts) → cond b (Some t.1) (message_of ts j) ≡ Some x
        → In (j, x) (t ∷ ts)
    go true e ih h =
        let number : t.0 ≡ j = eqb-true t.0 j (sym (is_at j t.0) ∙ e) in
        let it : t.1 ≡ x = some_same (Some t.1) t.1 x refl h in
        inl (λ k. (sym number k, sym it k))
    go false e ih h = inr (ih h)

-- what stands in the list is found, or another of its number is
pub in_message_of : (ts : List (ℕ × Message)) (j : ℕ) (x : Message) → In (j, x) ts → (y : Message) × (message_of ts j ≡ Some y)
in_message_of [] j x h = absurd h
in_message_of (t ∷ ts) j x (inl e) =
    (t.1, ap (λ (b : Bool). cond b (Some t.1) (message_of ts j)) (is_at j t.0 ∙ eq-eqb t.0 j (sym (ap (λ (u : ℕ × Message). u.0) e))))
in_message_of (t ∷ ts) j x (inr h) = go (is_eq (nat_cmp j t.0)) (in_message_of ts j x h)
  where
    go : (b : Bool) → (y : Message) × (message_of ts j ≡ Some y) → (y : Message) × (cond b (Some t.1) (message_of ts j) ≡ Some y)
    go true r = (t.1, refl)
    go false r = r
