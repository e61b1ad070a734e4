-- What may be over among the early messages, as they come and are delivered.
use Rattle.std.proofs.Common.{◌≡◌, ℕ, ◌==◌, nat_lt, Bool, true, false, not, ◌||◌, ◌&&◌, List, [], ◌∷◌, All, cond, filter, refl, sym, ap, ◌∙◌, arith}
use Rattle.std.specs.List.{list_any}
use Rattle.std.specs.Ordering.{is_eq, match_ordering}
use Rattle.std.proofs.Common.{Ordering, Less, Equal, Greater}
use Rattle.std.proofs.lemmas.List.Elements.{All-head, All-tail, All-weaker}
use Rattle.std.proofs.lemmas.Bool.Decides.{nat_tests}
use Rattle.samoa_serial.specs.Rows.{has_pair, with_pair}
use Rattle.samoa_serial.specs.ReplTable.{pair_of, without_first}
use Rattle.samoa_serial.specs.contracts.keys.PairOrd.TheImpl.{ghosts as paired}
use Rattle.samoa_serial.specs.declared.message.Message.{Message}
use Rattle.samoa_serial.specs.declared.keys.Pair.{Pair}
use Rattle.samoa_repl.specs.Arrived.{comes, is_copy, is_other, IsAtMost, marked}
use Rattle.samoa_repl.specs.declared.early.Over.{Over}
use Rattle.samoa_repl.specs.declared.early.Over.TheVariants.{Nothing, Copies, Anything}
use Rattle.samoa_repl.proofs.Placed.{All-without_first}

-- two tests that agree at each element keep the same
pub same_kept : (p q : Message → Bool) (ms : List Message) → All (λ m. p m ≡ q m) ms → filter p ms ≡ filter q ms
same_kept p q [] a = refl
same_kept p q (m ∷ ms) a =
    ap (λ (b : Bool). cond b (m ∷ filter p ms) (filter p ms)) (All-head (λ x. p x ≡ q x) m ms a)
    ∙ ap (λ (xs : List Message). cond (q m) (m ∷ xs) xs) (same_kept p q ms (All-tail (λ x. p x ≡ q x) m ms a))

pub all_kept : (p : Message → Bool) (ms : List Message) → All (λ m. p m ≡ true) ms → ms ≡ filter p ms
all_kept p [] a = refl
all_kept p (m ∷ ms) a =
    ap (λ (xs : List Message). m ∷ xs) (all_kept p ms (All-tail (λ x. p x ≡ true) m ms a))
    ∙ ap (λ (b : Bool). cond b (m ∷ filter p ms) (filter p ms)) (sym (All-head (λ x. p x ≡ true) m ms a))

pub none_copied : (f : Message → Bool) (ms : List Message) → list_any f ms ≡ false → ms ≡ filter (λ m. not (f m)) ms
none_copied f [] h = refl
none_copied f (m ∷ ms) h = go (f m) (none_copied f ms) h
  where
    go : (b : Bool) → (list_any f ms ≡ false → ms ≡ filter (λ x. not (f x)) ms) → (b || list_any f ms) ≡ false
        → m ∷ ms ≡ cond (not b) (m ∷ filter (λ x. not (f x)) ms) (filter (λ x. not (f x)) ms)
    go true ih h = absurd (cc)
    go false ih h = ap (λ (xs : List Message). m ∷ xs) (ih h)

-- ---- a pair that was added
same_pair : (a b : Pair) → paired.cmp a b ≡ Equal → a ≡ b
same_pair a b h = grind (arith, nat_tests)

itself : (a b : Pair) → is_eq (paired.cmp a b) ≡ ((b.number == a.number) && (b.origin == a.origin))
itself a b = grind (arith, nat_tests)

pub has_added : (ps : List Pair) (q r : Pair) → has_pair (with_pair ps q) r ≡ (is_eq (paired.cmp r q) || has_pair ps r)
has_added [] q r = refl
has_added (p ∷ ps) q r = go (paired.cmp q p) refl (has_added ps q r)
  where
    twice : (b c : Bool) → (b || c) ≡ (b || (b || c))
    twice true c = refl
    twice false c = refl

    swap : (a b c : Bool) → (a || (b || c)) ≡ (b || (a || c))
    swap true true c = refl
    swap true false c = refl
    swap false b c = refl

    go : (o : Ordering) → paired.cmp q p ≡ o → has_pair (with_pair ps q) r ≡ (is_eq (paired.cmp r q) || has_pair ps r)
        → has_pair (match_ordering o (q ∷ p ∷ ps) (p ∷ ps) (p ∷ with_pair ps q)) r ≡ (is_eq (paired.cmp r q) || (is_eq (paired.cmp r p) || has_pair ps r))
    go Less e ih = refl
    go Equal e ih =
        twice (is_eq (paired.cmp r p)) (has_pair ps r)
        ∙ ap (λ (x : Pair). is_eq (paired.cmp r x) || (is_eq (paired.cmp r p) || has_pair ps r)) (sym (same_pair q p e))
    go Greater e ih =
        ap (λ (b : Bool). is_eq (paired.cmp r p) || b) ih
        ∙ swap (is_eq (paired.cmp r p)) (is_eq (paired.cmp r q)) (has_pair ps r)

-- one that might come still does, unless it is a copy of what was delivered
still_comes : (e : ℕ) (d : List Pair) (q : Pair) (m : Message) → comes e d m ≡ true → comes e (with_pair d q) m ≡ is_other q m
still_comes e d q m t =
    ap (λ (b : Bool). not (nat_lt m.epoch e || b)) (has_added d q (pair_of m))
    ∙ (go (nat_lt m.epoch e) (is_eq (paired.cmp (pair_of m) q)) (has_pair d (pair_of m)) t
    ∙ ap not (itself (pair_of m) q ∙ turned))
  where
    go : (a b c : Bool) → not (a || c) ≡ true → not (a || (b || c)) ≡ not b
    go true b c t = absurd (cc)
    go false true c t = refl
    go false false true t = absurd (cc)
    go false false false t = refl

    turned : ((q.number == m.number) && (q.origin == m.origin)) ≡ is_copy q m
    turned = grind (arith, nat_tests)

-- what may be over after a message was delivered
pub mark_swept : (o : Over) (e : ℕ) (d : List Pair) (q : Pair) (ms : List Message) → IsAtMost o e d ms → IsAtMost (marked o q) e (with_pair d q) (without_first e ms)
mark_swept Nothing e d q ms a =
    same_kept (comes e (with_pair d q)) (is_other q) (without_first e ms)
    (All-weaker (λ m. comes e d m ≡ true) (λ m. comes e (with_pair d q) m ≡ is_other q m) (still_comes e d q) (without_first e ms)
    (All-without_first (λ m. comes e d m ≡ true) e ms a))
mark_swept (Copies p) e d q ms a = tt
mark_swept Anything e d q ms a = tt
