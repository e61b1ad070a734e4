-- The set of delivered pairs: what is in it after one more.
use Rattle.std.proofs.Common.{ℕ, Bool, true, false, ◌||◌, ◌&&◌, ◌≡◌, List, [], ◌∷◌, ◌++◌, refl, sym, ap, ◌∙◌, ◌==◌, eqb, Ordering, Less, Equal, Greater, is_eq, nat_cmp, arith}
use Rattle.std.specs.Ordering.{match_ordering, ordering_then}
use Rattle.std.proofs.lemmas.Bool.{false≢true}
use Rattle.std.proofs.lemmas.Bool.Decides.{nat_tests}
use Rattle.samoa_serial.specs.contracts.keys.PairOrd.TheImpl.{ghosts as paired}
use Rattle.samoa_serial.specs.declared.message.Message.{Message}
use Rattle.samoa_serial.specs.declared.keys.Pair.{Pair}
use Rattle.samoa_laws.proofs.lists.Lists.{among-append}
use Rattle.samoa_laws.specs.lists.Lists.{among}
use Rattle.samoa_serial.specs.Rows.{has_pair, with_pair}
use Rattle.samoa_serial.specs.ReplTable.{pair_of}
use Rattle.samoa_laws.specs.replacement.History.{same_pair}

abbrev pub pairs_alike : Pair → Pair → Bool
pairs_alike p q = (p.origin == q.origin) && (p.number == q.number)

two_numbers : (a b c d : ℕ) → is_eq (ordering_then (nat_cmp a b) (nat_cmp c d)) ≡ (eqb a b && eqb c d)
two_numbers a b c d = grind (arith, nat_tests)

cmp_alike : (p q : Pair) → is_eq (paired.cmp p q) ≡ pairs_alike p q
cmp_alike p q = two_numbers p.origin q.origin p.number q.number

chain_numbers : (a b c d e f : ℕ) → (eqb a b && eqb d e) ≡ true → (eqb b c && eqb e f) ≡ true → (eqb a c && eqb d f) ≡ true
chain_numbers a b c d e f p q = grind (arith, nat_tests)

flip_numbers : (a b c d : ℕ) → (eqb a b && eqb c d) ≡ (eqb b a && eqb d c)
flip_numbers a b c d = grind (arith, nat_tests)

pub alike_trans : (x y z : Pair) → pairs_alike x y ≡ true → pairs_alike y z ≡ true → pairs_alike x z ≡ true
alike_trans x y z p q = chain_numbers x.origin y.origin z.origin x.number y.number z.number p q

pub same_trans : (x y z : Message) → same_pair x y ≡ true → same_pair y z ≡ true → same_pair x z ≡ true
same_trans x y z p q = chain_numbers x.origin y.origin z.origin x.number y.number z.number p q

pub same_back : (x y : Message) → same_pair x y ≡ same_pair y x
same_back x y = flip_numbers x.origin y.origin x.number y.number

has_first : (x : Pair) (xs : List Pair) (q : Pair) → has_pair (x ∷ xs) q ≡ (pairs_alike q x || has_pair xs q)
has_first x xs q = ap (λ b. b || has_pair xs q) (cmp_alike q x)

drop_known : (a b c : Bool) → (a ≡ true → b ≡ true) → (b || c) ≡ (a || (b || c))
drop_known true true c h = refl
drop_known true false c h = absurd (false≢true (h refl))
drop_known false b c h = refl

other_order : (a b c : Bool) → (b || (a || c)) ≡ (a || (b || c))
other_order true true c = refl
other_order true false c = refl
other_order false b c = refl

equal_cmp : (k x : Pair) → paired.cmp k x ≡ Equal → pairs_alike k x ≡ true
equal_cmp k x e = sym (cmp_alike k x) ∙ ap is_eq e

has_with : (ps : List Pair) (k q : Pair) → has_pair (with_pair ps k) q ≡ (pairs_alike q k || has_pair ps q)
has_with [] k q = has_first k [] q
has_with (x ∷ xs) k q = go (has_with xs k q) (paired.cmp k x) refl
  where
    go : has_pair (with_pair xs k) q ≡ (pairs_alike q k || has_pair xs q) → (o : Ordering) → paired.cmp k x ≡ o
        → has_pair (match_ordering o (k ∷ x ∷ xs) (x ∷ xs) (x ∷ with_pair xs k)) q ≡ (pairs_alike q k || has_pair (x ∷ xs) q)
    go ih Less o = has_first k (x ∷ xs) q
    go ih Equal o =
        has_first x xs q
        ∙ drop_known (pairs_alike q k) (pairs_alike q x) (has_pair xs q) (λ e. alike_trans q k x e (equal_cmp k x o))
        ∙ ap (λ b. pairs_alike q k || b) (sym (has_first x xs q))
    go ih Greater o =
        has_first x (with_pair xs k) q
        ∙ ap (λ b. pairs_alike q x || b) ih
        ∙ other_order (pairs_alike q k) (pairs_alike q x) (has_pair xs q)
        ∙ ap (λ b. pairs_alike q k || b) (sym (has_first x xs q))

last_first : (a b : Bool) → (a || b) ≡ (b || (a || false))
last_first true true = refl
last_first true false = refl
last_first false true = refl
last_first false false = refl

-- a set that has the pairs of some messages has, with one more, those of one message more
pub known_more : (ps : List Pair) (ms : List Message) (x : Message) → ((y : Message) → has_pair ps (pair_of y) ≡ among same_pair ms y)
    → (y : Message) → has_pair (with_pair ps (pair_of x)) (pair_of y) ≡ among same_pair (ms ++ x ∷ []) y
known_more ps ms x h y =
    has_with ps (pair_of x) (pair_of y)
    ∙ (λ k. same_back y x k || h y k)
    ∙ last_first (same_pair x y) (among same_pair ms y)
    ∙ sym (among-append same_pair ms (x ∷ []) y)
