-- The queues of the slots: the head is who has the turn, and where a computation is past, who comes next is the head.
use Rattle.std.proofs.Common.{arith, ◌≡◌, ◌≢◌, ℕ, zero, suc, ◌≤◌, ◌<◌, ◌⊎◌, inl, inr, sym, ap, ◌∙◌, subst, Option, Some, None}
use Rattle.std.proofs.lemmas.Bool.{cases_eq}
use Rattle.samoa_model.specs.Allowed.{weight}
use Rattle.samoa_invariant.specs.Play.{Play, version, weight_at}
use Rattle.samoa_invariant.specs.State.{Core, HasTurn}
use Rattle.samoa_invariant.specs.Inv.{Invariant, Owns}
use Rattle.samoa_invariant.specs.Index.{Declares, IsAfter, IsHead, IsHeadOf, IsLast, IsNextOf}
use Rattle.samoa_invariant.proofs.preservation.Slots.{owns_turn, turn_owns}
use Rattle.samoa_invariant.proofs.preservation.Versions.{all_before_past, owns_single, version-mono, weight_at-else, weight_at-is}

-- whose interval has some version declares the slot
pub owner_declares : (P : Play) (x k v p : ℕ) → Owns P x k v p → Declares P v p k
owner_declares P x k v p o = go (cases_eq v (P.node k))
  where
    go : (v ≡ P.node k) ⊎ (v ≢ P.node k) → Declares P v p k
    go (inl e) = record { node = e; some = omega (arith, weight_at-is P k v p e, o.from, o.below) }
    go (inr ne) = absurd (omega (arith, weight_at-else P k v p ne, o.from, o.below))

pub owner_heads : (P : Play) (core : Core) (v p k : ℕ) → Invariant P core → k < core.count → Owns P (core.local v p) k v p → IsHead P core v p k
owner_heads P core v p k inv lt o = record {
  admitted = lt;
  declares = owner_declares P (core.local v p) k v p o;
  short = omega (arith, inv.booked.private k v p lt, o.below);
  before = λ j less d. omega (arith, inv.booked.private j v p (omega arith), version-mono P (suc j) k v p (omega arith), o.from);
}

pub head_owns : (P : Play) (core : Core) (v p k : ℕ) → Invariant P core → IsHead P core v p k → Owns P (core.local v p) k v p
head_owns P core v p k inv head = record {
  from = all_before_past P (core.local v p) k v p (λ j less here some.
      omega (arith, head.admitted, inv.booked.private j v p (omega (arith, head.admitted, less)), head.before j less (record { node = here; some = some })));
  below = omega (arith, inv.booked.private k v p head.admitted, head.short);
}

-- the turn at a slot is with the head of its queue
pub turn_heads : (P : Play) (core : Core) (k p : ℕ) → Invariant P core → HasTurn P core k p → IsHead P core (P.node k) p k
turn_heads P core k p inv turn = owner_heads P core (P.node k) p k inv turn.admitted (turn_owns P core k p inv turn)

pub head_turns : (P : Play) (core : Core) (k p : ℕ) → Invariant P core → IsHead P core (P.node k) p k → HasTurn P core k p
head_turns P core k p inv head = owns_turn P core k p inv head.admitted (head_owns P core (P.node k) p k inv head)

-- what doesn't declare a slot takes no version there
adds_none : (P : Play) (n v p : ℕ) → (Declares P v p n → ⊥) → weight_at P n v p ≡ zero
adds_none P n v p none = go (cases_eq v (P.node n)) (cases_eq (weight (P.decl n) p) zero)
  where
    go : (v ≡ P.node n) ⊎ (v ≢ P.node n) → (weight (P.decl n) p ≡ zero) ⊎ (weight (P.decl n) p ≢ zero) → weight_at P n v p ≡ zero
    go (inr ne) w = weight_at-else P n v p ne
    go (inl e) (inl is) = weight_at-is P n v p e ∙ is
    go (inl e) (inr some) = absurd (none (record { node = e; some = omega arith }))

version-flat : (P : Play) (k n v p : ℕ) → k ≤ n → ((i : ℕ) → k ≤ i → i < n → Declares P v p i → ⊥) → version P n v p ≡ version P k v p
version-flat P k zero v p le none = let e : zero ≡ k = omega arith in ap (λ (i : ℕ). version P i v p) e
version-flat P k (suc n) v p le none = go (λ h. version-flat P k n v p h (λ i from less. none i from (omega arith))) (cases_eq (suc n) k)
  where
    go : (k ≤ n → version P n v p ≡ version P k v p) → (suc n ≡ k) ⊎ (suc n ≢ k) → version P (suc n) v p ≡ version P k v p
    go ih (inl e) = ap (λ (i : ℕ). version P i v p) e
    go ih (inr ne) = omega (arith, ih (omega arith), adds_none P n v p (none n (omega arith) (omega arith)))

-- where a computation is just past, who comes next has the turn
next_owns : (P : Play) (count k p j : ℕ) → IsAfter P count k p j → Owns P (version P (suc k) (P.node k) p) j (P.node k) p
next_owns P count k p j after =
    let flat : version P j (P.node k) p ≡ version P (suc k) (P.node k) p =
    version-flat P (suc k) j (P.node k) p (omega (arith, after.later)) (λ i from less. after.between i (omega arith) less) in
    record { from = omega (arith, flat); below = omega (arith, flat, weight_at-is P j (P.node k) p after.declares.node, after.declares.some) }

last_is_all : (P : Play) (count k p : ℕ) → k < count → IsLast P count k p → version P count (P.node k) p ≡ version P (suc k) (P.node k) p
last_is_all P count k p lt last = version-flat P (suc k) count (P.node k) p (omega arith) (λ i from less. last i (omega arith) less)

pub passed_heads : (P : Play) (core : Core) (k p : ℕ) (x : Option ℕ) → Invariant P core → k < core.count
    → core.local (P.node k) p ≡ version P (suc k) (P.node k) p → IsNextOf P core.count k p x → IsHeadOf P core (P.node k) p x
passed_heads P core k p None inv lt is last = λ j less d.
    omega (arith, is, inv.booked.private j (P.node k) p less, last_is_all P core.count k p lt last, version-mono P (suc j) core.count (P.node k) p (omega arith))
passed_heads P core k p (Some j) inv lt is after =
    owner_heads P core (P.node k) p j inv after.admitted (subst (λ (x : ℕ). Owns P x j (P.node k) p) (sym is) (next_owns P core.count k p j after))

-- and nobody else has
pub owner_is_next : (P : Play) (core : Core) (k p : ℕ) (x : Option ℕ) (j : ℕ) → k < core.count → core.local (P.node k) p ≡ version P (suc k) (P.node k) p
    → IsNextOf P core.count k p x → j < core.count → Owns P (core.local (P.node k) p) j (P.node k) p → x ≡ Some j
owner_is_next P core k p None j lt is last less o =
    absurd (omega (arith, is, o.below, last_is_all P core.count k p lt last, version-mono P (suc j) core.count (P.node k) p (omega arith)))
owner_is_next P core k p (Some i) j lt is after less o =
    ap (λ (n : ℕ). Some n) (owns_single P (core.local (P.node k) p) i j (P.node k) p
    (subst (λ (x : ℕ). Owns P x i (P.node k) p) (sym is) (next_owns P core.count k p i after)) o)

-- a slot has one head
pub head_is : (P : Play) (core : Core) (v p : ℕ) (x : Option ℕ) (k : ℕ) → Invariant P core → IsHeadOf P core v p x → IsHead P core v p k → x ≡ Some k
head_is P core v p None k inv free head = absurd (omega (arith, free k head.admitted head.declares, head.short))
head_is P core v p (Some j) k inv mine head =
    ap (λ (n : ℕ). Some n) (owns_single P (core.local v p) j k v p (head_owns P core v p j inv mine) (head_owns P core v p k inv head))
