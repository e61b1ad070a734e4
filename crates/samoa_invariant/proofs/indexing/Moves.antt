-- A step of one computation at one slot: what an index has to tell after it.
use Rattle.std.proofs.Common.{arith, ◌≡◌, ◌≢◌, ◌↔◌, ℕ, suc, ◌≤◌, ◌<◌, ◌⊎◌, inl, inr, sym, ap, ◌∙◌, subst, true, Option, Some, None}
use Rattle.std.proofs.lemmas.Bool.{cases_eq}
use Rattle.samoa_model.specs.Allowed.{weight}
use Rattle.samoa_invariant.specs.Play.{Play, version}
use Rattle.samoa_invariant.specs.State.{CanEnd, CanEnter, CanRelease, Core, HasTurn}
use Rattle.samoa_invariant.specs.Inv.{Invariant, Owns}
use Rattle.samoa_invariant.specs.Index.{Declares, Index, IsHeadOf, IsIndexed, IsUnmarked, MayEnter, TellsEntry, running}
use Rattle.samoa_invariant.proofs.preservation.Slots.{slot_or_not, turn_owns}
use Rattle.samoa_invariant.proofs.preservation.Versions.{in_order, owns_single, version-mono, weight_at-is}
use Rattle.samoa_invariant.proofs.indexing.Carried.{Carries, carried_end, carried_enter, carried_head, carried_release, running_turn}

-- a step of computation k at p: it changes nothing but k and what is at the slot of p at k's node, where k has the turn
pub record IsStepAt (P : Play) (core new : Core) (k p : ℕ) : Type 0 where
  pub count : core.count ≡ new.count
  pub on : (j : ℕ) → j ≢ k → Carries P core new j
  pub back : (j : ℕ) → j ≢ k → Carries P new core j
  pub private : (j v q : ℕ) → new.private j v q ≡ core.private j v q
  pub ended : (j : ℕ) → core.ended j ≡ true → new.ended j ≡ true
  pub local : (v q : ℕ) → (v ≢ P.node k) ⊎ (q ≢ p) → new.local v q ≡ core.local v q
  pub out : (v q : ℕ) → (v ≢ P.node k) ⊎ (q ≢ p) → new.out v q ≡ core.out v q
  pub admitted : k < core.count
  pub owns : Owns P (core.local (P.node k) p) k (P.node k) p
  pub most : new.local (P.node k) p ≤ version P (suc k) (P.node k) p

-- what the index tells after such a step, where the turn is with x or still with k
pub record Moves (P : Play) (new : Core) (k p : ℕ) (x : Option ℕ) (index other : Index) : Type 0 where
  pub head : IsHeadOf P new (P.node k) p (other.head (P.node k) p)
  pub head_else : (v q : ℕ) → (v ≢ P.node k) ⊎ (q ≢ p) → other.head v q ≡ index.head v q
  pub tail : (v q : ℕ) → other.tail v q ≡ index.tail v q
  pub next : (j q : ℕ) → other.next j q ≡ index.next j q
  pub ready : (j : ℕ) → j ≢ k → x ≢ Some j → other.ready j ≡ index.ready j
  pub restless : (j : ℕ) → j ≢ k → index.restless j ≡ true → other.restless j ≡ true
  pub closing : (j : ℕ) → j ≢ k → index.closing j ≡ true → other.closing j ≡ true
  pub unmarked : (j : ℕ) → new.count ≤ j → IsUnmarked index j → IsUnmarked other j
  pub next_ready : (j : ℕ) → x ≡ Some j → TellsEntry P new j (other.ready j)
  pub next_restless : (j : ℕ) → x ≡ Some j → other.restless j ≡ true
  pub own_ready : TellsEntry P new k (other.ready k)
  pub own_restless : (q : ℕ) → CanRelease P new k q → other.restless k ≡ true
  pub own_closing : CanEnd P new k → other.closing k ≡ true

-- at the slot, after the step, nobody but k and x has the turn
abbrev pub IsTurnOf : Play → Core → ℕ → ℕ → Option ℕ → Type 0
IsTurnOf P new k p x = (j : ℕ) → j ≢ k → j < new.count → Owns P (new.local (P.node k) p) j (P.node k) p → x ≡ Some j

pub is_or_not : (x : Option ℕ) (j : ℕ) → (x ≡ Some j) ⊎ (x ≢ Some j)
is_or_not None j = inr (λ (e : None ≡ Some j). cc)
is_or_not (Some i) j = go (cases_eq i j)
  where
    go : (i ≡ j) ⊎ (i ≢ j) → (Some i ≡ Some j) ⊎ (Some i ≢ Some j)
    go (inl e) = inl (ap (λ (n : ℕ). Some n) e)
    go (inr ne) = inr (λ (e : Some i ≡ Some j). ne (let same : Some i ≡ Some j = e in cc))

-- a turn at the slot is that of its owner
turn_there : (P : Play) (core : Core) (k p j q : ℕ) → Invariant P core → P.node j ≡ P.node k → q ≡ p → HasTurn P core j q → Owns P (core.local (P.node k) p) j (P.node k) p
turn_there P core k p j q inv e g turn =
    subst (λ (r : ℕ). Owns P (core.local (P.node k) r) j (P.node k) r) g
    (subst (λ (v : ℕ). Owns P (core.local v q) j v q) e (turn_owns P core j q inv turn))

-- who else may enter
enters_on : (P : Play) (core new : Core) (k p j q : ℕ) → Invariant P core → IsStepAt P core new k p → j ≢ k → CanEnter P (running core) j q → CanEnter P (running new) j q
enters_on P core new k p j q inv s ne can = go (slot_or_not (P.node j) (P.node k) q p)
  where
    go : ((P.node j ≡ P.node k) × (q ≡ p)) ⊎ ((P.node j ≢ P.node k) ⊎ (q ≢ p)) → CanEnter P (running new) j q
    go (inl (e, g)) = absurd (ne (owns_single P (core.local (P.node k) p) j k (P.node k) p
        (turn_there P core k p j q inv e g (running_turn P core j q can)) s.owns))
    go (inr apart) = carried_enter P core new j q (s.on j ne) (s.local (P.node j) q apart) (λ home. s.out (P.node j) q apart ∙ home) can

enters_back : (P : Play) (core new : Core) (k p : ℕ) (x : Option ℕ) (j q : ℕ) → Invariant P new → IsStepAt P core new k p → IsTurnOf P new k p x → j ≢ k → x ≢ Some j
    → CanEnter P (running new) j q → CanEnter P (running core) j q
enters_back P core new k p x j q inv s turn ne isnt can = go (slot_or_not (P.node j) (P.node k) q p)
  where
    go : ((P.node j ≡ P.node k) × (q ≡ p)) ⊎ ((P.node j ≢ P.node k) ⊎ (q ≢ p)) → CanEnter P (running core) j q
    go (inl (e, g)) = absurd (isnt (turn j ne can.turn.admitted (turn_there P new k p j q inv e g (running_turn P new j q can))))
    go (inr apart) = carried_enter P new core j q (s.back j ne) (sym (s.local (P.node j) q apart)) (λ home. sym (s.out (P.node j) q apart) ∙ home) can

-- whose release becomes due
releases_back : (P : Play) (core new : Core) (k p : ℕ) (x : Option ℕ) (j q : ℕ) → Invariant P new → IsStepAt P core new k p → IsTurnOf P new k p x → j ≢ k
    → CanRelease P new j q → (x ≡ Some j) ⊎ CanRelease P core j q
releases_back P core new k p x j q inv s turn ne can = go (slot_or_not (P.node j) (P.node k) q p)
  where
    go : ((P.node j ≡ P.node k) × (q ≡ p)) ⊎ ((P.node j ≢ P.node k) ⊎ (q ≢ p)) → (x ≡ Some j) ⊎ CanRelease P core j q
    go (inl (e, g)) = inl (turn j ne can.turn.admitted (turn_there P new k p j q inv e g can.turn))
    go (inr apart) = inr (carried_release P new core j q (s.back j ne) (sym (s.local (P.node j) q apart)) can)

-- no other end becomes due
past_there : (P : Play) (core new : Core) (k p j : ℕ) → Invariant P new → IsStepAt P core new k p → j ≢ k → j < new.count → Declares P (P.node k) p j
    → new.private j (P.node k) p ≤ new.local (P.node k) p → new.private j (P.node k) p ≤ core.local (P.node k) p
past_there P core new k p j inv s ne lt d le = go (in_order j k)
  where
    go : (j < k) ⊎ ((j ≡ k) ⊎ (k < j)) → new.private j (P.node k) p ≤ core.local (P.node k) p
    go (inl less) = omega (arith, inv.booked.private j (P.node k) p lt, version-mono P (suc j) k (P.node k) p (omega arith), s.owns.from)
    go (inr (inl same)) = absurd (ne same)
    go (inr (inr more)) = absurd (omega (
      arith,
      inv.booked.private j (P.node k) p lt,
      version-mono P (suc k) j (P.node k) p (omega arith),
      s.most,
      le,
      weight_at-is P j (P.node k) p d.node,
      d.some,
    ))

ends_back : (P : Play) (core new : Core) (k p j : ℕ) → Invariant P new → IsStepAt P core new k p → j ≢ k → CanEnd P new j → CanEnd P core j
ends_back P core new k p j inv s ne can = carried_end P new core j (s.back j ne) past can
  where
    past : (q : ℕ) → 0 < weight (P.decl j) q → new.private j (P.node j) q ≤ new.local (P.node j) q → new.private j (P.node j) q ≤ core.local (P.node j) q
    past q some le = go (slot_or_not (P.node j) (P.node k) q p)
      where
        go : ((P.node j ≡ P.node k) × (q ≡ p)) ⊎ ((P.node j ≢ P.node k) ⊎ (q ≢ p)) → new.private j (P.node j) q ≤ core.local (P.node j) q
        go (inl (e, g)) =
            let there : new.private j (P.node k) p ≤ new.local (P.node k) p =
            subst (λ (r : ℕ). new.private j (P.node k) r ≤ new.local (P.node k) r) g (subst (λ (v : ℕ). new.private j v q ≤ new.local v q) e le) in
            let here : Declares P (P.node k) p j = record { node = sym e; some = subst (λ (r : ℕ). 0 < weight (P.decl j) r) g some } in
            subst (λ (v : ℕ). new.private j v q ≤ core.local v q) (sym e) (subst (λ (r : ℕ). new.private j (P.node k) r ≤ core.local (P.node k) r) (sym g)
            (past_there P core new k p j inv s ne can.admitted here there))
        go (inr apart) = omega (arith, s.local (P.node j) q apart, le)

pub step_indexed : (P : Play) (first : ℕ) (core new : Core) (k p : ℕ) (x : Option ℕ) (index other : Index) → Invariant P core → Invariant P new → IsStepAt P core new k p
    → IsTurnOf P new k p x → IsIndexed P first core index → Moves P new k p x index other → IsIndexed P first new other
step_indexed P first core new k p x index other before inv s turn is m = record {
  begun = omega (arith, is.begun, s.count);
  cleared = λ j less. s.ended j (is.cleared j less);
  heads = λ v q. heads v q (slot_or_not v (P.node k) q p);
  tails = λ v q. rw (m.tail v q, sym s.count) (is.tails v q);
  nexts = λ j q from lt some. rw (m.next j q, sym s.count) (is.nexts j q from (omega (arith, s.count, lt)) some);
  ready = λ j from lt. ready j from lt (cases_eq j k) (is_or_not x j);
  restless = λ j q can. restless j q can (cases_eq j k);
  closing = λ j can. closing j can (cases_eq j k);
  unadmitted = λ j le. m.unmarked j le (is.unadmitted j (omega (arith, s.count, le)));
}
  where
    heads : (v q : ℕ) → ((v ≡ P.node k) × (q ≡ p)) ⊎ ((v ≢ P.node k) ⊎ (q ≢ p)) → IsHeadOf P new v q (other.head v q)
    heads v q (inl (e, g)) = subst (λ (u : ℕ). IsHeadOf P new u q (other.head u q)) (sym e) (subst (λ (r : ℕ). IsHeadOf P new (P.node k) r (other.head (P.node k) r)) (sym g) m.head)
    heads v q (inr apart) = rw (m.head_else v q apart) (carried_head P core new v q (index.head v q) s.count (s.local v q apart) (λ j. s.private j v q) (is.heads v q))

    ready : (j : ℕ) → first ≤ j → j < new.count → (j ≡ k) ⊎ (j ≢ k) → (x ≡ Some j) ⊎ (x ≢ Some j) → other.ready j ≡ true ↔ MayEnter P new j
    ready j from lt (inl e) some = subst (λ (n : ℕ). other.ready n ≡ true ↔ MayEnter P new n) (sym e) m.own_ready
    ready j from lt (inr ne) (inl e) = m.next_ready j e
    ready j from lt (inr ne) (inr isnt) =
        let old : index.ready j ≡ true ↔ MayEnter P core j = is.ready j from (omega (arith, s.count, lt)) in
        (λ marked. let may : MayEnter P core j = old.0 (sym (m.ready j ne isnt) ∙ marked) in (may.0, enters_on P core new k p j may.0 before s ne may.1), λ may. m.ready j ne isnt ∙ old.1 (may.0, enters_back P core new k p x j may.0 inv s turn ne isnt may.1))

    restless : (j q : ℕ) → CanRelease P new j q → (j ≡ k) ⊎ (j ≢ k) → other.restless j ≡ true
    restless j q can (inl e) = subst (λ (n : ℕ). other.restless n ≡ true) (sym e) (m.own_restless q (subst (λ (n : ℕ). CanRelease P new n q) e can))
    restless j q can (inr ne) = go (releases_back P core new k p x j q inv s turn ne can)
      where
        go : (x ≡ Some j) ⊎ CanRelease P core j q → other.restless j ≡ true
        go (inl e) = m.next_restless j e
        go (inr old) = m.restless j ne (is.restless j q old)

    closing : (j : ℕ) → CanEnd P new j → (j ≡ k) ⊎ (j ≢ k) → other.closing j ≡ true
    closing j can (inl e) = subst (λ (n : ℕ). other.closing n ≡ true) (sym e) (m.own_closing (subst (λ (n : ℕ). CanEnd P new n) e can))
    closing j can (inr ne) = m.closing j ne (is.closing j (ends_back P core new k p j inv s ne can))
