-- The index begins anew with a clear, and what it tells while the core goes on.
use Rattle.std.proofs.Common.{arith, ◌≡◌, ◌≢◌, ◌↔◌, ℕ, ◌≤◌, ◌<◌, ◌⊎◌, inl, inr, refl, sym, ap, ◌∙◌, subst, Bool, true, false, Option, Some, None}
use Rattle.samoa_model.specs.declared.handler.Moment.{Moment}
use Rattle.samoa_serial.specs.declared.call.Call.{Call}
use Rattle.samoa_invariant.specs.Play.{Play}
use Rattle.samoa_invariant.specs.State.{AllEnded, CanEnter, Core, HasTurn, IsNextAt, Step, empty, made_by}
use Rattle.samoa_invariant.specs.Inv.{Invariant, IsDone, IsOutRightly, Owns}
use Rattle.samoa_invariant.specs.Index.{Index, IsFree, IsHeadOf, IsIndexed, MayEnter, none_indexed, running}
use Rattle.samoa_invariant.proofs.preservation.Slots.{turn_owns}
use Rattle.samoa_invariant.proofs.preservation.Steps.{some_injective}
use Rattle.samoa_invariant.proofs.preservation.Versions.{in_order, owns_single}
use Rattle.samoa_invariant.proofs.refinement.Ends.{empty_keeps}
use Rattle.samoa_invariant.proofs.refinement.Points.{some_or_none}
use Rattle.samoa_invariant.proofs.indexing.Carried.{running_turn}
use Rattle.samoa_invariant.proofs.indexing.Queues.{head_is, head_turns, owner_declares, turn_heads}

-- what has ended has no turn
ended_owns_none : (P : Play) (core : Core) (k p : ℕ) → Invariant P core → k < core.count → core.ended k ≡ true → Owns P (core.local (P.node k) p) k (P.node k) p → ⊥
ended_owns_none P core k p inv lt e o =
    let done : IsDone P core k = inv.ended k lt e in
    omega (arith, o.below, done.past p (owner_declares P (core.local (P.node k) p) k (P.node k) p o).some)

-- where all have ended every queue is empty
all_free : (P : Play) (core : Core) → Invariant P core → AllEnded core → (v p : ℕ) → IsFree P core v p
all_free P core inv all v p j lt d =
    let done : IsDone P core j = inv.ended j lt (all j lt) in
    let here : core.private j (P.node j) p ≤ core.local (P.node j) p = omega (arith, inv.booked.private j (P.node j) p lt, done.past p d.some) in
    subst (λ (u : ℕ). core.private j u p ≤ core.local u p) (sym d.node) here

-- once all are cleared away nothing is indexed
pub cleared_indexed : (P : Play) (core : Core) → Invariant P core → AllEnded core → IsIndexed P core.count (made_by P core Step.Clear) none_indexed
cleared_indexed P core inv all = record {
  begun = omega arith;
  cleared = all;
  heads = λ v p. all_free P core inv all v p;
  tails = λ v p j from lt d. omega arith;
  nexts = λ k p from lt some. absurd (omega arith);
  ready = λ k from lt. absurd (omega arith);
  restless = λ k p can. absurd (ended_owns_none P core k p inv can.turn.admitted (all k can.turn.admitted)
      (turn_owns P core k p inv (record { admitted = can.turn.admitted; turn = record { from = can.turn.from; below = can.turn.below } })));
  closing = λ k can. let never : true ≡ false = sym (all k can.admitted) ∙ can.not_ended in absurd cc;
  unadmitted = λ k le. record { ready = refl; restless = refl; closing = refl };
}

-- nor before anything is admitted
pub opening_indexed : (P : Play) → IsIndexed P 0 (empty P) none_indexed
opening_indexed P = cleared_indexed P (empty P) (empty_keeps P) (λ k lt. absurd (omega arith))

-- where all have ended, no queue has a head, and none may enter
pub ended_heads : (P : Play) (first : ℕ) (core : Core) (index : Index) → Invariant P core → AllEnded core → IsIndexed P first core index → (v p : ℕ) → index.head v p ≡ None
ended_heads P first core index inv all is v p = go (index.head v p) (is.heads v p)
  where
    go : (x : Option ℕ) → IsHeadOf P core v p x → x ≡ None
    go None free = refl
    go (Some k) head = absurd (omega (arith, all_free P core inv all v p k head.admitted head.declares, head.short))

or_not : (b : Bool) → (b ≡ true) ⊎ (b ≡ false)
or_not true = inl refl
or_not false = inr refl

pub ended_ready : (P : Play) (first : ℕ) (core : Core) (index : Index) → Invariant P core → AllEnded core → IsIndexed P first core index
    → (k : ℕ) → first ≤ k → index.ready k ≡ false
ended_ready P first core index inv all is k from = go (or_not (index.ready k)) (in_order k core.count)
  where
    go : (index.ready k ≡ true) ⊎ (index.ready k ≡ false) → (k < core.count) ⊎ ((k ≡ core.count) ⊎ (core.count < k)) → index.ready k ≡ false
    go (inr isnt) order = isnt
    go (inl marked) (inl lt) =
        let may : MayEnter P core k = (is.ready k from lt).0 marked in
        absurd (ended_owns_none P core k may.0 inv lt (all k lt) (turn_owns P core k may.0 inv (running_turn P core k may.0 may.1)))
    go (inl marked) (inr (inl e)) = (is.unadmitted k (omega arith)).ready
    go (inl marked) (inr (inr more)) = (is.unadmitted k (omega arith)).ready

-- who has not ended wasn't cleared away
pub open_from : (P : Play) (first : ℕ) (core : Core) (index : Index) (k : ℕ) → IsIndexed P first core index → core.ended k ≡ false → first ≤ k
open_from P first core index k is open_yet = go (in_order k first)
  where
    go : (k < first) ⊎ ((k ≡ first) ⊎ (first < k)) → first ≤ k
    go (inl less) = let never : true ≡ false = sym (is.cleared k less) ∙ open_yet in absurd cc
    go (inr (inl e)) = omega arith
    go (inr (inr more)) = omega arith

-- the turn is told by one look at the head
pub head_tells : (P : Play) (first : ℕ) (core : Core) (index : Index) (k p : ℕ) → Invariant P core → IsIndexed P first core index
    → index.head (P.node k) p ≡ Some k ↔ HasTurn P core k p
head_tells P first core index k p inv is =
    (λ e. head_turns P core k p inv (subst (λ (x : Option ℕ). IsHeadOf P core (P.node k) p x) e (is.heads (P.node k) p)), λ turn. head_is P core (P.node k) p (index.head (P.node k) p) k inv (is.heads (P.node k) p) (turn_heads P core k p inv turn))

-- a box that is at the slot of k's turn is out to k or home
home_or_out : (P : Play) (core : Core) (k p : ℕ) → Invariant P core → HasTurn P core k p → ((v q : ℕ) → core.out v q ≢ Some k) → core.out (P.node k) p ≡ None
home_or_out P core k p inv turn not_out = go (some_or_none (core.out (P.node k) p))
  where
    go : (core.out (P.node k) p ≡ None) ⊎ ((j : ℕ) × (core.out (P.node k) p ≡ Some j)) → core.out (P.node k) p ≡ None
    go (inl none) = none
    go (inr some) =
        let o : IsOutRightly P core (P.node k) p some.0 = inv.out (P.node k) p some.0 some.1 in
        let same : some.0 ≡ k = owns_single P (core.local (P.node k) p) some.0 k (P.node k) p o.owns (turn_owns P core k p inv turn) in
        absurd (not_out (P.node k) p (some.1 ∙ ap (λ (n : ℕ). Some n) same))

next_same : (core : Core) (k p q : ℕ) → IsNextAt (core.comp k) p → IsNextAt (core.comp k) q → p ≡ q
next_same core k p q a b =
    let x : Call × Moment = (a.call, a.moment) in
    let y : Call × Moment = (b.call, b.moment) in
    let same : x ≡ y = some_injective {A = Call × Moment} x y (sym a.next ∙ b.next) in
    sym a.is_at ∙ (ap (λ (z : Call × Moment). z.0.handler.micro.0) same ∙ b.is_at)

-- whose next handler step is at p, and who isn't out, may enter exactly where it is the head there
pub head_enters : (P : Play) (first : ℕ) (core : Core) (index : Index) (k p : ℕ) → Invariant P core → IsIndexed P first core index → IsNextAt (core.comp k) p
    → ((v q : ℕ) → core.out v q ≢ Some k) → index.head (P.node k) p ≡ Some k ↔ MayEnter P core k
head_enters P first core index k p inv is next not_out = (on, back)
  where
    on : index.head (P.node k) p ≡ Some k → MayEnter P core k
    on e =
        let turn : HasTurn P core k p = (head_tells P first core index k p inv is).0 e in (
          p,
          record {
            next = next;
            not_out = not_out;
            turn = record { admitted = turn.admitted; turn = record { from = turn.from; below = turn.below } };
            home = home_or_out P core k p inv turn not_out;
            running = refl;
          },
        )

    back : MayEnter P core k → index.head (P.node k) p ≡ Some k
    back may =
        let there : HasTurn P core k may.0 = running_turn P core k may.0 may.1 in
        (head_tells P first core index k p inv is).1 (subst (λ (q : ℕ). HasTurn P core k q) (next_same core k may.0 p may.1.next next) there)

-- in a core that isn't stopped, who may enter can
pub running_enters : (P : Play) (core : Core) (k p : ℕ) → core.stopped ≡ false → CanEnter P (running core) k p → CanEnter P core k p
running_enters P core k p e can = record {
  next = can.next;
  not_out = can.not_out;
  turn = running_turn P core k p can;
  home = can.home;
  running = e;
}

pub enters_running : (P : Play) (core : Core) (k p : ℕ) → CanEnter P core k p → CanEnter P (running core) k p
enters_running P core k p can = record {
  next = can.next;
  not_out = can.not_out;
  turn = record { admitted = can.turn.admitted; turn = record { from = can.turn.from; below = can.turn.below } };
  home = can.home;
  running = refl;
}
