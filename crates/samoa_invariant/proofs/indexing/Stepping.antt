-- The index goes on with each handler step that begins or ends, and with each release and end.
use Rattle.std.proofs.Common.{arith, ◌≡◌, ◌≢◌, ◌↔◌, ℕ, suc, ◌≤◌, ◌<◌, ◌⊎◌, inl, inr, refl, sym, ◌∙◌, subst, Bool, true, Option, None, []}
use Rattle.std.proofs.lemmas.Bool.{cases_eq}
use Rattle.samoa_invariant.specs.Play.{Play, version}
use Rattle.samoa_invariant.specs.State.{CanEnter, CanRelease, Core, Step, made_by, put, release}
use Rattle.samoa_invariant.specs.Inv.{Invariant, IsDone, Owns}
use Rattle.samoa_invariant.specs.Index.{Index, IsHeadOf, IsIndexed, IsNextOf, MayEnter, TellsNext, released, running}
use Rattle.samoa_invariant.proofs.preservation.Forms.{enabled_keeps, released_never}
use Rattle.samoa_invariant.proofs.preservation.Slots.{put-else, put-here, put_at-else, put_at-here, turn_owns}
use Rattle.samoa_invariant.proofs.preservation.Versions.{in_order, owns_single}
use Rattle.samoa_invariant.proofs.indexing.Carried.{Carries, carried_enter, carried_release, running_turn}
use Rattle.samoa_invariant.proofs.indexing.Marks.{Marks, passed_moves, put_true}
use Rattle.samoa_invariant.proofs.indexing.Moves.{IsStepAt, IsTurnOf, step_indexed}
use Rattle.samoa_invariant.proofs.indexing.Queues.{owner_declares, owner_is_next, passed_heads}

-- who has a turn wasn't cleared away
pub owner_from : (P : Play) (first : ℕ) (core : Core) (k p : ℕ) (index : Index) → Invariant P core → IsIndexed P first core index → k < core.count
    → Owns P (core.local (P.node k) p) k (P.node k) p → first ≤ k
owner_from P first core k p index inv is lt o = go (in_order k first)
  where
    go : (k < first) ⊎ ((k ≡ first) ⊎ (first < k)) → first ≤ k
    go (inl less) =
        let done : IsDone P core k = inv.ended k lt (is.cleared k less) in
        absurd (omega (arith, o.below, done.past p (owner_declares P (core.local (P.node k) p) k (P.node k) p o).some))
    go (inr (inl e)) = omega arith
    go (inr (inr more)) = omega arith

-- who comes next after who has the turn
pub next_of : (P : Play) (first : ℕ) (core : Core) (k p : ℕ) (index : Index) → Invariant P core → IsIndexed P first core index → k < core.count
    → Owns P (core.local (P.node k) p) k (P.node k) p → IsNextOf P core.count k p (index.next k p)
next_of P first core k p index inv is lt o =
    is.nexts k p (owner_from P first core k p index inv is lt o) lt (owner_declares P (core.local (P.node k) p) k (P.node k) p o).some

-- where the local version stays below the private one, the turn stays with k
pub turn_stays : (P : Play) (new : Core) (k p : ℕ) → Owns P (new.local (P.node k) p) k (P.node k) p → IsTurnOf P new k p None
turn_stays P new k p mine j ne lt theirs = absurd (ne (owns_single P (new.local (P.node k) p) j k (P.node k) p theirs mine))

-- a release
release_carries : (P : Play) (core : Core) (k p j : ℕ) → Carries P core (release P core k p) j
release_carries P core k p j = record { admitted = λ lt. lt; comp = refl; table = refl; from = λ q. refl; private = λ q. refl; ended = refl; out = λ v q e. e }

release_back : (P : Play) (core : Core) (k p j : ℕ) → Carries P (release P core k p) core j
release_back P core k p j = record { admitted = λ lt. lt; comp = refl; table = refl; from = λ q. refl; private = λ q. refl; ended = refl; out = λ v q e. e }

local_here : (P : Play) (core : Core) (k p : ℕ) → (release P core k p).local (P.node k) p ≡ core.private k (P.node k) p
local_here P core k p = put_at-here core.local (P.node k) p (P.node k) p (core.private k (P.node k) p) refl refl

local_else : (P : Play) (core : Core) (k p v q : ℕ) → (v ≢ P.node k) ⊎ (q ≢ p) → (release P core k p).local v q ≡ core.local v q
local_else P core k p v q apart = put_at-else core.local (P.node k) p v q (core.private k (P.node k) p) apart

release_step : (P : Play) (core : Core) (k p : ℕ) → Invariant P core → CanRelease P core k p → IsStepAt P core (release P core k p) k p
release_step P core k p inv can = record {
  count = refl;
  on = λ j ne. release_carries P core k p j;
  back = λ j ne. release_back P core k p j;
  private = λ j v q. refl;
  ended = λ j e. e;
  local = λ v q apart. local_else P core k p v q apart;
  out = λ v q apart. refl;
  admitted = can.turn.admitted;
  owns = turn_owns P core k p inv can.turn;
  most = omega (arith, local_here P core k p, inv.booked.private k (P.node k) p can.turn.admitted);
}

-- who releases is as free to enter as before
release_own_on : (P : Play) (core : Core) (k p q : ℕ) → Invariant P core → CanRelease P core k p → CanEnter P (running core) k q → CanEnter P (running (release P core k p)) k q
release_own_on P core k p q inv can old = go (cases_eq q p)
  where
    go : (q ≡ p) ⊎ (q ≢ p) → CanEnter P (running (release P core k p)) k q
    go (inl e) = absurd (released_never P core k p inv can [] old.next.call old.next.moment old.next.next (old.next.is_at ∙ e))
    go (inr ne) = carried_enter P core (release P core k p) k q (release_carries P core k p k) (local_else P core k p (P.node k) q (inr ne)) (λ home. home) old

release_own_back : (P : Play) (core : Core) (k p q : ℕ) → CanEnter P (running (release P core k p)) k q → CanEnter P (running core) k q
release_own_back P core k p q new = go (cases_eq q p)
  where
    go : (q ≡ p) ⊎ (q ≢ p) → CanEnter P (running core) k q
    go (inl e) =
        let below : (release P core k p).local (P.node k) p < core.private k (P.node k) p =
        subst (λ (r : ℕ). (release P core k p).local (P.node k) r < core.private k (P.node k) r) e (running_turn P (release P core k p) k q new).below in
        absurd (omega (arith, local_here P core k p, below))
    go (inr ne) = carried_enter P (release P core k p) core k q (release_back P core k p k) (sym (local_else P core k p (P.node k) q (inr ne))) (λ home. home) new

release_marks : (P : Play) (first : ℕ) (core : Core) (k p : ℕ) (index : Index) → Invariant P core → CanRelease P core k p → IsIndexed P first core index
    → Marks P (release P core k p) k index (record index { closing = put index.closing k true })
release_marks P first core k p index inv can is = record {
  head = λ v q. refl;
  tail = λ v q. refl;
  next = λ j q. refl;
  ready = λ j ne. refl;
  restless = λ j ne e. e;
  closing = λ j ne e. put_true index.closing k j e;
  unmarked = λ j le old. record { ready = old.ready; restless = old.restless; closing = put-else index.closing k j true (λ (e : j ≡ k). omega (arith, lt, le)) ∙ old.closing };
  own_ready = (λ on. let may : MayEnter P core k = old.0 on in (may.0, release_own_on P core k p may.0 inv can may.1), λ may. old.1 (may.0, release_own_back P core k p may.0 may.1));
  own_restless = λ q now. restless q now (cases_eq q p);
  own_closing = λ now. put-here index.closing k k true refl;
}
  where
    lt : k < core.count
    lt = can.turn.admitted

    old : index.ready k ≡ true ↔ MayEnter P core k
    old = is.ready k (owner_from P first core k p index inv is can.turn.admitted (turn_owns P core k p inv can.turn)) can.turn.admitted

    restless : (q : ℕ) → CanRelease P (release P core k p) k q → (q ≡ p) ⊎ (q ≢ p) → index.restless k ≡ true
    restless q now (inl e) = is.restless k p can
    restless q now (inr ne) = is.restless k q (carried_release P (release P core k p) core k q (release_back P core k p k) (sym (local_else P core k p (P.node k) q (inr ne))) now)

-- the local version becomes the private one
release_passes : (P : Play) (core : Core) (k p : ℕ) → Invariant P core → CanRelease P core k p → (release P core k p).local (P.node k) p ≡ version P (suc k) (P.node k) p
release_passes P core k p inv can = local_here P core k p ∙ inv.booked.private k (P.node k) p can.turn.admitted

pub release_hands_on : (P : Play) (core : Core) (k p : ℕ) (x : Option ℕ) → Invariant P core → CanRelease P core k p → IsNextOf P core.count k p x
    → IsHeadOf P (release P core k p) (P.node k) p x
release_hands_on P core k p x inv can next =
    passed_heads P (release P core k p) k p x (enabled_keeps P core (Step.Release k p) inv can) can.turn.admitted (release_passes P core k p inv can) next

-- after a release who comes next has the turn, and the end of k may be due
pub released_indexed : (P : Play) (first : ℕ) (core : Core) (k p : ℕ) (index : Index) (enters : Bool) → Invariant P core → CanRelease P core k p → IsIndexed P first core index
    → TellsNext P (made_by P core (Step.Release k p)) (index.next k p) enters
    → IsIndexed P first (made_by P core (Step.Release k p)) (released index k (P.node k) p enters)
released_indexed P first core k p index enters inv can is may =
    let new : Core = release P core k p in
    let after : Invariant P new = enabled_keeps P core (Step.Release k p) inv can in
    let step : IsStepAt P core new k p = release_step P core k p inv can in
    let next : IsNextOf P new.count k p (index.next k p) = next_of P first core k p index inv is can.turn.admitted step.owns in
    step_indexed P first core new k p (index.next k p) index (released index k (P.node k) p enters) inv after step
    (λ j ne lt o. owner_is_next P new k p (index.next k p) j can.turn.admitted (release_passes P core k p inv can) next lt o) is
    (passed_moves P new k p (index.next k p) index (record index { closing = put index.closing k true }) enters (release_marks P first core k p index inv can is)
    can.turn.admitted next (release_hands_on P core k p (index.next k p) inv can next) may)
