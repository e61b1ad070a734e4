-- The index goes on with each handler step that begins, ends or is abandoned, and with each end.
use Rattle.std.proofs.Common.{arith, ◌≡◌, ◌≢◌, ◌↔◌, ℕ, ◌<◌, ◌⊎◌, inl, inr, refl, sym, ap, ◌∙◌, subst, Bool, true, false, Option, Some, None}
use Rattle.std.proofs.lemmas.Bool.{cases_eq}
use Rattle.samoa_serial.specs.Calls.{Computation}
use Rattle.samoa_invariant.specs.Play.{Play}
use Rattle.samoa_invariant.specs.State.{CanEnd, CanEnter, CanRelease, Core, IsNextAt, IsOut, Step, abandon, abandon_next, enter, finish, made_by, put}
use Rattle.samoa_invariant.specs.Inv.{Invariant, IsOutRightly, Owns}
use Rattle.samoa_invariant.specs.Index.{Index, IsIndexed, IsUnmarked, MayEnter, TellsEntry, abandoned, entered, running, unclosing, unrestless}
use Rattle.samoa_invariant.proofs.preservation.Forms.{enabled_keeps}
use Rattle.samoa_invariant.proofs.preservation.Slots.{put-else, put-here, put_at-else, put_at-here, slot_or_not, turn_owns}
use Rattle.samoa_invariant.proofs.preservation.Steps.{some_injective}
use Rattle.samoa_invariant.proofs.indexing.Carried.{Carries, carried_end, carried_head, carried_release}
use Rattle.samoa_invariant.proofs.indexing.Marks.{Marks, kept_moves, put_false, put_true}
use Rattle.samoa_invariant.proofs.indexing.Moves.{IsStepAt, step_indexed}
use Rattle.samoa_invariant.proofs.indexing.Stepping.{turn_stays}

-- a handler step begins
enter_back : (P : Play) (core : Core) (k p j : ℕ) → CanEnter P core k p → Carries P (enter P core k p) core j
enter_back P core k p j can = record {
  admitted = λ lt. lt;
  comp = refl;
  table = refl;
  from = λ q. refl;
  private = λ q. refl;
  ended = refl;
  out = λ v q e. out v q e (slot_or_not v (P.node k) q p);
}
  where
    out : (v q : ℕ) → core.out v q ≡ Some j → ((v ≡ P.node k) × (q ≡ p)) ⊎ ((v ≢ P.node k) ⊎ (q ≢ p)) → (enter P core k p).out v q ≡ Some j
    out v q e (inl here) =
        let home : core.out v q ≡ None = ap (λ (u : ℕ). core.out u q) here.0 ∙ (ap (λ (r : ℕ). core.out (P.node k) r) here.1 ∙ can.home) in
        let never : Some j ≡ None = sym e ∙ home in
        absurd cc
    out v q e (inr apart) = put_at-else core.out (P.node k) p v q (Some k) apart ∙ e

enter_step : (P : Play) (core : Core) (k p : ℕ) → Invariant P core → CanEnter P core k p → IsStepAt P core (enter P core k p) k p
enter_step P core k p inv can = record {
  count = refl;
  on = λ j ne. record {
    admitted = λ lt. lt;
    comp = refl;
    table = refl;
    from = λ q. refl;
    private = λ q. refl;
    ended = refl;
    out = λ v q e. out j ne v q e (slot_or_not v (P.node k) q p);
  };
  back = λ j ne. enter_back P core k p j can;
  private = λ j v q. refl;
  ended = λ j e. e;
  local = λ v q apart. refl;
  out = λ v q apart. put_at-else core.out (P.node k) p v q (Some k) apart;
  admitted = can.turn.admitted;
  owns = turn_owns P core k p inv can.turn;
  most = let o : Owns P (core.local (P.node k) p) k (P.node k) p = turn_owns P core k p inv can.turn in omega (arith, o.below);
}
  where
    out : (j : ℕ) → j ≢ k → (v q : ℕ) → (enter P core k p).out v q ≡ Some j → ((v ≡ P.node k) × (q ≡ p)) ⊎ ((v ≢ P.node k) ⊎ (q ≢ p)) → core.out v q ≡ Some j
    out j ne v q e (inl here) =
        let mine : (enter P core k p).out v q ≡ Some k = put_at-here core.out (P.node k) p v q (Some k) here.0 here.1 in
        absurd (ne (some_injective j k (sym e ∙ mine)))
    out j ne v q e (inr apart) = sym (put_at-else core.out (P.node k) p v q (Some k) apart) ∙ e

enter_marks : (P : Play) (first : ℕ) (core : Core) (k p : ℕ) (index : Index) → CanEnter P core k p → IsIndexed P first core index
    → Marks P (enter P core k p) k index (entered index k)
enter_marks P first core k p index can is = record {
  head = λ v q. refl;
  tail = λ v q. refl;
  next = λ j q. refl;
  ready = λ j ne. put-else index.ready k j false ne;
  restless = λ j ne e. e;
  closing = λ j ne e. e;
  unmarked = λ j le old. record {
    ready = put-else index.ready k j false (λ (e : j ≡ k). omega (arith, can.turn.admitted, le)) ∙ old.ready;
    restless = old.restless;
    closing = old.closing;
  };
  own_ready = (on, off);
  own_restless = λ q now. is.restless k q (carried_release P (enter P core k p) core k q (enter_back P core k p k can) refl now);
  own_closing = λ now. is.closing k (carried_end P (enter P core k p) core k (enter_back P core k p k can) (λ q some le. le) now);
}
  where
    on : put index.ready k false k ≡ true → MayEnter P (enter P core k p) k
    on e = let never : false ≡ true = sym (put-here index.ready k k false refl) ∙ e in absurd cc

    off : MayEnter P (enter P core k p) k → put index.ready k false k ≡ true
    off may = absurd (may.1.not_out (P.node k) p (put_at-here core.out (P.node k) p (P.node k) p (Some k) refl refl))

-- k's next handler step has begun: it may not enter now
pub entered_indexed : (P : Play) (first : ℕ) (core : Core) (k p : ℕ) (index : Index) → Invariant P core → CanEnter P core k p → IsIndexed P first core index
    → IsIndexed P first (made_by P core (Step.Enter k p)) (entered index k)
entered_indexed P first core k p index inv can is =
    let new : Core = enter P core k p in
    let after : Invariant P new = enabled_keeps P core (Step.Enter k p) inv can in
    let step : IsStepAt P core new k p = enter_step P core k p inv can in
    step_indexed P first core new k p None index (entered index k) inv after step (turn_stays P new k p step.owns) is
    (kept_moves P new k p index (entered index k) (enter_marks P first core k p index can is)
    (carried_head P core new (P.node k) p (index.head (P.node k) p) refl refl (λ j. refl) (is.heads (P.node k) p)))

-- what comes home takes nothing from another
pub came_home : (core new : Core) (node p k j : ℕ) → core.out node p ≡ Some k → ((v q : ℕ) → (v ≢ node) ⊎ (q ≢ p) → new.out v q ≡ core.out v q) → j ≢ k
    → (v q : ℕ) → core.out v q ≡ Some j → new.out v q ≡ Some j
came_home core new node p k j out else ne v q e = go (slot_or_not v node q p)
  where
    go : ((v ≡ node) × (q ≡ p)) ⊎ ((v ≢ node) ⊎ (q ≢ p)) → new.out v q ≡ Some j
    go (inl here) =
        let mine : core.out v q ≡ Some k = ap (λ (u : ℕ). core.out u q) here.0 ∙ (ap (λ (r : ℕ). core.out node r) here.1 ∙ out) in
        absurd (ne (some_injective j k (sym e ∙ mine)))
    go (inr apart) = else v q apart ∙ e

-- and gives nothing to one
pub gone_home : (core new : Core) (node p j : ℕ) → ((v q : ℕ) → v ≡ node → q ≡ p → new.out v q ≡ None) → ((v q : ℕ) → (v ≢ node) ⊎ (q ≢ p) → new.out v q ≡ core.out v q)
    → (v q : ℕ) → new.out v q ≡ Some j → core.out v q ≡ Some j
gone_home core new node p j here else v q e = go (slot_or_not v node q p)
  where
    go : ((v ≡ node) × (q ≡ p)) ⊎ ((v ≢ node) ⊎ (q ≢ p)) → core.out v q ≡ Some j
    go (inl at) = let never : Some j ≡ None = sym e ∙ here v q at.0 at.1 in absurd cc
    go (inr apart) = sym (else v q apart) ∙ e

-- a handler step is abandoned
abandon_step : (P : Play) (core : Core) (k p : ℕ) → Invariant P core → core.out (P.node k) p ≡ Some k → IsStepAt P core (abandon P core k p) k p
abandon_step P core k p inv out = record {
  count = refl;
  on = λ j ne. record { admitted = λ lt. lt; comp = refl; table = refl; from = λ q. refl; private = λ q. refl; ended = refl; out = gone_home core (abandon P core k p) (P.node k) p j here else };
  back = λ j ne. record { admitted = λ lt. lt; comp = refl; table = refl; from = λ q. refl; private = λ q. refl; ended = refl; out = came_home core (abandon P core k p) (P.node k) p k j out else ne };
  private = λ j v q. refl;
  ended = λ j e. e;
  local = λ v q apart. refl;
  out = else;
  admitted = (inv.out (P.node k) p k out).admitted;
  owns = (inv.out (P.node k) p k out).owns;
  most = let o : IsOutRightly P core (P.node k) p k = inv.out (P.node k) p k out in omega (arith, o.owns.below);
}
  where
    here : (v q : ℕ) → v ≡ P.node k → q ≡ p → (abandon P core k p).out v q ≡ None
    here v q e g = put_at-here {A = Option ℕ} core.out (P.node k) p v q None e g

    else : (v q : ℕ) → (v ≢ P.node k) ⊎ (q ≢ p) → (abandon P core k p).out v q ≡ core.out v q
    else v q apart = put_at-else {A = Option ℕ} core.out (P.node k) p v q None apart

abandon_marks : (P : Play) (first : ℕ) (core : Core) (k p : ℕ) (index : Index) (enters : Bool) → k < core.count → IsIndexed P first core index
    → TellsEntry P (abandon P core k p) k enters → Marks P (abandon P core k p) k index (abandoned index k enters)
abandon_marks P first core k p index enters lt is may = record {
  head = λ v q. refl;
  tail = λ v q. refl;
  next = λ j q. refl;
  ready = λ j ne. put-else index.ready k j enters ne;
  restless = λ j ne e. e;
  closing = λ j ne e. e;
  unmarked = λ j le old. record {
    ready = put-else index.ready k j enters (λ (e : j ≡ k). omega (arith, lt, le)) ∙ old.ready;
    restless = old.restless;
    closing = old.closing;
  };
  own_ready = subst (λ (b : Bool). b ≡ true ↔ MayEnter P (abandon P core k p) k) (sym (put-here index.ready k k enters refl)) may;
  own_restless = λ q now. is.restless k q (record { turn = record { admitted = now.turn.admitted; turn = record { from = now.turn.from; below = now.turn.below } }; quiet = now.quiet });
  own_closing = λ now. is.closing k (record { admitted = now.admitted; not_ended = now.not_ended; idle = now.idle; past = now.past });
}

abandoned_at : (P : Play) (first : ℕ) (core : Core) (k p : ℕ) (index : Index) (enters : Bool) → Invariant P core → Invariant P (abandon P core k p) → core.out (P.node k) p ≡ Some k
    → IsIndexed P first core index → TellsEntry P (abandon P core k p) k enters → IsIndexed P first (abandon P core k p) (abandoned index k enters)
abandoned_at P first core k p index enters inv after out is may =
    let new : Core = abandon P core k p in
    let step : IsStepAt P core new k p = abandon_step P core k p inv out in
    step_indexed P first core new k p None index (abandoned index k enters) inv after step (turn_stays P new k p step.owns) is
    (kept_moves P new k p index (abandoned index k enters) (abandon_marks P first core k p index enters step.admitted is may)
    (carried_head P core new (P.node k) p (index.head (P.node k) p) refl refl (λ j. refl) (is.heads (P.node k) p)))

-- what is out to a computation is out for its next handler step
pub out_next : (P : Play) (core : Core) (k p : ℕ) → Invariant P core → IsOut P core k p → IsNextAt (core.comp k) p
out_next P core k p inv out =
    let o : IsOutRightly P core (P.node k) p k = inv.out (P.node k) p k out.out in
    subst (λ (x : Computation). IsNextAt x p) (sym (inv.calls.comp k o.admitted)) o.next

abandon_is : (P : Play) (core : Core) (k p : ℕ) → IsNextAt (core.comp k) p → made_by P core (Step.Abandon k) ≡ abandon P core k p
abandon_is P core k p n = ap (abandon_next P core k) n.next ∙ ap (λ (q : ℕ). abandon P core k q) n.is_at

-- an abandoned handler step may begin again where the core runs on
pub abandoned_indexed : (P : Play) (first : ℕ) (core : Core) (k p : ℕ) (index : Index) (enters : Bool) → Invariant P core → IsOut P core k p → IsIndexed P first core index
    → TellsEntry P (made_by P core (Step.Abandon k)) k enters → IsIndexed P first (made_by P core (Step.Abandon k)) (abandoned index k enters)
abandoned_indexed P first core k p index enters inv out is may =
    let same : made_by P core (Step.Abandon k) ≡ abandon P core k p = abandon_is P core k p (out_next P core k p inv out) in
    let after : Invariant P (made_by P core (Step.Abandon k)) = enabled_keeps P core (Step.Abandon k) inv (record { slot = p; out = out }) in
    subst (λ (x : Core). IsIndexed P first x (abandoned index k enters)) (sym same)
    (abandoned_at P first core k p index enters inv (subst (λ (x : Core). Invariant P x) same after) out.out is
    (subst (λ (x : Core). TellsEntry P x k enters) same may))

-- computation k has ended: nothing changes, as the set of ends may have more than those that are due
pub ended_indexed : (P : Play) (first : ℕ) (core : Core) (k : ℕ) (index : Index) → CanEnd P core k → IsIndexed P first core index
    → IsIndexed P first (made_by P core (Step.End k)) index
ended_indexed P first core k index can is = record {
  begun = is.begun;
  cleared = λ j less. put_true core.ended k j (is.cleared j less);
  heads = λ v q. carried_head P core (finish core k) v q (index.head v q) refl refl (λ j. refl) (is.heads v q);
  tails = is.tails;
  nexts = is.nexts;
  ready = λ j from lt. (λ on. let may : MayEnter P core j = (is.ready j from lt).0 on in (may.0, enters core (finish core k) j may.0 (finish core k).ended refl may.1), λ may. (is.ready j from lt).1 (may.0, enters (finish core k) core j may.0 core.ended refl may.1));
  restless = λ j q now. is.restless j q (record { turn = record { admitted = now.turn.admitted; turn = record { from = now.turn.from; below = now.turn.below } }; quiet = now.quiet });
  closing = λ j now. closing j now (cases_eq j k);
  unadmitted = is.unadmitted;
}
  where
    enters : (a b : Core) (j q : ℕ) → (ended : ℕ → Bool) → b ≡ record a { ended = ended } → CanEnter P (running a) j q → CanEnter P (running b) j q
    enters a b j q ended e now = subst (λ (x : Core). CanEnter P (running x) j q) (sym e) (record {
      next = now.next;
      not_out = now.not_out;
      turn = record { admitted = now.turn.admitted; turn = record { from = now.turn.from; below = now.turn.below } };
      home = now.home;
      running = refl;
    })

    closing : (j : ℕ) → CanEnd P (finish core k) j → (j ≡ k) ⊎ (j ≢ k) → index.closing j ≡ true
    closing j now (inl e) = is.closing j (subst (λ (n : ℕ). CanEnd P core n) (sym e) can)
    closing j now (inr ne) = is.closing j (record { admitted = now.admitted; not_ended = sym (put-else core.ended k j true ne) ∙ now.not_ended; idle = now.idle; past = now.past })

-- the sets of releases and of ends may lose whom none is due of
pub unrestless_indexed : (P : Play) (first : ℕ) (core : Core) (k : ℕ) (index : Index) → ((p : ℕ) → CanRelease P core k p → ⊥) → IsIndexed P first core index
    → IsIndexed P first core (unrestless index k)
unrestless_indexed P first core k index none is = record {
  begun = is.begun;
  cleared = is.cleared;
  heads = is.heads;
  tails = is.tails;
  nexts = is.nexts;
  ready = is.ready;
  restless = λ j q now. put-else index.restless k j false (λ (e : j ≡ k). none q (subst (λ (n : ℕ). CanRelease P core n q) e now)) ∙ is.restless j q now;
  closing = is.closing;
  unadmitted = λ j le. let old : IsUnmarked index j = is.unadmitted j le in record { ready = old.ready; restless = put_false index.restless k j old.restless; closing = old.closing };
}

pub unclosing_indexed : (P : Play) (first : ℕ) (core : Core) (k : ℕ) (index : Index) → (CanEnd P core k → ⊥) → IsIndexed P first core index
    → IsIndexed P first core (unclosing index k)
unclosing_indexed P first core k index none is = record {
  begun = is.begun;
  cleared = is.cleared;
  heads = is.heads;
  tails = is.tails;
  nexts = is.nexts;
  ready = is.ready;
  restless = is.restless;
  closing = λ j now. put-else index.closing k j false (λ (e : j ≡ k). none (subst (λ (n : ℕ). CanEnd P core n) e now)) ∙ is.closing j now;
  unadmitted = λ j le. let old : IsUnmarked index j = is.unadmitted j le in record { ready = old.ready; restless = old.restless; closing = put_false index.closing k j old.closing };
}
