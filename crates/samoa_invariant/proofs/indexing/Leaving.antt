-- The index goes on where a handler step ends.
use Rattle.std.proofs.Common.{arith, ◌≡◌, ◌≢◌, ◌↔◌, ℕ, suc, ◌+◌, ◌≤◌, ◌<◌, ◌⊎◌, refl, sym, ap, ◌∙◌, subst, Bool, true, Option, Some, None}
use Rattle.samoa_model.specs.declared.handler.Moment.{Moment}
use Rattle.samoa_serial.specs.declared.call.Call.{Call}
use Rattle.samoa_invariant.specs.Play.{Play, is_bound, version}
use Rattle.samoa_invariant.specs.State.{Core, IsNextAt, IsOut, Step, leave_at, leave_next, made_by, raise}
use Rattle.samoa_invariant.specs.Inv.{Invariant, Owns}
use Rattle.samoa_invariant.specs.Index.{Index, IsHeadOf, IsIndexed, IsNextOf, MayEnter, Notes, TellsEntry, TellsNext, TellsNotes, left, passed_on}
use Rattle.samoa_invariant.proofs.preservation.Forms.{enabled_keeps}
use Rattle.samoa_invariant.proofs.preservation.Slots.{put-else, put-here, put_at-else, put_at-here}
use Rattle.samoa_invariant.proofs.preservation.Steps.{ends_call-most, if_most}
use Rattle.samoa_invariant.proofs.indexing.Handling.{came_home, gone_home, out_next}
use Rattle.samoa_invariant.proofs.indexing.Marks.{Marks, kept_moves, passed_moves}
use Rattle.samoa_invariant.proofs.indexing.Moves.{IsStepAt, step_indexed}
use Rattle.samoa_invariant.proofs.indexing.Queues.{head_is, owner_heads, owner_is_next, passed_heads}
use Rattle.samoa_invariant.proofs.indexing.Stepping.{next_of, turn_stays}

-- a handler step raises its local version by at most 1
few : (P : Play) (core : Core) (k : ℕ) (c : Call) (m : Moment) → (leave_at P core k c m).local (P.node k) c.handler.micro.0 ≤ suc (core.local (P.node k) c.handler.micro.0)
few P core k c m =
    omega (
      arith,
      put_at-here {A = ℕ} core.local (P.node k) c.handler.micro.0 (P.node k) c.handler.micro.0
          (core.local (P.node k) c.handler.micro.0 + raise (P.decl k) (P.step k c.handler.micro (core.boxes (P.node k) c.handler.micro.0) m).1) refl refl,
      if_most (is_bound (P.decl k)) _ (ends_call-most (P.step k c.handler.micro (core.boxes (P.node k) c.handler.micro.0) m).1),
    )

-- and never lowers it
not_less : (P : Play) (core : Core) (k : ℕ) (c : Call) (m : Moment) → core.local (P.node k) c.handler.micro.0 ≤ (leave_at P core k c m).local (P.node k) c.handler.micro.0
not_less P core k c m =
    omega (
      arith,
      put_at-here {A = ℕ} core.local (P.node k) c.handler.micro.0 (P.node k) c.handler.micro.0
          (core.local (P.node k) c.handler.micro.0 + raise (P.decl k) (P.step k c.handler.micro (core.boxes (P.node k) c.handler.micro.0) m).1) refl refl,
    )

leave_step : (P : Play) (core : Core) (k : ℕ) (c : Call) (m : Moment) → Invariant P core → core.out (P.node k) c.handler.micro.0 ≡ Some k
    → IsStepAt P core (leave_at P core k c m) k c.handler.micro.0
leave_step P core k c m inv out = record {
  count = refl;
  on = λ j ne. record {
    admitted = λ lt. lt;
    comp = put-else core.comp k j _ ne;
    table = refl;
    from = λ q. refl;
    private = λ q. refl;
    ended = refl;
    out = gone_home core (leave_at P core k c m) (P.node k) c.handler.micro.0 j here else;
  };
  back = λ j ne. record {
    admitted = λ lt. lt;
    comp = sym (put-else core.comp k j _ ne);
    table = refl;
    from = λ q. refl;
    private = λ q. refl;
    ended = refl;
    out = came_home core (leave_at P core k c m) (P.node k) c.handler.micro.0 k j out else ne;
  };
  private = λ j v q. refl;
  ended = λ j e. e;
  local = λ v q apart. put_at-else {A = ℕ} core.local (P.node k) c.handler.micro.0 v q _ apart;
  out = else;
  admitted = (inv.out (P.node k) c.handler.micro.0 k out).admitted;
  owns = (inv.out (P.node k) c.handler.micro.0 k out).owns;
  most = omega (arith, few P core k c m, (inv.out (P.node k) c.handler.micro.0 k out).owns.below);
}
  where
    here : (v q : ℕ) → v ≡ P.node k → q ≡ c.handler.micro.0 → (leave_at P core k c m).out v q ≡ None
    here v q e g = put_at-here {A = Option ℕ} core.out (P.node k) c.handler.micro.0 v q None e g

    else : (v q : ℕ) → (v ≢ P.node k) ⊎ (q ≢ c.handler.micro.0) → (leave_at P core k c m).out v q ≡ core.out v q
    else v q apart = put_at-else {A = Option ℕ} core.out (P.node k) c.handler.micro.0 v q None apart

left_marks : (P : Play) (new : Core) (k : ℕ) (index : Index) (notes : Notes) → k < new.count → TellsNotes P new k notes → Marks P new k index (left index k notes)
left_marks P new k index notes lt may = record {
  head = λ v q. refl;
  tail = λ v q. refl;
  next = λ j q. refl;
  ready = λ j ne. put-else index.ready k j notes.enters ne;
  restless = λ j ne e. put-else index.restless k j notes.restless ne ∙ e;
  closing = λ j ne e. put-else index.closing k j notes.closing ne ∙ e;
  unmarked = λ j le old. let ne : j ≢ k = λ (e : j ≡ k). omega (arith, lt, le) in record {
    ready = put-else index.ready k j notes.enters ne ∙ old.ready;
    restless = put-else index.restless k j notes.restless ne ∙ old.restless;
    closing = put-else index.closing k j notes.closing ne ∙ old.closing;
  };
  own_ready = subst (λ (b : Bool). b ≡ true ↔ MayEnter P new k) (sym (put-here index.ready k k notes.enters refl)) may.entry;
  own_restless = λ q now. put-here index.restless k k notes.restless refl ∙ may.release q now;
  own_closing = λ now. put-here index.closing k k notes.closing refl ∙ may.end now;
}

kept_at : (P : Play) (first : ℕ) (core : Core) (k : ℕ) (c : Call) (m : Moment) (index : Index) (notes : Notes) → Invariant P core → Invariant P (leave_at P core k c m)
    → core.out (P.node k) c.handler.micro.0 ≡ Some k → IsIndexed P first core index → TellsNotes P (leave_at P core k c m) k notes
    → (leave_at P core k c m).local (P.node k) c.handler.micro.0 < core.private k (P.node k) c.handler.micro.0 → IsIndexed P first (leave_at P core k c m) (left index k notes)
kept_at P first core k c m index notes inv after out is may below =
    let new : Core = leave_at P core k c m in
    let p : ℕ = c.handler.micro.0 in
    let step : IsStepAt P core new k p = leave_step P core k c m inv out in
    let old : Owns P (core.local (P.node k) p) k (P.node k) p = step.owns in
    let mine : Owns P (new.local (P.node k) p) k (P.node k) p =
    record { from = omega (arith, old.from, not_less P core k c m); below = omega (arith, below, inv.booked.private k (P.node k) p step.admitted) } in
    let head : index.head (P.node k) p ≡ Some k =
    head_is P core (P.node k) p (index.head (P.node k) p) k inv (is.heads (P.node k) p) (owner_heads P core (P.node k) p k inv step.admitted old) in
    step_indexed P first core new k p None index (left index k notes) inv after step (turn_stays P new k p mine) is
    (kept_moves P new k p index (left index k notes) (left_marks P new k index notes step.admitted may)
    (subst (λ (x : Option ℕ). IsHeadOf P new (P.node k) p x) (sym head) (owner_heads P new (P.node k) p k after step.admitted mine)))

passed_at : (P : Play) (first : ℕ) (core : Core) (k : ℕ) (c : Call) (m : Moment) (index : Index) (notes : Notes) (next_enters : Bool) → Invariant P core → Invariant P (leave_at P core k c m)
    → core.out (P.node k) c.handler.micro.0 ≡ Some k → IsIndexed P first core index → TellsNotes P (leave_at P core k c m) k notes
    → core.private k (P.node k) c.handler.micro.0 ≤ (leave_at P core k c m).local (P.node k) c.handler.micro.0
    → TellsNext P (leave_at P core k c m) (index.next k c.handler.micro.0) next_enters
    → IsIndexed P first (leave_at P core k c m) (passed_on (left index k notes) (P.node k) c.handler.micro.0 (index.next k c.handler.micro.0) next_enters)
passed_at P first core k c m index notes next_enters inv after out is may past next_may =
    let new : Core = leave_at P core k c m in
    let p : ℕ = c.handler.micro.0 in
    let step : IsStepAt P core new k p = leave_step P core k c m inv out in
    let lt : k < core.count = step.admitted in
    let passed : new.local (P.node k) p ≡ version P (suc k) (P.node k) p = omega (arith, past, step.most, inv.booked.private k (P.node k) p lt) in
    let next : IsNextOf P new.count k p (index.next k p) = next_of P first core k p index inv is lt step.owns in
    step_indexed P first core new k p (index.next k p) index (passed_on (left index k notes) (P.node k) p (index.next k p) next_enters) inv after step
    (λ j ne less o. owner_is_next P new k p (index.next k p) j lt passed next less o) is
    (passed_moves P new k p (index.next k p) index (left index k notes) next_enters (left_marks P new k index notes lt may)
    lt next (passed_heads P new k p (index.next k p) after lt passed next) next_may)

leave_is : (P : Play) (core : Core) (k p : ℕ) (n : IsNextAt (core.comp k) p) → made_by P core (Step.Leave k) ≡ leave_at P core k n.call n.moment
leave_is P core k p n = ap (leave_next P core k) n.next

-- the handler step of k at p has ended, and its version there is below its private one: the turn stays with k
pub left_kept : (P : Play) (first : ℕ) (core : Core) (k p : ℕ) (index : Index) (notes : Notes) → Invariant P core → IsOut P core k p → IsIndexed P first core index
    → (made_by P core (Step.Leave k)).local (P.node k) p < core.private k (P.node k) p
    → TellsNotes P (made_by P core (Step.Leave k)) k notes
    → IsIndexed P first (made_by P core (Step.Leave k)) (left index k notes)
left_kept P first core k p index notes inv out is below may =
    let n : IsNextAt (core.comp k) p = out_next P core k p inv out in
    let same : made_by P core (Step.Leave k) ≡ leave_at P core k n.call n.moment = leave_is P core k p n in
    let after : Invariant P (made_by P core (Step.Leave k)) = enabled_keeps P core (Step.Leave k) inv (record { slot = p; out = out }) in
    let there : n.call.handler.micro.0 ≡ p = n.is_at in
    subst (λ (x : Core). IsIndexed P first x (left index k notes)) (sym same)
    (kept_at P first core k n.call n.moment index notes inv (subst (λ (x : Core). Invariant P x) same after)
    (subst (λ (q : ℕ). core.out (P.node k) q ≡ Some k) (sym there) out.out) is (subst (λ (x : Core). TellsNotes P x k notes) same may)
    (subst (λ (q : ℕ). (leave_at P core k n.call n.moment).local (P.node k) q < core.private k (P.node k) q) (sym there)
    (subst (λ (x : Core). x.local (P.node k) p < core.private k (P.node k) p) same below)))

-- the same where its version there has reached its private one: the turn is handed on
pub left_passed : (P : Play) (first : ℕ) (core : Core) (k p : ℕ) (index : Index) (notes : Notes) (next_enters : Bool) → Invariant P core → IsOut P core k p → IsIndexed P first core index
    → core.private k (P.node k) p ≤ (made_by P core (Step.Leave k)).local (P.node k) p
    → TellsNotes P (made_by P core (Step.Leave k)) k notes
    → TellsNext P (made_by P core (Step.Leave k)) (index.next k p) next_enters
    → IsIndexed P first (made_by P core (Step.Leave k)) (passed_on (left index k notes) (P.node k) p (index.next k p) next_enters)
left_passed P first core k p index notes next_enters inv out is past may next_may =
    let n : IsNextAt (core.comp k) p = out_next P core k p inv out in
    let same : made_by P core (Step.Leave k) ≡ leave_at P core k n.call n.moment = leave_is P core k p n in
    let after : Invariant P (made_by P core (Step.Leave k)) = enabled_keeps P core (Step.Leave k) inv (record { slot = p; out = out }) in
    let there : n.call.handler.micro.0 ≡ p = n.is_at in
    subst (λ (x : Core). IsIndexed P first x (passed_on (left index k notes) (P.node k) p (index.next k p) next_enters)) (sym same)
    (subst (λ (q : ℕ). IsIndexed P first (leave_at P core k n.call n.moment) (passed_on (left index k notes) (P.node k) q (index.next k q) next_enters)) there
    (passed_at P first core k n.call n.moment index notes next_enters inv (subst (λ (x : Core). Invariant P x) same after)
    (subst (λ (q : ℕ). core.out (P.node k) q ≡ Some k) (sym there) out.out) is (subst (λ (x : Core). TellsNotes P x k notes) same may)
    (subst (λ (q : ℕ). core.private k (P.node k) q ≤ (leave_at P core k n.call n.moment).local (P.node k) q) (sym there)
    (subst (λ (x : Core). core.private k (P.node k) p ≤ x.local (P.node k) p) same past))
    (λ j e. subst (λ (x : Core). TellsEntry P x j next_enters) same (next_may j (subst (λ (q : ℕ). index.next k q ≡ Some j) there e)))))
