-- What is out stays out, with its box and its calls, until it is brought back; and a core is stopped exactly where an
-- Abandon was made.
use Rattle.std.proofs.Common.{arith, ◌≡◌, ◌≢◌, ◌⊎◌, inl, inr, ℕ, suc, ◌-◌, ◌<◌, ◌≤◌, List, [], ◌∷◌, ◌++◌, ◌||◌, Bool, true, false, Option, Some, None, refl, ap, sym, ◌∙◌, subst, if◌then◌else◌, le_refl}
use Rattle.std.specs.List.{All}
use Rattle.std.proofs.Math.Bool.{or-false, or-true}
use Rattle.std.proofs.lemmas.List.Elements.{All-cons, All-head, All-nil, All-tail}
use Rattle.samoa_model.specs.declared.handler.Moment.{Moment}
use Rattle.samoa_model.specs.declared.record.Step.{Step}
use Rattle.samoa_serial.specs.State.{State}
use Rattle.samoa_serial.specs.declared.call.Call.{Call}
use Rattle.samoa_serial.specs.Calls.{Computation}
use Rattle.samoa_serial.specs.Alone.{next_step}
use Rattle.samoa_invariant.specs.Play.{Play}
use Rattle.samoa_invariant.specs.Inv.{Invariant}
use Rattle.samoa_invariant.specs.State as model
use Rattle.samoa_invariant.specs.State.{Core, IsOut}
use Rattle.samoa_invariant.specs.Runs.{CanMake, IsRun, IsRunFrom, Trace, after_step, clear_at, cleared, has_abandon, is_clear, play, run_from, state}
use Rattle.samoa_invariant.specs.Picking.{BringsBack, IsEnterOf, IsOutTo, StaysOut}
use Rattle.samoa_invariant.specs.Settling.{with_steps}
use Rattle.samoa_invariant.proofs.refinement.Ends.{reached_keeps}
use Rattle.samoa_invariant.proofs.representation.Journals.{run_reached}
use Rattle.samoa_invariant.proofs.preservation.Slots.{put-else, put_at-else, slot_or_not}

-- a computation's calls and steps, and what lies at a slot of its node, are as they were
record Stays (P : Play) (a b : Core) (k p : ℕ) : Type 0 where
  comp : b.comp k ≡ a.comp k
  made : b.made k ≡ a.made k
  box : b.boxes (P.node k) p ≡ a.boxes (P.node k) p
  out : b.out (P.node k) p ≡ a.out (P.node k) p
  count : a.count ≤ b.count

stays-then : (P : Play) (a b c : Core) (k p : ℕ) → Stays P a b k p → Stays P b c k p → Stays P a c k p
stays-then P a b c k p s t = record {
  comp = t.comp ∙ s.comp;
  made = t.made ∙ s.made;
  box = t.box ∙ s.box;
  out = t.out ∙ s.out;
  count = let x = s.count in let y = t.count in omega arith;
}

stays-here : (P : Play) (core : Core) (k p : ℕ) → Stays P core core k p
stays-here P core k p = record { comp = refl; made = refl; box = refl; out = refl; count = le_refl core.count }

stays-cleared : (P : Play) (core : Core) (b : Bool) (k p : ℕ) → Stays P core (if b then cleared core else core) k p
stays-cleared P core true k p = record { comp = refl; made = refl; box = refl; out = refl; count = le_refl core.count }
stays-cleared P core false k p = stays-here P core k p

stays-uncleared : (P : Play) (core : Core) (b : Bool) (k p : ℕ) → Stays P (if b then cleared core else core) core k p
stays-uncleared P core true k p = record { comp = refl; made = refl; box = refl; out = refl; count = le_refl core.count }
stays-uncleared P core false k p = stays-here P core k p

still_out : (P : Play) (a b : Core) (k p : ℕ) → Stays P a b k p → IsOut P a k p → IsOut P b k p
still_out P a b k p s o = record { admitted = (let x = s.count in let y = o.admitted in omega arith); out = s.out ∙ o.out }

-- a computation that is out is out at its next handler step
out_next : (P : Play) (core : Core) (j : ℕ) (next : Call × Moment) → Invariant P core → model.CanLeave P core j → next_step (core.comp j) ≡ Some next
    → core.out (P.node j) next.0.handler.micro.0 ≡ Some j
out_next P core j next i can is =
    let r = i.out (P.node j) can.slot j can.out.out in
    let both : Some (r.next.call, r.next.moment) ≡ Some next = sym r.next.next ∙ (ap next_step (sym (i.calls.comp j r.admitted)) ∙ is) in
    let call : r.next.call ≡ next.0 = cc in
    subst (λ (q : ℕ). core.out (P.node j) q ≡ Some j) (sym r.next.is_at ∙ ap (λ (c : Call). c.handler.micro.0) call) can.out.out

module _ (P : Play) (core : Core) (k p : ℕ) (i : Invariant P core) (here : IsOut P core k p) where
  apart_home : (v q : ℕ) → core.out v q ≡ None → (P.node k ≢ v) ⊎ (p ≢ q)
  apart_home v q none = go (slot_or_not (P.node k) v p q)
    where
      go : ((P.node k ≡ v) × (p ≡ q)) ⊎ ((P.node k ≢ v) ⊎ (p ≢ q)) → (P.node k ≢ v) ⊎ (p ≢ q)
      go (inl e) =
          let both : core.out v q ≡ Some k = subst (λ (z : ℕ × ℕ). core.out z.0 z.1 ≡ Some k) (λ x. (e.0 x, e.1 x)) here.out in
          absurd (cc (both, none))
      go (inr ne) = ne

  apart_other : (j v q : ℕ) → j ≢ k → core.out v q ≡ Some j → (P.node k ≢ v) ⊎ (p ≢ q)
  apart_other j v q other is = go (slot_or_not (P.node k) v p q)
    where
      go : ((P.node k ≡ v) × (p ≡ q)) ⊎ ((P.node k ≢ v) ⊎ (p ≢ q)) → (P.node k ≢ v) ⊎ (p ≢ q)
      go (inl e) =
          let both : core.out v q ≡ Some k = subst (λ (z : ℕ × ℕ). core.out z.0 z.1 ≡ Some k) (λ x. (e.0 x, e.1 x)) here.out in
          let same : Some j ≡ Some k = sym is ∙ both in
          absurd (other (cc same))
      go (inr ne) = ne

  leave_stays : (j : ℕ) → j ≢ k → model.CanLeave P core j → (o : Option (Call × Moment)) → next_step (core.comp j) ≡ o → Stays P core (model.leave_next P core j o) k p
  leave_stays j other can None is = stays-here P core k p
  leave_stays j other can (Some next) is =
      let ne = apart_other j (P.node j) next.0.handler.micro.0 other (out_next P core j next i can is) in record {
        comp = put-else {A = Computation} core.comp j k _ (λ e. other (sym e));
        made = put-else {A = ℕ} core.made j k _ (λ e. other (sym e));
        box = put_at-else {A = State} core.boxes (P.node j) next.0.handler.micro.0 (P.node k) p _ ne;
        out = put_at-else {A = Option ℕ} core.out (P.node j) next.0.handler.micro.0 (P.node k) p None ne;
        count = le_refl core.count;
      }

  abandon_stays : (j : ℕ) → j ≢ k → model.CanLeave P core j → (o : Option (Call × Moment)) → next_step (core.comp j) ≡ o → Stays P core (model.abandon_next P core j o) k p
  abandon_stays j other can None is = record { comp = refl; made = refl; box = refl; out = refl; count = le_refl core.count }
  abandon_stays j other can (Some next) is =
      let ne = apart_other j (P.node j) next.0.handler.micro.0 other (out_next P core j next i can is) in record {
        comp = refl;
        made = refl;
        box = refl;
        out = put_at-else {A = Option ℕ} core.out (P.node j) next.0.handler.micro.0 (P.node k) p None ne;
        count = le_refl core.count;
      }

  other_comp : (comp : ℕ) → 0 < comp → (comp ≡ suc k → ⊥) → comp - 1 ≢ k
  other_comp comp first not_its e = not_its (omega arith)

  -- a step that doesn't bring back what k has leaves it
  step_stays : (step : Step) → CanMake P core step → (BringsBack (suc k) step → ⊥) → Stays P core (after_step P core step) k p
  step_stays (Step.Admit comp) can not_back = record {
    comp = put-else {A = Computation} core.comp core.count k _ (λ e. let lt : k < core.count = here.admitted in omega arith);
    made = put-else {A = ℕ} core.made core.count k _ (λ e. let lt : k < core.count = here.admitted in omega arith);
    box = refl;
    out = refl;
    count = omega arith;
  }
  step_stays (Step.Enter comp q) can not_back = record {
    comp = refl;
    made = refl;
    box = refl;
    out = put_at-else {A = Option ℕ} core.out (P.node (comp - 1)) q (P.node k) p (Some (comp - 1)) (apart_home (P.node (comp - 1)) q can.enabled.home);
    count = le_refl core.count;
  }
  step_stays (Step.Leave comp) can not_back = leave_stays (comp - 1) (other_comp comp can.number not_back) can.enabled (next_step (core.comp (comp - 1))) refl
  step_stays (Step.Abandon comp) can not_back = abandon_stays (comp - 1) (other_comp comp can.number not_back) can.enabled (next_step (core.comp (comp - 1))) refl
  step_stays (Step.Release comp q) can not_back = record { comp = refl; made = refl; box = refl; out = refl; count = le_refl core.count }
  step_stays (Step.End comp) can not_back = record { comp = refl; made = refl; box = refl; out = refl; count = le_refl core.count }

  -- and is no Enter of k
  no_enter : (step : Step) → CanMake P core step → IsEnterOf (suc k) step → ⊥
  no_enter (Step.Enter comp q) can its =
      let same : comp ≡ suc k = its in
      let least : k ≡ comp - 1 = omega arith in
      can.enabled.not_out (P.node k) p (here.out ∙ ap Some least)
  no_enter step can its = its

-- the core that a step is made in, and the one after it
at_step : (P : Play) (clears : List ℕ) (made : ℕ) (core : Core) (x : Step) (xs : List Step) → model.Reached P core → IsRunFrom P clears made core (x ∷ xs)
    → model.Reached P (clear_at clears made core)
at_step P clears made core x xs reached run = run_reached P clears made core [] run.0 reached

after_it : (P : Play) (clears : List ℕ) (made : ℕ) (core : Core) (x : Step) (xs : List Step) → model.Reached P core → IsRunFrom P clears made core (x ∷ xs)
    → model.Reached P (after_step P (clear_at clears made core) x)
after_it P clears made core x xs reached run = model.Reached.Later (clear_at clears made core) _ (at_step P clears made core x xs reached run) run.1.enabled

-- while what is out isn't brought back, it stays, and its computation enters no more
record Waits (P : Play) (core new : Core) (xs : List Step) (k p : ℕ) : Type 0 where
  stays : Stays P core new k p
  alone : All (λ step. IsEnterOf (suc k) step → ⊥) xs

run_waits : (P : Play) (clears : List ℕ) (made : ℕ) (core : Core) (xs : List Step) (k p : ℕ) → model.Reached P core → IsRunFrom P clears made core xs
    → All (λ step. BringsBack (suc k) step → ⊥) xs → IsOut P core k p → Waits P core (run_from P clears made core xs) xs k p
run_waits P clears made core [] k p reached run back here =
    record { stays = stays-cleared P core (is_clear clears made) k p; alone = All-nil (λ step. IsEnterOf (suc k) step → ⊥) }
run_waits P clears made core (x ∷ xs) k p reached run back here =
    let now : Core = clear_at clears made core in
    let first : Stays P core now k p = stays-cleared P core (is_clear clears made) k p in
    let there : IsOut P now k p = still_out P core now k p first here in
    let inv : Invariant P now = reached_keeps P now (at_step P clears made core x xs reached run) in
    let second : Stays P now (after_step P now x) k p = step_stays P now k p inv there x run.1 (All-head (λ step. BringsBack (suc k) step → ⊥) x xs back) in
    let both : Stays P core (after_step P now x) k p = stays-then P core now (after_step P now x) k p first second in
    let rest : Waits P (after_step P now x) (run_from P clears (suc made) (after_step P now x) xs) xs k p =
    run_waits P clears (suc made) (after_step P now x) xs k p (after_it P clears made core x xs reached run) run.2 (All-tail (λ step. BringsBack (suc k) step → ⊥) x xs back)
    (still_out P core (after_step P now x) k p both here) in
    record {
      stays = stays-then P core (after_step P now x) (run_from P clears made core (x ∷ xs)) k p both rest.stays;
      alone = All-cons (λ step. IsEnterOf (suc k) step → ⊥) x xs (no_enter P now k p inv there x run.1) rest.alone;
    }

-- the same from any place of a run on
waits_since : (P : Play) (clears : List ℕ) (made : ℕ) (core : Core) (xs ys : List Step) (k p : ℕ) → model.Reached P core → IsRunFrom P clears made core (xs ++ ys)
    → All (λ step. BringsBack (suc k) step → ⊥) ys → (run_from P clears made core xs).out (P.node k) p ≡ Some k
    → Waits P (run_from P clears made core xs) (run_from P clears made core (xs ++ ys)) ys k p
waits_since P clears made core [] ys k p reached run back here =
    let end : Core = clear_at clears made core in
    let undone : Stays P end core k p = stays-uncleared P core (is_clear clears made) k p in
    let out : core.out (P.node k) p ≡ Some k = undone.out ∙ here in
    let rightly = (reached_keeps P core reached).out (P.node k) p k out in
    let rest = run_waits P clears made core ys k p reached run back (record { admitted = rightly.admitted; out = out }) in
    record { stays = stays-then P end core (run_from P clears made core ys) k p undone rest.stays; alone = rest.alone }
waits_since P clears made core (x ∷ xs) ys k p reached run back here =
    waits_since P clears (suc made) (after_step P (clear_at clears made core) x) xs ys k p (after_it P clears made core x (xs ++ ys) reached run) run.2 back here

waits : (t : Trace) (later : List Step) (comp micro : ℕ) → IsRun (with_steps t later) → IsOutTo t comp micro → All (λ step. BringsBack comp step → ⊥) later
    → Waits (play t) (state t) (state (with_steps t later)) later (comp - 1) micro
waits t later comp micro run out back =
    let first : 0 < comp = out.number in
    let number : comp ≡ suc (comp - 1) = omega arith in
    waits_since (play t) t.clears 0 (model.empty (play t)) t.journal later (comp - 1) micro model.Reached.Opening run.steps
    (subst (λ (c : ℕ). All (λ step. BringsBack c step → ⊥) later) number back) out.out

pub stays_out : (t : Trace) (later : List Step) (comp micro : ℕ) → IsRun (with_steps t later) → IsOutTo t comp micro → All (λ step. BringsBack comp step → ⊥) later
    → StaysOut t (with_steps t later) comp micro
stays_out t later comp micro run out back =
    let s = (waits t later comp micro run out back).stays in
    record { calls = s.comp; made = s.made; box = s.box; out = s.out ∙ out.out }

pub enters_once : (t : Trace) (later : List Step) (comp micro : ℕ) → IsRun (with_steps t later) → IsOutTo t comp micro → All (λ step. BringsBack comp step → ⊥) later
    → All (λ step. IsEnterOf comp step → ⊥) later
enters_once t later comp micro run out back =
    let first : 0 < comp = out.number in
    let number : suc (comp - 1) ≡ comp = omega arith in
    subst (λ (c : ℕ). All (λ step. IsEnterOf c step → ⊥) later) number (waits t later comp micro run out back).alone

-- a core is stopped exactly where an Abandon was made
leave_stopped : (P : Play) (core : Core) (j : ℕ) (o : Option (Call × Moment)) → (model.leave_next P core j o).stopped ≡ core.stopped
leave_stopped P core j None = refl
leave_stopped P core j (Some next) = refl

abandon_stopped : (P : Play) (core : Core) (j : ℕ) (o : Option (Call × Moment)) → (model.abandon_next P core j o).stopped ≡ true
abandon_stopped P core j None = refl
abandon_stopped P core j (Some next) = refl

cleared_stopped : (core : Core) (b : Bool) → (if b then cleared core else core).stopped ≡ core.stopped
cleared_stopped core true = refl
cleared_stopped core false = refl

step_stopped : (x : Step) (xs : List Step) (P : Play) (core : Core) → (after_step P core x).stopped || has_abandon xs ≡ core.stopped || has_abandon (x ∷ xs)
step_stopped (Step.Admit comp) xs P core = refl
step_stopped (Step.Enter comp q) xs P core = refl
step_stopped (Step.Leave comp) xs P core = ap (λ (b : Bool). b || has_abandon xs) (leave_stopped P core (comp - 1) (next_step (core.comp (comp - 1))))
step_stopped (Step.Abandon comp) xs P core =
    ap (λ (b : Bool). b || has_abandon xs) (abandon_stopped P core (comp - 1) (next_step (core.comp (comp - 1)))) ∙ sym (or-true core.stopped)
step_stopped (Step.Release comp q) xs P core = refl
step_stopped (Step.End comp) xs P core = refl

run_stopped : (P : Play) (clears : List ℕ) (made : ℕ) (core : Core) (xs : List Step) → (run_from P clears made core xs).stopped ≡ core.stopped || has_abandon xs
run_stopped P clears made core [] = cleared_stopped core (is_clear clears made) ∙ sym (or-false core.stopped)
run_stopped P clears made core (x ∷ xs) =
    run_stopped P clears (suc made) (after_step P (clear_at clears made core) x) xs
    ∙ (step_stopped x xs P (clear_at clears made core) ∙ ap (λ (b : Bool). b || has_abandon (x ∷ xs)) (cleared_stopped core (is_clear clears made)))

pub stopped_is : (t : Trace) → (state t).stopped ≡ has_abandon t.journal
stopped_is t = run_stopped (play t) t.clears 0 (model.empty (play t)) t.journal
