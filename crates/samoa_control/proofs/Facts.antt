-- What is known of a core by its invariant.
use Rattle.std.proofs.Common.{arith, ◌≡◌, ◌⊎◌, inl, inr, ◌↔◌, ℕ, ◌-◌, ◌<◌, ◌≤◌, refl, sym, ap, subst, ◌∙◌, List, [], ◌∷◌, length, Bool, true, false, Option, Some, None}
use Rattle.std.specs.Prelude.{option_map}
use Rattle.std.specs.Option.{IfSome}
use Rattle.samoa_model.specs.Allowed.{weight}
use Rattle.samoa_model.specs.declared.handler.Moment.{Moment}
use Rattle.samoa_model.specs.declared.ids.MicroId.{MicroId}
use Rattle.samoa_model.specs.declared.record.Step.{Step}
use Rattle.samoa_serial.specs.declared.call.Active.{Active}
use Rattle.samoa_serial.specs.declared.call.Call.{Call}
use Rattle.samoa_serial.specs.Alone.{next_of, next_step}
use Rattle.samoa_serial.specs.Calls.{Computation}
use Rattle.samoa_calls.specs.Handed.{next_moment}
use Rattle.samoa_invariant.specs.Inv.{Invariant, IsDone, IsOutRightly}
use Rattle.samoa_invariant.specs.Play.{Play, point}
use Rattle.samoa_invariant.specs.State as model
use Rattle.samoa_invariant.specs.Runs.{IsDue, IsRun, Trace, ext_at, play, state, with_step}
use Rattle.samoa_invariant.proofs.preservation.Accepts.{meets_declared}
use Rattle.samoa_invariant.proofs.progress.Progress.{ended_stays}
use Rattle.samoa_invariant.proofs.preservation.Slots.{put_at-here}
use Rattle.samoa_invariant.proofs.representation.Traces.{count-few, invariant, state-step}
use Rattle.samoa_control.specs.Known.{decl_number}
use Rattle.samoa_control.specs.Places.{seen_in}
use Rattle.samoa_control.specs.Since.{cleared_comps}
use Rattle.samoa_control.specs.Sound.{IsSound}
use Rattle.samoa_control.specs.Turns.{Going, IsAway, box_of}
use Rattle.samoa_control.specs.Kept.{Fields, Kept, trace_of}
use Rattle.samoa_control.proofs.Declares.{declares_known}

-- no more than 100,000 were admitted
pub few : (fs : Fields) → Kept fs → length fs.exts ≤ 100000
few fs kept =
    let most : (state (trace_of fs)).count ≤ 100000 = count-few (trace_of fs) kept.is_run in
    let all : (state (trace_of fs)).count ≡ length fs.exts = kept.holds.admitted in
    omega (arith, most, all)

-- what holds of every core
pub sound : (fs : Fields) → Kept fs → IsSound (trace_of fs)
sound fs kept = record {
  run = kept.is_run;
  all = kept.holds.admitted;
  in_range = kept.in_range;
  known = kept.known;
  cleared = subst (λ (n : ℕ). n ≤ length fs.exts) kept.first kept.first_most;
  past = λ k lt. kept.holds.past k (subst (λ (n : ℕ). k < n) (sym kept.first) lt);
}

-- the next handler step is at a microprotocol of the stack
pub next-within : (t : Trace) (k : ℕ) (c : Call) (m : Moment) → IsSound t → k < length t.exts
    → next_step ((state t).comp k) ≡ Some (c, m) → c.handler.micro.0 < length t.script.micros
next-within t k c m sound lt next =
    let i : Invariant (play t) (state t) = invariant t sound.run in
    let all : (state t).count ≡ length t.exts = sound.all in
    let below : k < (state t).count = omega (arith, lt, all) in
    declares_known t.script sound.in_range (decl_number t.script (ext_at t.exts k)) c.handler.micro.0
    (meets_declared (play t) k ((state t).made k) c m (sym (ap next_step (i.calls.comp k below)) ∙ next))

-- the call of a next moment
pub record IsCallOf (comp : Computation) (step : MicroId × Moment) : Type 0 where
  pub call : Call
  pub next : next_step comp ≡ Some (call, step.1)
  pub is_at : call.handler.micro ≡ step.0

pub call_of : (comp : Computation) (step : MicroId × Moment) → next_moment comp ≡ Some step → IsCallOf comp step
call_of comp step e = go (next_step comp) refl e
  where
    shape : Call × Moment → MicroId × Moment
    shape next = (next.0.handler.micro, next.1)

    go : (next : Option (Call × Moment)) → next_step comp ≡ next → option_map shape next ≡ Some step → IsCallOf comp step
    go None is e = cc
    go (Some next) is e =
        let same : shape next ≡ step = cc in
        record {
          call = next.0;
          next = is ∙ ap (λ (m : Moment). Some (next.0, m)) (ap (λ (x : MicroId × Moment). x.1) same);
          is_at = ap (λ (x : MicroId × Moment). x.0) same;
        }

pub moment-within : (t : Trace) (k : ℕ) (step : MicroId × Moment) → IsSound t → k < length t.exts
    → next_moment ((state t).comp k) ≡ Some step → step.0.0 < length t.script.micros
moment-within t k step sound lt e =
    let is : IsCallOf ((state t).comp k) step = call_of ((state t).comp k) step e in
    subst (λ (m : MicroId). m.0 < length t.script.micros) is.is_at (next-within t k is.call step.1 sound lt is.next)

lt_or_le : (a b : ℕ) → (a < b) ⊎ (b ≤ a)
lt_or_le a b = grind arith

-- what hasn't ended wasn't cleared away
pub is_since : (t : Trace) (k : ℕ) → IsSound t → ((state t).ended k ≡ true → ⊥) → cleared_comps t ≤ k
is_since t k sound not_ended = go (lt_or_le k (cleared_comps t))
  where
    go : (k < cleared_comps t) ⊎ (cleared_comps t ≤ k) → cleared_comps t ≤ k
    go (inl lt) = absurd (not_ended (sound.past k lt))
    go (inr le) = le

-- what is entered is out
pub away-entered : (t : Trace) (g : Going) (call : Call) → IsRun t → 0 < g.comp → next_step ((state t).comp (g.comp - 1)) ≡ Some (call, g.moment)
    → call.handler.micro.0 ≡ g.micro → g.before ≡ box_of t g.comp g.micro → IsAway (with_step t (Step.Enter g.comp g.micro)) g
away-entered t g call run first next is_at before =
    let k : ℕ = g.comp - 1 in
    let v : ℕ = (play t).node k in
    let same : state (with_step t (Step.Enter g.comp g.micro)) ≡ model.enter (play t) (state t) k g.micro = state-step t (Step.Enter g.comp g.micro) run in
    record {
      first = first;
      next = record {
        call = call;
        next = ap (λ (x : model.Core). next_step (x.comp k)) same ∙ next;
        is_at = is_at;
        before = before ∙ sym (ap (λ (x : model.Core). seen_in t.script v g.micro (x.boxes v g.micro)) same);
      };
      out = ap (λ (x : model.Core). x.out v g.micro) same ∙ put_at-here {A = Option ℕ} (state t).out v g.micro v g.micro (Some k) refl refl;
    }

-- what is out may come back, and hasn't ended
pub record IsBack (t : Trace) (g : Going) : Type 0 where
  pub there : g.comp - 1 < length t.exts
  pub since : cleared_comps t < g.comp
  pub within : g.micro < length t.script.micros
  pub leaves : model.CanLeave (play t) (state t) (g.comp - 1)

some-active : (xs : List Active) (c : Call) (m : Moment) → next_of xs ≡ Some (c, m) → (a : Active) × (rest : List Active) × (xs ≡ a ∷ rest)
some-active [] c m e = cc
some-active (a ∷ rest) c m e = (a, rest, refl)

-- what is out for a computation hasn't ended
pub ended-home : (P : Play) (core : model.Core) (k v p : ℕ) → Invariant P core → core.out v p ≡ Some k → core.ended k ≡ true → ⊥
ended-home P core k v p i out ended =
    let o : IsOutRightly P core v p k = i.out v p k out in
    let d : IsDone P core k = i.ended k o.admitted ended in
    let none : next_of (point P k (core.made k)).comp.active ≡ None = ap (λ (xs : List Active). next_of xs) d.idle.active in
    absurd (let no : Some (o.next.call, o.next.moment) ≡ None = sym o.next.next ∙ none in cc)

pub back : (t : Trace) (g : Going) → IsSound t → IsAway t g → IsBack t g
back t g sound away =
    let k : ℕ = g.comp - 1 in
    let i : Invariant (play t) (state t) = invariant t sound.run in
    let o : IsOutRightly (play t) (state t) ((play t).node k) g.micro k = i.out ((play t).node k) g.micro k away.out in
    let all : (state t).count ≡ length t.exts = sound.all in
    let admitted : k < (state t).count = o.admitted in
    let lt : k < length t.exts = omega arith in
    let le : cleared_comps t ≤ k = is_since t k sound (λ ended. ended-home (play t) (state t) k ((play t).node k) g.micro i away.out ended) in
    let first : 0 < g.comp = away.first in
    record {
      there = lt;
      since = omega arith;
      within = subst (λ (p : ℕ). p < length t.script.micros) away.next.is_at (next-within t k away.next.call g.moment sound lt away.next.next);
      leaves = record { slot = g.micro; out = record { admitted = o.admitted; out = away.out } };
    }

-- what is due hasn't ended
pub due-since : (t : Trace) (comp p : ℕ) → IsSound t → IsDue t (Step.Enter comp p) → cleared_comps t < comp
due-since t comp p sound due =
    let k : ℕ = comp - 1 in
    let le : cleared_comps t ≤ k = is_since t k sound (λ ended. ended_stays (play t) (state t) k p (invariant t sound.run) ended due.enabled) in
    let first : 0 < comp = due.number in
    omega arith

-- a next handler step has one call
pub same-call : (next : Option (Call × Moment)) (a b : Call) (m n : Moment) → next ≡ Some (a, m) → next ≡ Some (b, n) → a ≡ b
same-call next a b m n e f =
    let pair : let P : Type 0 = Call × Moment in let x : P = (a, m) in x ≡ (b, n) = cc in
    ap (λ (x : Call × Moment). x.0) pair

-- the microprotocol that is due is that of the next handler step
pub due-at : (t : Trace) (comp p : ℕ) (step : MicroId × Moment) → IsDue t (Step.Enter comp p) → next_moment ((state t).comp (comp - 1)) ≡ Some step → p ≡ step.0.0
due-at t comp p step due e =
    let is : IsCallOf ((state t).comp (comp - 1)) step = call_of ((state t).comp (comp - 1)) step e in
    let call : due.enabled.next.call ≡ is.call = same-call _ due.enabled.next.call is.call due.enabled.next.moment step.1 due.enabled.next.next is.next in
    sym due.enabled.next.is_at ∙ (ap (λ (x : Call). x.handler.micro.0) call ∙ ap (λ (x : MicroId). x.0) is.is_at)

-- the next handler step is at a microprotocol of its declaration
pub next-declared : (t : Trace) (k : ℕ) (c : Call) (m : Moment) → IsRun t → k < (state t).count → next_step ((state t).comp k) ≡ Some (c, m) → 0 < weight ((play t).decl k) c.handler.micro.0
next-declared t k c m run lt next = meets_declared (play t) k ((state t).made k) c m (sym (ap next_step ((invariant t run).calls.comp k lt)) ∙ next)

-- what is next has its turn, and is home: it may begin
pub enter-due : (t : Trace) (k : ℕ) (call : Call) (m : Moment) → IsRun t → next_step ((state t).comp k) ≡ Some (call, m) → model.HasTurn (play t) (state t) k call.handler.micro.0
    → (state t).out ((play t).node k) call.handler.micro.0 ≡ None → (state t).stopped ≡ false → model.CanEnter (play t) (state t) k call.handler.micro.0
enter-due t k call m run next turn home running = record {
  next = record { call = call; moment = m; next = next; is_at = refl };
  not_out = λ v q out. not_there v q out;
  turn = turn;
  home = home;
  running = running;
}
  where
    not_there : (v q : ℕ) → (state t).out v q ≡ Some k → ⊥
    not_there v q out =
        let i : Invariant (play t) (state t) = invariant t run in
        let o : IsOutRightly (play t) (state t) v q k = i.out v q k out in
        let is : next_step ((state t).comp k) ≡ Some (o.next.call, o.next.moment) = ap next_step (i.calls.comp k o.admitted) ∙ o.next.next in
        let same : call ≡ o.next.call = same-call _ call o.next.call m o.next.moment next is in
        let at : call.handler.micro.0 ≡ q = ap (λ (c : Call). c.handler.micro.0) same ∙ o.next.is_at in
        let here : (state t).out ((play t).node k) call.handler.micro.0 ≡ Some k = ap (λ (u : ℕ). (state t).out u call.handler.micro.0) (sym o.node) ∙ (ap (λ (r : ℕ). (state t).out v r) at ∙ out) in
        let no : None ≡ Some k = sym home ∙ here in
        cc

pub moments-within : (t : Trace) (k : ℕ) → IsSound t → k < (state t).count → IfSome (next_moment ((state t).comp k)) (λ step. step.0.0 < length t.script.micros)
moments-within t k sound lt = go (next_moment ((state t).comp k)) refl
  where
    go : (step : Option (MicroId × Moment)) → next_moment ((state t).comp k) ≡ step → IfSome step (λ (s : MicroId × Moment). s.0.0 < length t.script.micros)
    go None e = tt
    go (Some step) e = let all : (state t).count ≡ length t.exts = sound.all in moment-within t k step sound (omega (arith, lt, all)) e

-- what is next has its turn: it may begin exactly where its box is home and the core isn't stopped
pub ready-is : (t : Trace) (comp : ℕ) (step : MicroId × Moment) (b : Bool) → IsRun t → 0 < comp → next_moment ((state t).comp (comp - 1)) ≡ Some step
    → model.HasTurn (play t) (state t) (comp - 1) step.0.0 → (b ≡ true) ↔ (((state t).out ((play t).node (comp - 1)) step.0.0 ≡ None) × ((state t).stopped ≡ false))
    → (b ≡ true) ↔ ((micro : ℕ) × IsDue t (Step.Enter comp micro))
ready-is t comp step b run first next turn test = (
  (λ goes. (step.0.0, record { number = first; enabled = begins (test.0 goes) })),
  (λ due. test.1 (subst (λ (p : ℕ). (state t).out ((play t).node (comp - 1)) p ≡ None) (due-at t comp due.0 step due.1 next) due.1.enabled.home, due.1.enabled.running)),
)
  where
    call : IsCallOf ((state t).comp (comp - 1)) step
    call = call_of ((state t).comp (comp - 1)) step next

    begins : ((state t).out ((play t).node (comp - 1)) step.0.0 ≡ None) × ((state t).stopped ≡ false) → model.CanEnter (play t) (state t) (comp - 1) step.0.0
    begins free =
        let at : call.call.handler.micro.0 ≡ step.0.0 = ap (λ (m : MicroId). m.0) call.is_at in
        subst (λ (p : ℕ). model.CanEnter (play t) (state t) (comp - 1) p) at
        (enter-due t (comp - 1) call.call step.1 run call.next (subst (λ (p : ℕ). model.HasTurn (play t) (state t) (comp - 1) p) (sym at) turn)
        (subst (λ (p : ℕ). (state t).out ((play t).node (comp - 1)) p ≡ None) (sym at) free.0) free.1)
