-- When a single step is due.
use Rattle.std.proofs.Common.{arith, ◌≡◌, ◌↔◌, ℕ, ◌-◌, ◌<◌, ◌≤◌, refl, sym, ap, ◌∙◌, length, Bool, true, false, not, Option, Some, None}
use Rattle.samoa_model.specs.declared.handler.Moment.{Moment}
use Rattle.samoa_model.specs.declared.ids.MicroId.{MicroId}
use Rattle.samoa_model.specs.declared.record.Step.{Step}
use Rattle.samoa_serial.specs.declared.call.Call.{Call}
use Rattle.samoa_serial.specs.Alone.{next_step}
use Rattle.samoa_calls.specs.Handed.{next_moment}
use Rattle.samoa_invariant.specs.Inv.{Invariant, IsOutRightly}
use Rattle.samoa_invariant.specs.State as model
use Rattle.samoa_invariant.specs.Runs.{IsDue, IsRun, Trace, play, state}
use Rattle.samoa_invariant.proofs.preservation.Slots.{owns_turn, turn_owns}
use Rattle.samoa_invariant.proofs.preservation.Versions.{owns_single}
use Rattle.samoa_invariant.proofs.representation.Traces.{invariant}
use Rattle.samoa_invariant.proofs.settling.Making.{due-open}
use Rattle.samoa_control.specs.Since.{cleared_comps}
use Rattle.samoa_control.specs.Sound.{IsSound}
use Rattle.samoa_control.proofs.Facts.{IsCallOf, call_of, due-since, ended-home, is_since, same-call}

-- it was admitted since the last clear
abbrev pub IsSinceClear : Trace → ℕ → Type 0
IsSinceClear t comp = (cleared_comps t < comp) × (comp ≤ length t.exts)

since-clear : (t : Trace) (comp : ℕ) → IsSound t → 0 < comp → comp - 1 < (state t).count → ((state t).ended (comp - 1) ≡ true → ⊥) → IsSinceClear t comp
since-clear t comp sound first lt not_ended =
    let le : cleared_comps t ≤ comp - 1 = is_since t (comp - 1) sound not_ended in
    let all : (state t).count ≡ length t.exts = sound.all in
    (omega (arith, le, first), omega (arith, lt, all, first))

-- a step is due only of a computation that was admitted since the last clear
pub enter-since : (t : Trace) (comp p : ℕ) → IsSound t → IsDue t (Step.Enter comp p) → IsSinceClear t comp
enter-since t comp p sound due =
    let lt : comp - 1 < (state t).count = due.enabled.turn.admitted in
    let all : (state t).count ≡ length t.exts = sound.all in
    let first : 0 < comp = due.number in
    (due-since t comp p sound due, omega (arith, lt, all, first))

pub leave-since : (t : Trace) (comp : ℕ) → IsSound t → 0 < comp → model.CanLeave (play t) (state t) (comp - 1) → IsSinceClear t comp
leave-since t comp sound first can =
    since-clear t comp sound first can.out.admitted
    (λ ended. ended-home (play t) (state t) (comp - 1) ((play t).node (comp - 1)) can.slot (invariant t sound.run) can.out.out ended)

pub release-since : (t : Trace) (comp p : ℕ) → IsSound t → IsDue t (Step.Release comp p) → IsSinceClear t comp
release-since t comp p sound due = since-clear t comp sound due.number due.enabled.turn.admitted (λ ended. due-open t comp p sound.run due ended)

pub end-since : (t : Trace) (comp : ℕ) → IsSound t → IsDue t (Step.End comp) → IsSinceClear t comp
end-since t comp sound due = since-clear t comp sound due.number due.enabled.admitted (λ ended. let not_ended : (state t).ended (comp - 1) ≡ false = due.enabled.not_ended in cc)

-- a computation is next at one microprotocol
pub next-once : (t : Trace) (k p q : ℕ) → model.IsNextAt ((state t).comp k) p → model.IsNextAt ((state t).comp k) q → p ≡ q
next-once t k p q a b =
    let call : a.call ≡ b.call = same-call _ a.call b.call a.moment b.moment a.next b.next in
    sym a.is_at ∙ (ap (λ (c : Call). c.handler.micro.0) call ∙ b.is_at)

-- the microprotocol of the next moment
pub next-at : (t : Trace) (k : ℕ) (step : MicroId × Moment) → next_moment ((state t).comp k) ≡ Some step → model.IsNextAt ((state t).comp k) step.0.0
next-at t k step e =
    let is : IsCallOf ((state t).comp k) step = call_of ((state t).comp k) step e in
    record { call = is.call; moment = step.1; next = is.next; is_at = ap (λ (m : MicroId). m.0) is.is_at }

pub not-next : (t : Trace) (k p : ℕ) → next_moment ((state t).comp k) ≡ None → model.IsNextAt ((state t).comp k) p → ⊥
not-next t k p none is = go (next_step ((state t).comp k)) refl none
  where
    go : (next : Option (Call × Moment)) → next_step ((state t).comp k) ≡ next → next_moment ((state t).comp k) ≡ None → ⊥
    go None e none = let pair : Call × Moment = (is.call, is.moment) in let both : Some pair ≡ None = sym is.next ∙ e in cc
    go (Some next) e none = cc

-- a computation that is out is next at its slot, and has its turn there
pub record IsOutAt (t : Trace) (k p : ℕ) : Type 0 where
  pub next : model.IsNextAt ((state t).comp k) p
  pub turn : model.HasTurn (play t) (state t) k p

pub out-at : (t : Trace) (k p : ℕ) → IsRun t → model.IsOut (play t) (state t) k p → IsOutAt t k p
out-at t k p run is =
    let i : Invariant (play t) (state t) = invariant t run in
    let o : IsOutRightly (play t) (state t) ((play t).node k) p k = i.out ((play t).node k) p k is.out in
    record {
      next = record { call = o.next.call; moment = o.next.moment; next = ap next_step (i.calls.comp k o.admitted) ∙ o.next.next; is_at = o.next.is_at };
      turn = owns_turn (play t) (state t) k p i o.admitted o.owns;
    }

-- what is out where a computation has its turn is out to it
pub out-to : (t : Trace) (k j p : ℕ) → IsRun t → model.HasTurn (play t) (state t) k p → (state t).out ((play t).node k) p ≡ Some j → model.IsOut (play t) (state t) k p
out-to t k j p run turn out =
    let i : Invariant (play t) (state t) = invariant t run in
    let o : IsOutRightly (play t) (state t) ((play t).node k) p j = i.out ((play t).node k) p j out in
    let same : j ≡ k = owns_single (play t) ((state t).local ((play t).node k) p) j k ((play t).node k) p o.owns (turn_owns (play t) (state t) k p i turn) in
    record { admitted = turn.admitted; out = out ∙ ap (λ (n : ℕ). Some n) same }

-- a computation that has its turn at its next microprotocol is out exactly where that isn't home
pub out-is : (t : Trace) (k p : ℕ) (b : Bool) → IsRun t → model.IsNextAt ((state t).comp k) p → model.HasTurn (play t) (state t) k p
    → (b ≡ true) ↔ (state t).out ((play t).node k) p ≡ None → (not b ≡ true) ↔ model.CanLeave (play t) (state t) k
out-is t k p b run next turn home = ((λ gone. leaves (lifts b gone) ((state t).out ((play t).node k) p) refl), (λ can. away b refl can))
  where
    lifts : (h : Bool) → not h ≡ true → h ≡ false
    lifts true e = cc
    lifts false e = refl

    leaves : b ≡ false → (slot : Option ℕ) → (state t).out ((play t).node k) p ≡ slot → model.CanLeave (play t) (state t) k
    leaves e None is = absurd (let yes : b ≡ true = home.1 is in cc)
    leaves e (Some j) is = record { slot = p; out = out-to t k j p run turn is }

    away : (h : Bool) → b ≡ h → model.CanLeave (play t) (state t) k → not b ≡ true
    away true e can =
        let here : can.slot ≡ p = next-once t k can.slot p (out-at t k can.slot run can.out).next next in
        let out : (state t).out ((play t).node k) p ≡ Some k = ap (λ (q : ℕ). (state t).out ((play t).node k) q) (sym here) ∙ can.out.out in
        let none : (state t).out ((play t).node k) p ≡ None = home.0 e in
        absurd (let both : None ≡ Some k = sym none ∙ out in cc)
    away false e can = ap not e
