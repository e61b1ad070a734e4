-- Who may enter, who holds a microprotocol, and what is declared.
use Rattle.std.proofs.Common.{arith, ◌≡◌, ◌↔◌, ℕ, ◌+◌, ◌<◌, refl, sym, ap, subst, ◌∙◌, length, Bool, true, Some, None}
use Rattle.std.specs.Prelude.{slice_get}
use Rattle.samoa_model.specs.Allowed.{weight}
use Rattle.samoa_model.specs.declared.handler.Moment.{Moment}
use Rattle.samoa_model.specs.declared.ids.MicroId.{MicroId}
use Rattle.samoa_model.specs.declared.ids.NodeId.{NodeId}
use Rattle.samoa_calls.specs.Handed.{next_moment}
use Rattle.samoa_invariant.specs.Index.{MayEnter}
use Rattle.samoa_invariant.specs.Inv.{Invariant, IsOutRightly}
use Rattle.samoa_invariant.specs.State as model
use Rattle.samoa_invariant.specs.Runs.{IsRun, Trace, ext_at, play, state}
use Rattle.samoa_invariant.proofs.representation.Traces.{invariant}
use Rattle.samoa_control.specs.Running.{IsRunning, turn_of}
use Rattle.samoa_control.specs.declared.running.Interval.{Interval}
use Rattle.samoa_control.specs.declared.running.Running.{Running}
use Rattle.samoa_control.proofs.Asked.{IsOutAt, next-at, next-once, out-at}
use Rattle.samoa_control.proofs.Passes.{turn-long}

-- what is next where the microprotocol is home isn't out
pub none-out : (t : Trace) (k p : ℕ) → IsRun t → model.IsNextAt ((state t).comp k) p → (state t).out ((play t).node k) p ≡ None → (v q : ℕ) → (state t).out v q ≡ Some k → ⊥
none-out t k p run next home v q out =
    let i : Invariant (play t) (state t) = invariant t run in
    let o : IsOutRightly (play t) (state t) v q k = i.out v q k out in
    let here : (state t).out ((play t).node k) q ≡ Some k = subst (λ (u : ℕ). (state t).out u q ≡ Some k) o.node out in
    let at : IsOutAt t k q = out-at t k q run (record { admitted = o.admitted; out = here }) in
    let same : q ≡ p = next-once t k q p at.next next in
    let no : None ≡ Some k = sym home ∙ subst (λ (r : ℕ). (state t).out ((play t).node k) r ≡ Some k) same here in
    cc

-- what is next, where it has its turn, may enter exactly where the microprotocol is home
pub enters-is : (t : Trace) (k : ℕ) (step : MicroId × Moment) (b : Bool) → IsRun t → next_moment ((state t).comp k) ≡ Some step → model.HasTurn (play t) (state t) k step.0.0
    → (b ≡ true) ↔ ((state t).out ((play t).node k) step.0.0 ≡ None) → (b ≡ true) ↔ MayEnter (play t) (state t) k
enters-is t k step b run next turn test = ((λ yes. begins (test.0 yes)), (λ may. test.1 (free may)))
  where
    begins : (state t).out ((play t).node k) step.0.0 ≡ None → MayEnter (play t) (state t) k
    begins home =
        let at : model.IsNextAt ((state t).comp k) step.0.0 = next-at t k step next in (
          step.0.0,
          record {
            next = at;
            not_out = λ v q out. none-out t k step.0.0 run at home v q out;
            turn = record { admitted = turn.admitted; turn = turn.turn };
            home = home;
            running = refl;
          },
        )

    free : MayEnter (play t) (state t) k → (state t).out ((play t).node k) step.0.0 ≡ None
    free may =
        subst (λ (p : ℕ). (state t).out ((play t).node k) p ≡ None) (next-once t k may.0 step.0.0 may.1.next (next-at t k step next)) may.1.home

-- the turn of a computation
turn-at : (t : Trace) (k p : ℕ) (r : Running) (turn : Interval) → IsRunning t.script t.exts (state t) k r → p < length t.script.micros → slice_get r.turns.items p ≡ Some turn
    → turn ≡ turn_of (state t) k ((play t).node k) p
turn-at t k p r turn is below there = let same : Some turn ≡ Some (turn_of (state t) k (ext_at t.exts k).node.0 p) = sym there ∙ is.turns.value p below in cc

pub holds-at : (t : Trace) (k p : ℕ) (r : Running) (turn : Interval) (local : ℕ) (b : Bool) → IsRunning t.script t.exts (state t) k r → p < length t.script.micros
    → slice_get r.turns.items p ≡ Some turn → local ≡ (state t).local r.node.0 p → (b ≡ true) ↔ (local < turn.to)
    → (b ≡ true) ↔ ((state t).local ((play t).node k) p < (state t).private k ((play t).node k) p)
holds-at t k p r turn local b is below there is_local test = (
  (λ yes. let lt = test.0 yes in omega (arith, lt, here, end)),
  (λ less. test.1 (omega (arith, less, here, end))),
)
  where
    here : local ≡ (state t).local ((play t).node k) p
    here = is_local ∙ ap (λ (n : NodeId). (state t).local n.0 p) is.node

    end : turn.to ≡ (state t).private k ((play t).node k) p
    end = ap (λ (i : Interval). i.to) (turn-at t k p r turn is below there)

pub declares-at : (t : Trace) (k p : ℕ) (r : Running) (turn : Interval) (b : Bool) → IsRun t → IsRunning t.script t.exts (state t) k r → p < length t.script.micros
    → slice_get r.turns.items p ≡ Some turn → (b ≡ true) ↔ (turn.from < turn.to) → (b ≡ true) ↔ (0 < weight ((play t).decl k) p)
declares-at t k p r turn b run is below there test = (
  (λ yes. let lt = test.0 yes in omega (arith, lt, low, high, long)),
  (λ some. test.1 (omega (arith, some, low, high, long))),
)
  where
    low : turn.from ≡ (state t).from k ((play t).node k) p
    low = ap (λ (i : Interval). i.from) (turn-at t k p r turn is below there)

    high : turn.to ≡ (state t).private k ((play t).node k) p
    high = ap (λ (i : Interval). i.to) (turn-at t k p r turn is below there)

    long : (state t).from k ((play t).node k) p + weight ((play t).decl k) p ≡ (state t).private k ((play t).node k) p
    long = turn-long t k p run is.admitted
