-- The index after a step.
use Rattle.std.proofs.Common.{arith, ◌≡◌, ℕ, ◌-◌, ◌<◌, ◌≤◌, refl, sym, ap, subst, ◌∙◌, length, set, Bool, false, Option, Some, None}
use Rattle.samoa_model.specs.declared.handler.Moment.{Moment}
use Rattle.samoa_model.specs.declared.record.Step.{Step}
use Rattle.samoa_serial.specs.declared.call.Call.{Call}
use Rattle.samoa_serial.specs.Alone.{next_step}
use Rattle.samoa_invariant.specs.Index.{Index, IsIndexed, IsNextOf, Notes, TellsEntry, TellsNext, TellsNotes, left, passed_on, released}
use Rattle.samoa_invariant.specs.Inv.{Invariant}
use Rattle.samoa_invariant.specs.Play.{Play}
use Rattle.samoa_invariant.specs.State as model
use Rattle.samoa_invariant.specs.Runs.{IsDue, IsRun, Trace, after_step, play, state, with_step}
use Rattle.samoa_invariant.proofs.indexing.Calm.{released_restless}
use Rattle.samoa_invariant.proofs.indexing.Handling.{abandoned_indexed, ended_indexed, entered_indexed}
use Rattle.samoa_invariant.proofs.indexing.Leaving.{left_kept, left_passed}
use Rattle.samoa_invariant.proofs.indexing.Stepping.{next_of, owner_from, released_indexed}
use Rattle.samoa_invariant.proofs.preservation.Slots.{turn_owns}
use Rattle.samoa_invariant.proofs.representation.Traces.{count-few, invariant, state-step}
use Rattle.samoa_control.specs.Since.{cleared_comps}
use Rattle.samoa_control.specs.Admission.{most_admitted}
use Rattle.samoa_control.proofs.Since.{abandon_count, cleared-step, leave_count}
use Rattle.samoa_core.specs.Indexed.{IsIndexedBy, IsKeptAt, Keeps}
use Rattle.samoa_core.specs.Passing.{HasLeft, HasReleased, MarksEntry, Passes}
use Rattle.samoa_core.specs.Rows.{Rows}
use Rattle.samoa_core.proofs.Kept.{keeps-ready}

-- a computation that was admitted has its place
pub place-most : (t : Trace) (k : ℕ) → IsRun t → k < (state t).count → k - cleared_comps t < most_admitted
place-most t k run lt = let few : (state t).count ≤ 100000 = count-few t run in omega (arith, few, lt)

pub made-indexed : (t : Trace) (step : Step) (rows : Rows) (g : Index) → IsRun t → IsKeptAt (with_step t step) rows g
    → IsIndexed (play t) (cleared_comps t) (after_step (play t) (state t) step) g → IsIndexedBy (with_step t step) rows
made-indexed t step rows g run keeps is = record {
  index = g;
  keeps = keeps;
  is = subst (λ (n : ℕ). IsIndexed (play t) n (state (with_step t step)) g) (sym (cleared-step t step run))
      (subst (λ (core : model.Core). IsIndexed (play t) (cleared_comps t) core g) (sym (state-step t step run)) is);
}

-- a step that admits no one leaves the lists as they are
pub kept-on : (t : Trace) (step : Step) (rows : Rows) (g : Index) → IsRun t → (after_step (play t) (state t) step).count ≡ (state t).count → IsKeptAt t rows g
    → IsKeptAt (with_step t step) rows g
kept-on t step rows g run same keeps =
    subst (λ (n : ℕ). Keeps t.script.nodes (length t.script.micros) n (state (with_step t step)).count rows g) (sym (cleared-step t step run))
    (subst (λ (n : ℕ). Keeps t.script.nodes (length t.script.micros) (cleared_comps t) n rows g)
    (sym (ap (λ (core : model.Core). core.count) (state-step t step run) ∙ same)) keeps)

-- a handler step has begun
pub entered : (t : Trace) (rows : Rows) (comp micro first : ℕ) → IsRun t → IsIndexedBy t rows → IsDue t (Step.Enter comp micro) → first ≡ cleared_comps t
    → IsIndexedBy (with_step t (Step.Enter comp micro)) (record rows { ready = set rows.ready (comp - 1 - first) false })
entered t rows comp micro first run by due e =
    let k : ℕ = comp - 1 in
    let inv : Invariant (play t) (state t) = invariant t run in
    let from : cleared_comps t ≤ k = owner_from (play t) (cleared_comps t) (state t) k micro by.index inv by.is due.enabled.turn.admitted (turn_owns (play t) (state t) k micro inv due.enabled.turn) in
    subst (λ (n : ℕ). IsIndexedBy (with_step t (Step.Enter comp micro)) (record rows { ready = set rows.ready (comp - 1 - n) false })) (sym e)
    (made-indexed t (Step.Enter comp micro) (record rows { ready = set rows.ready (k - cleared_comps t) false }) (record by.index { ready = model.put by.index.ready k false }) run
    (kept-on t (Step.Enter comp micro) _ _ run refl
    (keeps-ready t.script.nodes (length t.script.micros) (cleared_comps t) (state t).count rows by.index k false from (place-most t k run due.enabled.turn.admitted) by.keeps))
    (entered_indexed (play t) (cleared_comps t) (state t) k micro by.index inv due.enabled by.is))

-- an end changes nothing
pub ended : (t : Trace) (rows : Rows) (comp : ℕ) → IsRun t → IsIndexedBy t rows → IsDue t (Step.End comp) → IsIndexedBy (with_step t (Step.End comp)) rows
ended t rows comp run by due =
    made-indexed t (Step.End comp) rows by.index run (kept-on t (Step.End comp) rows by.index run refl by.keeps)
    (ended_indexed (play t) (cleared_comps t) (state t) (comp - 1) by.index due.enabled by.is)

-- a handler step that came back
leave_private : (P : Play) (core : model.Core) (k : ℕ) (next : Option (Call × Moment)) → (model.leave_next P core k next).private ≡ core.private
leave_private P core k None = refl
leave_private P core k (Some next) = refl

pub left-on : (t : Trace) (rows : Rows) (g : Index) (comp : ℕ) → IsRun t → IsKeptAt t rows g → IsKeptAt (with_step t (Step.Leave comp)) rows g
left-on t rows g comp run = kept-on t (Step.Leave comp) rows g run (leave_count (play t) (state t) (comp - 1) (next_step ((state t).comp (comp - 1))))

private-stays : (t : Trace) (comp : ℕ) → IsRun t → (state (with_step t (Step.Leave comp))).private ≡ (state t).private
private-stays t comp run =
    ap (λ (core : model.Core). core.private) (state-step t (Step.Leave comp) run) ∙ leave_private (play t) (state t) (comp - 1) (next_step ((state t).comp (comp - 1)))

pub left-holds : (t : Trace) (rows : Rows) (g : Index) (comp p : ℕ) → IsRun t → IsIndexed (play t) (cleared_comps t) (state t) g → model.IsOut (play t) (state t) (comp - 1) p
    → (let w : Trace = with_step t (Step.Leave comp) in (state w).local ((play t).node (comp - 1)) p < (state w).private (comp - 1) ((play t).node (comp - 1)) p)
    → HasLeft (with_step t (Step.Leave comp)) rows g comp → IsIndexedBy (with_step t (Step.Leave comp)) rows
left-holds t rows g comp p run is out short has =
    let k : ℕ = comp - 1 in
    let v : ℕ = (play t).node k in
    let same : state (with_step t (Step.Leave comp)) ≡ model.made_by (play t) (state t) (model.Step.Leave k) = state-step t (Step.Leave comp) run in
    let low : (model.made_by (play t) (state t) (model.Step.Leave k)).local v p < (state t).private k v p =
    subst (λ (f : ℕ → ℕ → ℕ → ℕ). (model.made_by (play t) (state t) (model.Step.Leave k)).local v p < f k v p) (private-stays t comp run)
    (subst (λ (core : model.Core). core.local v p < (state (with_step t (Step.Leave comp))).private k v p) same short) in
    made-indexed t (Step.Leave comp) rows (left g k has.notes) run has.keeps
    (left_kept (play t) (cleared_comps t) (state t) k p g has.notes (invariant t run) out is low
    (subst (λ (core : model.Core). TellsNotes (play t) core k has.notes) same has.tells))

-- and passes its queue on
pub left-passes : (t : Trace) (rows : Rows) (g : Index) (comp p : ℕ) (notes : Notes) → IsRun t → IsIndexed (play t) (cleared_comps t) (state t) g → model.IsOut (play t) (state t) (comp - 1) p
    → (let w : Trace = with_step t (Step.Leave comp) in (state w).private (comp - 1) ((play t).node (comp - 1)) p ≤ (state w).local ((play t).node (comp - 1)) p)
    → TellsNotes (play t) (state (with_step t (Step.Leave comp))) (comp - 1) notes
    → Passes (with_step t (Step.Leave comp)) rows (left g (comp - 1) notes) comp p → IsIndexedBy (with_step t (Step.Leave comp)) rows
left-passes t rows g comp p notes run is out past tells has =
    let k : ℕ = comp - 1 in
    let v : ℕ = (play t).node k in
    let same : state (with_step t (Step.Leave comp)) ≡ model.made_by (play t) (state t) (model.Step.Leave k) = state-step t (Step.Leave comp) run in
    let low : (state t).private k v p ≤ (model.made_by (play t) (state t) (model.Step.Leave k)).local v p =
    subst (λ (f : ℕ → ℕ → ℕ → ℕ). f k v p ≤ (model.made_by (play t) (state t) (model.Step.Leave k)).local v p) (private-stays t comp run)
    (subst (λ (core : model.Core). (state (with_step t (Step.Leave comp))).private k v p ≤ core.local v p) same past) in
    made-indexed t (Step.Leave comp) rows (passed_on (left g k notes) v p (g.next k p) has.enters) run has.keeps
    (left_passed (play t) (cleared_comps t) (state t) k p g notes has.enters (invariant t run) out is low
    (subst (λ (core : model.Core). TellsNotes (play t) core k notes) same tells)
    (subst (λ (core : model.Core). TellsNext (play t) core (g.next k p) has.enters) same has.tells))

-- a handler step that was taken back
pub abandoned-on : (t : Trace) (rows : Rows) (g : Index) (comp : ℕ) → IsRun t → IsKeptAt t rows g → IsKeptAt (with_step t (Step.Abandon comp)) rows g
abandoned-on t rows g comp run = kept-on t (Step.Abandon comp) rows g run (abandon_count (play t) (state t) (comp - 1) (next_step ((state t).comp (comp - 1))))

pub abandoned-marks : (t : Trace) (rows : Rows) (g : Index) (comp p : ℕ) → IsRun t → IsIndexed (play t) (cleared_comps t) (state t) g → model.IsOut (play t) (state t) (comp - 1) p
    → MarksEntry (with_step t (Step.Abandon comp)) rows g comp → IsIndexedBy (with_step t (Step.Abandon comp)) rows
abandoned-marks t rows g comp p run is out has =
    made-indexed t (Step.Abandon comp) rows (record g { ready = model.put g.ready (comp - 1) has.enters }) run has.keeps
    (abandoned_indexed (play t) (cleared_comps t) (state t) (comp - 1) p g has.enters (invariant t run) out is
    (subst (λ (core : model.Core). TellsEntry (play t) core (comp - 1) has.enters) (state-step t (Step.Abandon comp) run) has.tells))

-- a release
pub released-on : (t : Trace) (rows : Rows) (g : Index) (comp micro : ℕ) → IsRun t → IsKeptAt t rows g → IsKeptAt (with_step t (Step.Release comp micro)) rows g
released-on t rows g comp micro run = kept-on t (Step.Release comp micro) rows g run refl

pub released-has : (t : Trace) (rows : Rows) (g : Index) (comp micro : ℕ) → IsRun t → IsIndexed (play t) (cleared_comps t) (state t) g → IsDue t (Step.Release comp micro)
    → HasReleased (with_step t (Step.Release comp micro)) rows g comp micro → IsIndexedBy (with_step t (Step.Release comp micro)) rows
released-has t rows g comp micro run is due has =
    let k : ℕ = comp - 1 in
    made-indexed t (Step.Release comp micro) rows (released g k ((play t).node k) micro has.enters) run has.keeps
    (released_indexed (play t) (cleared_comps t) (state t) k micro g has.enters (invariant t run) due.enabled is
    (subst (λ (core : model.Core). TellsNext (play t) core (g.next k micro) has.enters) (state-step t (Step.Release comp micro) run) has.tells))

-- it marks no computation restless up to its own
pub released-calm : (t : Trace) (g : Index) (comp micro : ℕ) (enters : Bool) (j : ℕ) → IsRun t → IsIndexed (play t) (cleared_comps t) (state t) g → IsDue t (Step.Release comp micro)
    → j ≤ comp - 1 → (released g (comp - 1) ((play t).node (comp - 1)) micro enters).restless j ≡ g.restless j
released-calm t g comp micro enters j run is due le =
    released_restless (play t) (cleared_comps t) (state t) (comp - 1) micro g enters j (invariant t run) due.enabled is le

-- who comes next after who has the turn was admitted after it
pub next-since : (t : Trace) (g : Index) (k p j : ℕ) → IsRun t → IsIndexed (play t) (cleared_comps t) (state t) g → model.HasTurn (play t) (state t) k p → g.next k p ≡ Some j
    → (cleared_comps t ≤ j) × (j < (state t).count)
next-since t g k p j run is turn e =
    let inv : Invariant (play t) (state t) = invariant t run in
    let from : cleared_comps t ≤ k = owner_from (play t) (cleared_comps t) (state t) k p g inv is turn.admitted (turn_owns (play t) (state t) k p inv turn) in
    go from (subst (λ (x : Option ℕ). IsNextOf (play t) (state t).count k p x) e (next_of (play t) (cleared_comps t) (state t) k p g inv is turn.admitted (turn_owns (play t) (state t) k p inv turn)))
  where
    go : cleared_comps t ≤ k → IsNextOf (play t) (state t).count k p (Some j) → (cleared_comps t ≤ j) × (j < (state t).count)
    go from after = let later : k < j = after.later in (omega (arith, from, later), after.admitted)
