-- What holds of a core whose journal is a run.
use Rattle.std.proofs.Common.{arith, ◌≡◌, ℕ, suc, ◌+◌, ◌-◌, ◌≤◌, ◌<◌, ◌⊎◌, inl, inr, sym, ap, subst, ◌∙◌, List, [], ◌∷◌, ◌++◌, length, take, get_or, slice_get, Some, Bool, true, false, if◌then◌else◌, length-append, min}
use Rattle.std.proofs.lemmas.Bool.{cases_Bool}
use Rattle.std.proofs.lemmas.List.{get_or_append_left}
use Rattle.samoa_model.specs.declared.record.Ext.{Ext}
use Rattle.samoa_model.specs.declared.record.Step.{Step}
use Rattle.samoa_model.specs.declared.script.Script.{Script}
use Rattle.samoa_serial.specs.State.{State}
use Rattle.samoa_serial.specs.Alone.{state_after}
use Rattle.samoa_serial.specs.Whole.{Ran}
use Rattle.samoa_serial.specs.SerialRun.{ran_of, serial}
use Rattle.samoa_serial.proofs.Point.{states_after-take}
use Rattle.samoa_serial.proofs.SerialLaws.{comp_at}
use Rattle.samoa_invariant.specs.Slots.{At}
use Rattle.samoa_invariant.specs.Play.{Play, point, rules, stood, turns, whole_of}
use Rattle.samoa_invariant.specs.Inv.{AnswersSerially, Invariant}
use Rattle.samoa_invariant.specs.Parts.{StatesAreSerial}
use Rattle.samoa_invariant.specs.State as model
use Rattle.samoa_invariant.specs.State.{AllEnded, Core, HasTurn}
use Rattle.samoa_invariant.specs.Runs.{ArePoints, GoesOn, IsDue, IsRun, IsServed, Trace, after_step, clear_at, cleared, ext_at, is_clear, model_step, no_ext, no_ran, play, run_from, serial_at, served_at, state, with_clear, with_ext, with_step, opening_trace}
use Rattle.samoa_invariant.proofs.refinement.Ends.{reached_keeps}
use Rattle.samoa_invariant.proofs.representation.Extended.{IsSameRun, reached_most, run-same}
use Rattle.samoa_invariant.proofs.representation.Journals.{is_run-clear, is_run-step, no_clear, rising-append, rising-more, run-clear, run-step, run_reached}
use Rattle.samoa_invariant.proofs.measure.Lefts.{step_fewer}
use Rattle.samoa_invariant.proofs.refinement.Parts.{states_are_serial}
use Rattle.samoa_invariant.proofs.progress.Progress.{ended_or_goes_on}
use Rattle.samoa_invariant.proofs.representation.Scripted.{get_is, get_there, plays}
use Rattle.samoa_invariant.proofs.preservation.Versions.{place_of}
use Rattle.samoa_invariant.proofs.refinement.Serials.{script_answers, script_states, stood_is, whole_is}

pub opening_is_run : (script : Script) (cells : ℕ) → IsRun (opening_trace script cells)
opening_is_run script cells = record { steps = λ no. absurd (let both : false ≡ true = no in cc); clears = tt }

pub reached : (t : Trace) → IsRun t → model.Reached (play t) (state t)
reached t run = run_reached (play t) t.clears 0 (model.empty (play t)) t.journal run.steps model.Reached.Opening

pub invariant : (t : Trace) → IsRun t → Invariant (play t) (state t)
invariant t run = reached_keeps (play t) (state t) (reached t run)

pub count-most : (t : Trace) → IsRun t → (state t).count ≤ length t.exts
count-most t run = let most : (state t).count ≤ min (length t.exts) 100000 = reached_most (play t) (state t) (reached t run) in omega arith

pub count-few : (t : Trace) → IsRun t → (state t).count ≤ 100000
count-few t run = let most : (state t).count ≤ min (length t.exts) 100000 = reached_most (play t) (state t) (reached t run) in omega arith

none_next : (t : Trace) → IsRun t → is_clear t.clears (suc (0 + length t.journal)) ≡ false
none_next t run = no_clear 0 t.clears (length t.journal) (suc (0 + length t.journal)) run.clears (omega arith)

-- one more step
pub state-step : (t : Trace) (step : Step) → IsRun t → state (with_step t step) ≡ after_step (play t) (state t) step
state-step t step run = run-step (play t) t.clears 0 (model.empty (play t)) t.journal step (none_next t run)

pub is_run-with_step : (t : Trace) (step : Step) → IsRun t → IsDue t step → IsRun (with_step t step)
is_run-with_step t step run can = record {
  steps = is_run-step (play t) t.clears 0 (model.empty (play t)) t.journal step (none_next t run) run.steps can;
  clears = rising-more 0 t.clears (length t.journal) (length (t.journal ++ step ∷ [])) run.clears (omega (arith, length-append t.journal (step ∷ [])));
}

-- one more clear
pub state-clear : (t : Trace) → state (with_clear t) ≡ cleared (state t)
state-clear t = run-clear (play t) t.clears 0 (model.empty (play t)) t.journal (length t.journal) (omega arith)

pub is_run-with_clear : (t : Trace) → IsRun t → AllEnded (state t) → is_clear t.clears (length t.journal) ≡ false → IsRun (with_clear t)
is_run-with_clear t run all none = record {
  steps = is_run-clear (play t) t.clears 0 (model.empty (play t)) t.journal (length t.journal) (omega arith) run.steps all;
  clears = rising-append 0 t.clears (length t.journal) (length t.journal) run.clears (omega arith) (omega arith) none;
}

-- where cells are held, no clear was made after the last step
cells_cleared : (P : Play) (clears : List ℕ) (made : ℕ) (core : Core) (xs : List Step) → is_clear clears (made + length xs) ≡ true → (run_from P clears made core xs).cells ≡ 0
cells_cleared P clears made core [] made_here =
    let here : made + 0 ≡ made = omega arith in
    ap (λ (b : Bool). (if b then cleared core else core).cells) (ap (λ (n : ℕ). is_clear clears n) (sym here) ∙ made_here)
cells_cleared P clears made core (x ∷ xs) made_here =
    let there : suc made + length xs ≡ made + suc (length xs) = omega arith in
    cells_cleared P clears (suc made) (after_step P (clear_at clears made core) x) xs (ap (λ (n : ℕ). is_clear clears n) there ∙ made_here)

pub held_not_cleared : (t : Trace) → 0 < (state t).cells → is_clear t.clears (length t.journal) ≡ false
held_not_cleared t held = go (cases_Bool (is_clear t.clears (length t.journal)))
  where
    go : (is_clear t.clears (length t.journal) ≡ true) ⊎ (is_clear t.clears (length t.journal) ≡ false) → is_clear t.clears (length t.journal) ≡ false
    go (inl made_here) =
        let all : length t.journal ≡ 0 + length t.journal = omega arith in
        let none : (state t).cells ≡ 0 = cells_cleared (play t) t.clears 0 (model.empty (play t)) t.journal (ap (λ (n : ℕ). is_clear t.clears n) (sym all) ∙ made_here) in
        absurd (omega arith)
    go (inr none) = none

-- one more external event
extended : (t : Trace) (ext : Ext) → IsRun t → IsSameRun t.script t.cells t.exts (t.exts ++ ext ∷ []) t.clears 0 (model.empty (play t)) t.journal
extended t ext run =
    run-same t.script t.cells t.exts (t.exts ++ ext ∷ []) (length t.exts) t.clears 0 (model.empty (play t)) t.journal (omega (arith, length-append t.exts (ext ∷ [])))
    (λ k lt. sym (get_or_append_left {A = Ext} t.exts (ext ∷ []) no_ext k lt)) run.steps (count-most t run)

pub state-ext : (t : Trace) (ext : Ext) → IsRun t → state (with_ext t ext) ≡ state t
state-ext t ext run = sym (extended t ext run).state

pub is_run-with_ext : (t : Trace) (ext : Ext) → IsRun t → IsRun (with_ext t ext)
is_run-with_ext t ext run = let e = extended t ext run in record { steps = e.run; clears = run.clears }

-- a computation in the serial run
pub served_is : (t : Trace) (k : ℕ) → k < length t.exts
    → whole_of (play t) k ≡ get_or (serial t.script t.exts).comps k no_ran
served_is t k lt =
    let x : Ext = ext_at t.exts k in
    let there : slice_get t.exts k ≡ Some x = get_there t.exts k no_ext lt in
    whole_is (play t) t.script t.exts (plays t.script t.cells t.exts) k x there (stood_is (play t) t.script t.exts (plays t.script t.cells t.exts) k (omega arith))
    ∙ sym (get_is (serial t.script t.exts).comps k (ran_of t.script (take k t.exts) ((serial t.script (take k t.exts)).states x.node.0) x) no_ran (comp_at t.script t.exts k no_ext lt))

pub served : (t : Trace) (comp : ℕ) → IsRun t → 0 < comp → comp ≤ (state t).count → (state t).ended (comp - 1) ≡ true → IsServed t comp
served t comp run first admitted ended =
    let k : ℕ = comp - 1 in
    let most : (state t).count ≤ length t.exts = count-most t run in
    let lt : k < length t.exts = omega arith in
    let x : Ext = ext_at t.exts k in
    let there : slice_get t.exts k ≡ Some x = get_there t.exts k no_ext lt in
    let a : AnswersSerially t.script t.exts (state t) k x =
    script_answers (play t) t.script t.exts (plays t.script t.cells t.exts) (state t) (invariant t run) most k x (omega arith) there ended in
    let ran : Ran = ran_of t.script (take k t.exts) ((serial t.script (take k t.exts)).states x.node.0) x in
    let is : ran ≡ served_at t comp = sym (get_is (serial t.script t.exts).comps k ran no_ran (comp_at t.script t.exts k no_ext lt)) in
    record { entries = a.entries ∙ ap (λ (r : Ran). r.world.entries) is; ending = a.ending ∙ ap (λ (r : Ran). Some r.value) is }

-- the final states
pub final : (t : Trace) → IsRun t → (state t).count ≡ length t.exts → AllEnded (state t) → (node p : ℕ) → (state t).boxes node p ≡ (serial t.script t.exts).states node p
final t run all_admitted all = script_states (play t) t.script t.exts (plays t.script t.cells t.exts) (state t) (invariant t run) all_admitted all

-- the serial point of a computation at a slot of its node
point_is : (t : Trace) (comp n p : ℕ) → comp - 1 < length t.exts → n ≤ turns (play t) (comp - 1)
    → (point (play t) (comp - 1) n).states p ≡ serial_at t comp n ((play t).node (comp - 1)) p
point_is t comp n p lt le =
    let k : ℕ = comp - 1 in
    let P : Play = play t in
    let ran : whole_of P k ≡ served_at t comp = served_is t k lt in
    let before : stood P k ≡ (serial t.script (take k t.exts)).states = stood_is P t.script t.exts (plays t.script t.cells t.exts) k (omega arith) in
    states_after-take (rules P k) (P.budget k) (stood P k (P.node k)) (P.root k) (P.args k) n p le
    ∙ (ap (λ (f : At State). state_after (f (P.node k) p) (take n (whole_of P k).world.turns) p) before
    ∙ ap (λ (r : Ran). state_after ((serial t.script (take k t.exts)).states (P.node k) p) (take n r.world.turns) p) ran)

pub points : (t : Trace) → IsRun t → ArePoints t
points t run =
    let i : Invariant (play t) (state t) = invariant t run in
    let s : StatesAreSerial (play t) (state t) = states_are_serial (play t) (state t) i in
    let most : (state t).count ≤ length t.exts = count-most t run in
    record {
      owned = λ comp p first turn.
          let admitted : comp - 1 < (state t).count = turn.admitted in
          s.owned (comp - 1) p turn ∙ point_is t comp ((state t).made (comp - 1)) p (omega arith) (i.calls.made (comp - 1) turn.admitted);
      free = λ node p none.
          s.free node p none
          ∙ ap (λ (f : At State). f node p) (stood_is (play t) t.script t.exts (plays t.script t.cells t.exts) (state t).count most);
    }

-- where nothing was abandoned, all have ended or a step goes on
pub onward : (t : Trace) → IsRun t → (state t).stopped ≡ false → AllEnded (state t) ⊎ ((step : Step) × GoesOn step × IsDue t step)
onward t run running = go (ended_or_goes_on (play t) (state t) (invariant t run) running)
  where
    from : (step : model.Step) → model.IsForward step → model.IsEnabled (play t) (state t) step → (step : Step) × GoesOn step × IsDue t step
    from model.Step.Admit f can = absurd f
    from (model.Step.Enter k p) f can = (Step.Enter (suc k) p, tt, record { number = omega arith; enabled = subst (λ (j : ℕ). model.CanEnter (play t) (state t) j p) (place_of k) can })
    from (model.Step.Leave k) f can = (Step.Leave (suc k), tt, record { number = omega arith; enabled = subst (λ (j : ℕ). model.CanLeave (play t) (state t) j) (place_of k) can })
    from (model.Step.Abandon k) f can = absurd f
    from (model.Step.Release k p) f can = (Step.Release (suc k) p, tt, record { number = omega arith; enabled = subst (λ (j : ℕ). model.CanRelease (play t) (state t) j p) (place_of k) can })
    from (model.Step.End k) f can = (Step.End (suc k), tt, record { number = omega arith; enabled = subst (λ (j : ℕ). model.CanEnd (play t) (state t) j) (place_of k) can })
    from model.Step.Clear f can = absurd f

    go : AllEnded (state t) ⊎ ((step : model.Step) × model.IsForward step × model.IsEnabled (play t) (state t) step) → AllEnded (state t) ⊎ ((step : Step) × GoesOn step × IsDue t step)
    go (inl all) = inl all
    go (inr s) = inr (from s.0 s.1 s.2)

-- a step that goes on leaves fewer to come
pub fewer : (t : Trace) (step : Step) → IsRun t → GoesOn step → IsDue t step → model.left (play t) (state (with_step t step)) < model.left (play t) (state t)
fewer t step run goes can =
    subst (λ (c : Core). model.left (play t) c < model.left (play t) (state t)) (sym (state-step t step run))
    (step_fewer (play t) (state t) (model_step step) (invariant t run) goes can.enabled)
