-- What was admitted since the last clear, step by step.
use Rattle.std.proofs.Common.{arith, ◌≡◌, ℕ, suc, ◌+◌, ◌≤◌, refl, sym, ap, ◌∙◌, List, [], ◌∷◌, ◌++◌, length, take, Bool, true, false, if◌then◌else◌, Option, Some, None}
use Rattle.std.proofs.lemmas.List.{take-append-le, take_all}
use Rattle.samoa_model.specs.declared.handler.Moment.{Moment}
use Rattle.samoa_model.specs.declared.record.Step.{Step}
use Rattle.samoa_model.specs.declared.script.Script.{Script}
use Rattle.samoa_model.specs.declared.record.Ext.{Ext}
use Rattle.samoa_serial.specs.declared.call.Call.{Call}
use Rattle.samoa_serial.specs.Alone.{next_step}
use Rattle.samoa_invariant.specs.Play.{Play}
use Rattle.samoa_invariant.specs.State as model
use Rattle.samoa_invariant.specs.Runs.{IsRising, IsRun, Trace, after_step, clear_at, cleared, is_clear, opening_trace, play, run_from, state, with_clear, with_ext, with_step}
use Rattle.samoa_control.specs.Since.{admissions, cleared_comps, last_of}

pub last-most : (before least : ℕ) (clears : List ℕ) (most : ℕ) → IsRising least clears most → before ≤ most → last_of before clears ≤ most
last-most before least [] most rising le = le
last-most before least (c ∷ cs) most rising le = last-most c (suc c) cs most rising.2 rising.1

pub cleared-opening : (script : Script) (cells : ℕ) → cleared_comps (opening_trace script cells) ≡ 0
unfolding cleared_comps
cleared-opening script cells = refl

pub cleared-ext : (t : Trace) (ext : Ext) → cleared_comps (with_ext t ext) ≡ cleared_comps t
unfolding cleared_comps
cleared-ext t ext = refl

pub cleared-step : (t : Trace) (step : Step) → IsRun t → cleared_comps (with_step t step) ≡ cleared_comps t
unfolding cleared_comps
cleared-step t step run =
    ap admissions (take-append-le (last_of 0 t.clears) t.journal (step ∷ []) (last-most 0 0 t.clears (length t.journal) run.clears (omega arith)))

pub cleared-more : (t : Trace) (more : List Step) → IsRun t → cleared_comps (record t { journal = t.journal ++ more }) ≡ cleared_comps t
unfolding cleared_comps
cleared-more t more run =
    ap admissions (take-append-le (last_of 0 t.clears) t.journal more (last-most 0 0 t.clears (length t.journal) run.clears (omega arith)))

last-append : (before : ℕ) (clears : List ℕ) (clear : ℕ) → last_of before (clears ++ clear ∷ []) ≡ clear
last-append before [] clear = refl
last-append before (c ∷ cs) clear = last-append c cs clear

clear_count : (core : model.Core) (b : Bool) → (if b then cleared core else core).count ≡ core.count
clear_count core true = refl
clear_count core false = refl

pub leave_count : (P : Play) (core : model.Core) (k : ℕ) (next : Option (Call × Moment)) → (model.leave_next P core k next).count ≡ core.count
leave_count P core k None = refl
leave_count P core k (Some next) = refl

pub abandon_count : (P : Play) (core : model.Core) (k : ℕ) (next : Option (Call × Moment)) → (model.abandon_next P core k next).count ≡ core.count
abandon_count P core k None = refl
abandon_count P core k (Some next) = refl

one_more : (P : Play) (core : model.Core) (step : Step) (rest : List Step) → (after_step P core step).count + admissions rest ≡ core.count + admissions (step ∷ rest)
one_more P core (Step.Admit comp) rest = omega arith
one_more P core (Step.Enter comp micro) rest = refl
one_more P core (Step.Leave comp) rest = ap (λ (n : ℕ). n + admissions rest) (leave_count P core _ (next_step (core.comp _)))
one_more P core (Step.Abandon comp) rest = ap (λ (n : ℕ). n + admissions rest) (abandon_count P core _ (next_step (core.comp _)))
one_more P core (Step.Release comp micro) rest = refl
one_more P core (Step.End comp) rest = refl

count_is : (P : Play) (clears : List ℕ) (made : ℕ) (core : model.Core) (xs : List Step) → (run_from P clears made core xs).count ≡ core.count + admissions xs
count_is P clears made core [] = clear_count core (is_clear clears made) ∙ (let more : core.count ≡ core.count + 0 = omega arith in more)
count_is P clears made core (x ∷ xs) =
    let now : model.Core = clear_at clears made core in
    count_is P clears (suc made) (after_step P now x) xs
    ∙ (one_more P now x xs ∙ ap (λ (n : ℕ). n + admissions (x ∷ xs)) (clear_count core (is_clear clears made)))

-- after a clear all that were admitted are cleared away
pub cleared-clear : (t : Trace) → cleared_comps (with_clear t) ≡ (state t).count
unfolding cleared_comps
cleared-clear t =
    ap (λ (n : ℕ). admissions (take n t.journal)) (last-append 0 t.clears (length t.journal))
    ∙ (ap admissions (take_all (length t.journal) t.journal (omega arith)) ∙ sym all)
  where
    all : (state t).count ≡ admissions t.journal
    all = count_is (play t) t.clears 0 (model.empty (play t)) t.journal ∙ (let none : (model.empty (play t)).count + admissions t.journal ≡ admissions t.journal = omega arith in none)
