-- What handler steps, releases and ends keep of a core.
use Rattle.std.proofs.Common.{arith, ◌≡◌, ℕ, suc, ◌+◌, ◌-◌, ◌<◌, ◌≤◌, ◌==◌, ◌||◌, refl, sym, ap, subst, ◌∙◌, List, [], ◌∷◌, ◌++◌, length, Bool, false, if◌then◌else◌, Option, Some, None}
use Rattle.std.proofs.lemmas.Bool.{ne_eqb}
use Rattle.std.proofs.lemmas.List.{take-append-le}
use Rattle.samoa_model.specs.declared.handler.Moment.{Moment}
use Rattle.samoa_model.specs.declared.record.Ext.{Ext}
use Rattle.samoa_model.specs.declared.record.Step.{Step}
use Rattle.samoa_model.specs.declared.script.Script.{Script}
use Rattle.samoa_serial.specs.declared.call.Call.{Call}
use Rattle.samoa_serial.specs.Alone.{next_step}
use Rattle.samoa_invariant.specs.Play.{Play}
use Rattle.samoa_invariant.specs.State as model
use Rattle.samoa_invariant.specs.Runs.{IsRising, IsRun, Trace, after_step, clear_at, cleared, is_clear, play, run_from, state}
use Rattle.samoa_control.specs.Later.{IsLater}
use Rattle.samoa_control.specs.Since.{admissions, cleared_comps, last_of}
use Rattle.samoa_control.proofs.Since.{last-most}

-- the same script, cells, admissions and clears, and a longer journal
abbrev goes_on : Trace → List Step → Trace
goes_on t steps = record t { journal = t.journal ++ steps }

later_is : (t u : Trace) (l : IsLater t u) → u ≡ goes_on t l.steps
later_is t u l =
    ap (λ (s : Script). record u { script = s }) l.script
    ∙ (ap (λ (n : ℕ). record u { script = t.script; cells = n }) l.cells
    ∙ (ap (λ (xs : List Ext). record u { script = t.script; cells = t.cells; exts = xs }) l.exts
    ∙ (ap (λ (cs : List ℕ). record u { script = t.script; cells = t.cells; exts = t.exts; clears = cs }) l.clears
    ∙ ap (λ (js : List Step). record t { journal = js }) l.journal)))

-- nothing more was cleared away
pub cleared-later : (t u : Trace) → IsRun t → IsLater t u → cleared_comps u ≡ cleared_comps t
unfolding cleared_comps
cleared-later t u run l =
    ap cleared_comps (later_is t u l)
    ∙ ap admissions (take-append-le (last_of 0 t.clears) t.journal l.steps (last-most 0 0 t.clears (length t.journal) run.clears (omega arith)))

-- no step gives cells back
leave_cells : (P : Play) (core : model.Core) (k : ℕ) (next : Option (Call × Moment)) → (model.leave_next P core k next).cells ≡ core.cells
leave_cells P core k None = refl
leave_cells P core k (Some next) = refl

abandon_cells : (P : Play) (core : model.Core) (k : ℕ) (next : Option (Call × Moment)) → (model.abandon_next P core k next).cells ≡ core.cells
abandon_cells P core k None = refl
abandon_cells P core k (Some next) = refl

step_cells : (P : Play) (core : model.Core) (step : Step) → core.cells ≤ (after_step P core step).cells
step_cells P core (Step.Admit comp) = omega arith
step_cells P core (Step.Enter comp micro) = omega arith
step_cells P core (Step.Leave comp) = let same = leave_cells P core (comp - 1) (next_step (core.comp (comp - 1))) in omega (arith, same)
step_cells P core (Step.Abandon comp) = let same = abandon_cells P core (comp - 1) (next_step (core.comp (comp - 1))) in omega (arith, same)
step_cells P core (Step.Release comp micro) = omega arith
step_cells P core (Step.End comp) = omega arith

-- no clear comes after the last
none_after : (clears : List ℕ) (least most n : ℕ) → IsRising least clears most → most < n → is_clear clears n ≡ false
none_after [] least most n rising lt = refl
none_after (c ∷ cs) least most n rising lt =
    let most_c : c ≤ most = rising.1 in
    let other : (c == n) ≡ false = ne_eqb c n (λ e. omega arith) in
    ap (λ (b : Bool). b || is_clear cs n) other ∙ none_after cs (suc c) most n rising.2 lt

held_on : (P : Play) (clears : List ℕ) (made : ℕ) (core : model.Core) (xs : List Step) (n : ℕ) → IsRising 0 clears n → n ≤ made
    → (clear_at clears made core).cells ≤ (run_from P clears made core xs).cells
held_on P clears made core [] n rising le = omega arith
held_on P clears made core (x ∷ xs) n rising le =
    let now : model.Core = clear_at clears made core in
    let next : model.Core = after_step P now x in
    let none : is_clear clears (suc made) ≡ false = none_after clears 0 n (suc made) rising (omega arith) in
    let same : (clear_at clears (suc made) next).cells ≡ next.cells = ap (λ (b : Bool). (if b then cleared next else next).cells) none in
    let step : now.cells ≤ next.cells = step_cells P now x in
    let rest : (clear_at clears (suc made) next).cells ≤ (run_from P clears (suc made) next xs).cells = held_on P clears (suc made) next xs n rising (omega arith) in
    let all : now.cells ≤ (run_from P clears (suc made) next xs).cells = omega (arith, same, step, rest) in
    all

held_from : (P : Play) (clears : List ℕ) (made : ℕ) (core : model.Core) (xs ys : List Step) (n : ℕ) → IsRising 0 clears n → n ≤ made + length xs
    → (run_from P clears made core xs).cells ≤ (run_from P clears made core (xs ++ ys)).cells
held_from P clears made core [] ys n rising le = held_on P clears made core ys n rising (omega arith)
held_from P clears made core (x ∷ xs) ys n rising le =
    held_from P clears (suc made) (after_step P (clear_at clears made core) x) xs ys n rising (omega arith)

-- no cells were given back
pub held-later : (t u : Trace) → IsRun t → IsLater t u → (state t).cells ≤ (state u).cells
held-later t u run l =
    subst (λ (x : Trace). (state t).cells ≤ (state x).cells) (sym (later_is t u l))
    (held_from (play t) t.clears 0 (model.empty (play t)) t.journal l.steps (length t.journal) run.clears (omega arith))
