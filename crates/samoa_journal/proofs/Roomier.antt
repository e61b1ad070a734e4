-- A core with more cells, cleared more often, makes the same steps.
use Rattle.std.proofs.Common.{◌≡◌, refl, sym, ap, subst, ◌∙◌, arith, ℕ, zero, suc, ◌+◌, ◌-◌, ◌≤◌, Bool, true, false, if◌then◌else◌, List, [], ◌∷◌, length, take, Option, Some, None}
use Rattle.std.proofs.lemmas.Bool.{false≢true}
use Rattle.samoa_model.specs.declared.handler.Moment.{Moment}
use Rattle.samoa_model.specs.declared.record.Ext.{Ext}
use Rattle.samoa_model.specs.declared.record.Step.{Step}
use Rattle.samoa_model.specs.declared.script.Script.{Script}
use Rattle.samoa_serial.specs.declared.call.Call.{Call}
use Rattle.samoa_serial.specs.Alone.{next_step}
use Rattle.samoa_serial.specs.Ticks.{admitted}
use Rattle.samoa_invariant.specs.Play.{Play}
use Rattle.samoa_invariant.specs.State as model
use Rattle.samoa_invariant.specs.State.{AllEnded, Core}
use Rattle.samoa_invariant.specs.Runs.{CanMake, IsRising, IsRun, IsRunFrom, Trace, after_step, clear_at, cleared, is_clear, play, run_from, state}
use Rattle.samoa_journal.specs.Finished.{IsFinished, OpensTicks, after, most_cells, replayed}
use Rattle.samoa_journal.proofs.Ends.{all-ended, ended_all, ends, ends_at, ends_here, ends_later, ends_rise}

-- the core with other cells held
abbrev holding : ℕ → Core → Core
holding c core = record core { cells = c }

module _ (P : Play) (m : ℕ) where
  abbrev Q : Play
  Q = record P { most_cells = m }

  -- the cells that a core with others holds after a step
  abbrev held_after : Core → ℕ → Step → ℕ
  held_after core c (Step.Admit comp) = c + P.cells core.count
  held_after core c (Step.Enter comp micro) = c
  held_after core c (Step.Leave comp) = c
  held_after core c (Step.Abandon comp) = c
  held_after core c (Step.Release comp micro) = c
  held_after core c (Step.End comp) = c

  left_same : (core : Core) (c k : ℕ) (next : Option (Call × Moment)) → model.leave_next Q (holding c core) k next ≡ holding c (model.leave_next P core k next)
  left_same core c k None = refl
  left_same core c k (Some next) = refl

  abandoned_same : (core : Core) (c k : ℕ) (next : Option (Call × Moment)) → model.abandon_next Q (holding c core) k next ≡ holding c (model.abandon_next P core k next)
  abandoned_same core c k None = refl
  abandoned_same core c k (Some next) = refl

  step_same : (core : Core) (c : ℕ) (step : Step) → after_step Q (holding c core) step ≡ holding (held_after core c step) (after_step P core step)
  step_same core c (Step.Admit comp) = refl
  step_same core c (Step.Enter comp micro) = refl
  step_same core c (Step.Leave comp) = left_same core c (comp - 1) (next_step (core.comp (comp - 1)))
  step_same core c (Step.Abandon comp) = abandoned_same core c (comp - 1) (next_step (core.comp (comp - 1)))
  step_same core c (Step.Release comp micro) = refl
  step_same core c (Step.End comp) = refl

  turn_same : (core : Core) (c k p : ℕ) → model.HasTurn P core k p → model.HasTurn Q (holding c core) k p
  turn_same core c k p t = record { admitted = t.admitted; turn = t.turn }

  leave_enabled : (core : Core) (c k : ℕ) → model.CanLeave P core k → model.CanLeave Q (holding c core) k
  leave_enabled core c k e = record { slot = e.slot; out = record { admitted = e.out.admitted; out = e.out.out } }

  can_make : (core : Core) (c : ℕ) → P.most_cells ≤ m → c ≤ core.cells → (step : Step) → CanMake P core step → CanMake Q (holding c core) step
  can_make core c more fewer (Step.Admit comp) can = record {
    number = can.number;
    enabled = record { room = can.enabled.room; cells = omega (arith, can.enabled.cells, more, fewer) };
  }
  can_make core c more fewer (Step.Enter comp micro) can =
      let e = can.enabled in
      record {
        number = can.number;
        enabled = record { next = e.next; not_out = e.not_out; turn = turn_same core c (comp - 1) micro e.turn; home = e.home; running = e.running };
      }
  can_make core c more fewer (Step.Leave comp) can = record { number = can.number; enabled = leave_enabled core c (comp - 1) can.enabled }
  can_make core c more fewer (Step.Abandon comp) can = record { number = can.number; enabled = leave_enabled core c (comp - 1) can.enabled }
  can_make core c more fewer (Step.Release comp micro) can = record {
    number = can.number;
    enabled = record { turn = turn_same core c (comp - 1) micro can.enabled.turn; quiet = can.enabled.quiet };
  }
  can_make core c more fewer (Step.End comp) can =
      let e = can.enabled in
      record { number = can.number; enabled = record { admitted = e.admitted; not_ended = e.not_ended; idle = e.idle; past = e.past } }

  held_few : (core : Core) (c : ℕ) → c ≤ core.cells → (step : Step) → held_after core c step ≤ (after_step P core step).cells
  held_few core c fewer (Step.Admit comp) = omega (arith, fewer)
  held_few core c fewer (Step.Enter comp micro) = fewer
  held_few core c fewer (Step.Leave comp) = go (next_step (core.comp (comp - 1)))
    where
      go : (next : Option (Call × Moment)) → c ≤ (model.leave_next P core (comp - 1) next).cells
      go None = fewer
      go (Some next) = fewer
  held_few core c fewer (Step.Abandon comp) = go (next_step (core.comp (comp - 1)))
    where
      go : (next : Option (Call × Moment)) → c ≤ (model.abandon_next P core (comp - 1) next).cells
      go None = fewer
      go (Some next) = fewer
  held_few core c fewer (Step.Release comp micro) = fewer
  held_few core c fewer (Step.End comp) = fewer

  module _ (clears others : List ℕ) where
    -- the clear that one makes and the other doesn't
    abbrev cells_at : Bool → ℕ → ℕ
    cells_at true c = zero
    cells_at false c = c

    clear_same : (core : Core) (c made : ℕ) → clear_at others made (holding c core) ≡ holding (cells_at (is_clear others made) c) (clear_at clears made core)
    clear_same core c made = go (is_clear others made) (is_clear clears made)
      where
        go : (b d : Bool) → (if b then cleared (holding c core) else holding c core) ≡ holding (cells_at b c) (if d then cleared core else core)
        go true true = refl
        go true false = refl
        go false true = refl
        go false false = refl

    -- the same steps lead to the same, but for the cells
    pub record IsSame (a b : Core) : Type 0 where
      pub cells : ℕ
      pub is : b ≡ holding cells a

    pub run_same : (made : ℕ) (core : Core) (c : ℕ) (steps : List Step) → IsSame (run_from P clears made core steps) (run_from Q others made (holding c core) steps)
    run_same made core c [] = record { cells = cells_at (is_clear others made) c; is = clear_same core c made }
    run_same made core c (step ∷ later) =
        let here : Core = clear_at clears made core in
        let d : ℕ = cells_at (is_clear others made) c in
        let e : ℕ = held_after here d step in
        let rest : IsSame (run_from P clears (suc made) (after_step P here step) later) (run_from Q others (suc made) (holding e (after_step P here step)) later) =
        run_same (suc made) (after_step P here step) e later in
        record {
          cells = rest.cells;
          is =
              ap (λ (x : Core). run_from Q others (suc made) (after_step Q x step) later) (clear_same core c made)
              ∙ (ap (λ (x : Core). run_from Q others (suc made) x later) (step_same here d step) ∙ rest.is);
        }

    -- cleared where the other is, and where all have ended: as many cells or fewer are held
    few_at : (b d : Bool) (core : Core) (c : ℕ) → c ≤ core.cells → (d ≡ true → b ≡ true) → cells_at b c ≤ (if d then cleared core else core).cells
    few_at true d core c fewer also = omega arith
    few_at false false core c fewer also = fewer
    few_at false true core c fewer also = absurd (false≢true (also refl))

    pub runs_same : P.most_cells ≤ m → (made : ℕ) (core : Core) (c : ℕ) → c ≤ core.cells → (steps : List Step) → IsRunFrom P clears made core steps
        → ((n : ℕ) → made ≤ n → is_clear others n ≡ is_clear (ends P clears made core steps) n) → IsRunFrom Q others made (holding c core) steps
    runs_same more made core c fewer [] run all = λ is. ended_all core (sym (ends_here P clears made core []) ∙ (sym (all made (omega arith)) ∙ is))
    runs_same more made core c fewer (step ∷ later) run all =
        let here : Core = clear_at clears made core in
        let d : ℕ = cells_at (is_clear others made) c in
        let also : is_clear clears made ≡ true → is_clear others made ≡ true =
        (λ is. all made (omega arith) ∙ (ends_here P clears made core (step ∷ later) ∙ all-ended core (run.0 is))) in
        let few : d ≤ here.cells = few_at (is_clear others made) (is_clear clears made) core c fewer also in (
          (λ is. ended_all core (sym (ends_here P clears made core (step ∷ later)) ∙ (sym (all made (omega arith)) ∙ is))),
          subst (λ (x : Core). CanMake Q x step) (sym (clear_same core c made)) (can_make here d more few step run.1),
          subst (λ (x : Core). IsRunFrom Q others (suc made) x later) (sym (ap (λ (x : Core). after_step Q x step) (clear_same core c made) ∙ step_same here d step))
              (runs_same more (suc made) (after_step P here step) (held_after here d step) (held_few here d few step) later run.2
              (λ n above. all n (omega (arith, above)) ∙ ends_later P clears made n core step later (omega (arith, above)))),
        )

-- ---- so it makes a whole run
module _ (script : Script) (cells : ℕ) (clears : List ℕ) (journal : List Step) where
  abbrev made : Trace
  made = record { script = script; cells = cells; exts = admitted script; clears = clears; journal = journal }

  abbrev P : Play
  P = play made

  abbrev all : List ℕ
  all = ends P clears 0 (model.empty P) journal

  -- what the two cores stand at after the first n steps
  same : (n : ℕ) → IsSame P most_cells clears all (state (after n made)) (state (after n (replayed script all journal)))
  same n = run_same P most_cells clears all 0 (model.empty P) 0 (take n journal)

  ended_there : (n : ℕ) → AllEnded (state (after n made)) → AllEnded (state (after n (replayed script all journal)))
  ended_there n ended = subst AllEnded (sym (same n).is) ended

  ended_here : (n : ℕ) → AllEnded (state (after n (replayed script all journal))) → AllEnded (state (after n made))
  ended_here n ended = subst AllEnded (same n).is ended

  whole : IsSame P most_cells clears all (state made) (state (replayed script all journal))
  whole = run_same P most_cells clears all 0 (model.empty P) 0 journal

  pub finished : IsRun made → cells ≤ most_cells → OpensTicks made → (state made).count ≡ length (admitted script) → AllEnded (state made) → IsFinished script journal
  finished run fewer ticks count ended = record {
    clears = all;
    run = record {
      steps = runs_same P most_cells clears all fewer 0 (model.empty P) 0 (omega arith) journal run.steps (λ n above. refl);
      clears = subst (λ (most : ℕ). IsRising 0 all most) (omega arith) (ends_rise P clears 0 (model.empty P) journal);
    };
    always = λ n within all_ended.
        ap (λ (k : ℕ). is_clear all k) (omega arith) ∙ (ends_at P clears 0 (model.empty P) journal n within ∙ all-ended (state (after n made)) (ended_here n all_ended));
    ticks = λ n comp is first. ended_there n (ticks n comp is first);
    admitted = ap (λ (core : Core). core.count) whole.is ∙ count;
    ended = subst AllEnded (sym whole.is) ended;
  }

pub finished_run : (t : Trace) → IsRun t → t.cells ≤ most_cells → t.exts ≡ admitted t.script → OpensTicks t → (state t).count ≡ length t.exts → AllEnded (state t)
    → IsFinished t.script t.journal
finished_run t run fewer exts ticks count ended =
    finished t.script t.cells t.clears t.journal
    (subst (λ (xs : List Ext). IsRun (record t { exts = xs })) exts run) fewer
    (subst (λ (xs : List Ext). OpensTicks (record t { exts = xs })) exts ticks)
    (subst (λ (xs : List Ext). (state (record t { exts = xs })).count ≡ length xs) exts count)
    (subst (λ (xs : List Ext). AllEnded (state (record t { exts = xs }))) exts ended)
