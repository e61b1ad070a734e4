-- Runs of a core over a script and what is admitted: a journal of steps, with the clears between them. Computations are
-- numbered from 1 here, as in a journal, so that computation k stands at the place k - 1 of the model.
use Rattle.std.specs.Prelude.{◌≡◌, ℕ, suc, ◌+◌, ◌-◌, ◌<◌, ◌≤◌, min, List, [], ◌∷◌, ◌++◌, length, take, get_or, Bool, true, false, ◌||◌, ◌==◌, if◌then◌else◌, Some}
use Rattle.samoa_model.specs.declared.record.Cause.TheVariants.{Event}
use Rattle.samoa_model.specs.declared.record.Ending.TheVariants.{Cut}
use Rattle.samoa_model.specs.declared.record.Ext.{Ext}
use Rattle.samoa_model.specs.declared.record.Step.{Step}
use Rattle.samoa_model.specs.declared.script.Script.{Script}
use Rattle.samoa_model.specs.Cells.{cells_of}
use Rattle.samoa_model.specs.Scripts.{caused, decl_of, first_table, root_of}
use Rattle.samoa_serial.specs.State.{State, Registers}
use Rattle.samoa_serial.specs.Alone.{state_after}
use Rattle.samoa_serial.specs.Whole.{Ran}
use Rattle.samoa_serial.specs.SerialRun.{node_step, opening_states, serial}
use Rattle.samoa_invariant.specs.Play.{Play}
use Rattle.samoa_invariant.specs.State as model

-- what stands past the end of a list of admissions
abbrev pub no_ext : Ext
no_ext = record { node = record { 0 = 0 }; tick = 0; cause = Event (record { 0 = 0 }); args = [] }

-- what begins the computation at a place
abbrev pub ext_at : List Ext → ℕ → Ext
ext_at exts k = get_or exts k no_ext

-- what a script, so many cells and what is admitted fix of a run. No more than 100,000 are admitted
abbrev pub play_of : Script → ℕ → List Ext → Play
play_of script cells exts = record {
  first_states = opening_states script;
  first_tables = λ node. first_table script;
  node = λ k. (ext_at exts k).node.0;
  decl = λ k. (decl_of script (ext_at exts k)).decl;
  change = λ k. caused script (ext_at exts k).cause;
  step = λ k. node_step script (ext_at exts k).node.0;
  budget = λ k. (decl_of script (ext_at exts k)).budget;
  root = λ k. root_of script (ext_at exts k).cause;
  args = λ k. (ext_at exts k).args;
  cells = λ k. cells_of script (ext_at exts k);
  most_cells = cells;
  most = min (length exts) 100000;
}

-- a step of a journal, as the model has it
abbrev pub model_step : Step → model.Step
model_step (Step.Admit comp) = model.Step.Admit
model_step (Step.Enter comp micro) = model.Step.Enter (comp - 1) micro
model_step (Step.Leave comp) = model.Step.Leave (comp - 1)
model_step (Step.Abandon comp) = model.Step.Abandon (comp - 1)
model_step (Step.Release comp micro) = model.Step.Release (comp - 1) micro
model_step (Step.End comp) = model.Step.End (comp - 1)

-- the number that a step names: the next one for an Admit, and from 1 on
abbrev pub IsNumbered : model.Core → Step → Type 0
IsNumbered core (Step.Admit comp) = comp ≡ core.count + 1
IsNumbered core (Step.Enter comp micro) = 0 < comp
IsNumbered core (Step.Leave comp) = 0 < comp
IsNumbered core (Step.Abandon comp) = 0 < comp
IsNumbered core (Step.Release comp micro) = 0 < comp
IsNumbered core (Step.End comp) = 0 < comp

-- a step is enabled
pub record CanMake (P : Play) (core : model.Core) (step : Step) : Type 0 where
  pub number : IsNumbered core step
  pub enabled : model.IsEnabled P core (model_step step)

-- the core after a step
abbrev pub after_step : Play → model.Core → Step → model.Core
after_step P core step = model.made_by P core (model_step step)

-- an Enter, a Leave, a Release or an End
abbrev pub GoesOn : Step → Type 0
GoesOn step = model.IsForward (model_step step)

-- the core after a clear: no cell is held
abbrev pub cleared : model.Core → model.Core
cleared core = record core { cells = 0 }

-- whether a clear is made after so many steps
abbrev pub is_clear : List ℕ → ℕ → Bool
is_clear [] made = false
is_clear (c ∷ cs) made = (c == made) || is_clear cs made

-- the core after so many steps, with the clear that is made there, if any
abbrev pub clear_at : List ℕ → ℕ → model.Core → model.Core
clear_at clears made core = if is_clear clears made then cleared core else core

-- the core after these steps, of which so many were made before
abbrev pub run_from : Play → List ℕ → ℕ → model.Core → List Step → model.Core
run_from P clears made core [] = clear_at clears made core
run_from P clears made core (step ∷ later) = run_from P clears (suc made) (after_step P (clear_at clears made core) step) later

-- each step is enabled where it is made, and a clear is made only where all have ended
abbrev pub IsRunFrom : Play → List ℕ → ℕ → model.Core → List Step → Type 0
IsRunFrom P clears made core [] = is_clear clears made ≡ true → model.AllEnded core
IsRunFrom P clears made core (step ∷ later) =
    (is_clear clears made ≡ true → model.AllEnded core)
    × CanMake P (clear_at clears made core) step
    × IsRunFrom P clears (suc made) (after_step P (clear_at clears made core) step) later

-- a rising list of numbers, none below the one and none above the other
abbrev pub IsRising : ℕ → List ℕ → ℕ → Type 0
IsRising least [] most = Unit {0}
IsRising least (c ∷ cs) most = (least ≤ c) × (c ≤ most) × IsRising (suc c) cs most

-- what contracts see of a core: its script and its cells, what was admitted, the lengths of the journal at the clears, and
-- the journal
pub record Trace : Type 0 where
  pub script : Script
  pub cells : ℕ
  pub exts : List Ext
  pub clears : List ℕ
  pub journal : List Step

-- what the script, the cells and what was admitted fix
abbrev pub play : Trace → Play
play t = play_of t.script t.cells t.exts

-- the state of the core: the run of its journal over what was admitted
abbrev pub state : Trace → model.Core
state t = run_from (play t) t.clears 0 (model.empty (play t)) t.journal

-- the journal is a run: its steps were enabled and its clears were made only where all had ended
pub record IsRun (t : Trace) : Type 0 where
  pub steps : IsRunFrom (play t) t.clears 0 (model.empty (play t)) t.journal
  pub clears : IsRising 0 t.clears (length t.journal)

-- a step is enabled where the core stands
abbrev pub IsDue : Trace → Step → Type 0
IsDue t step = CanMake (play t) (state t) step

-- whether a handler step was abandoned
abbrev pub has_abandon : List Step → Bool
has_abandon [] = false
has_abandon (Step.Abandon comp ∷ later) = true
has_abandon (_ ∷ later) = has_abandon later

-- one more step
abbrev pub with_step : Trace → Step → Trace
with_step t step = record t { journal = t.journal ++ step ∷ [] }

-- one more external event, which no step has admitted yet
abbrev pub with_ext : Trace → Ext → Trace
with_ext t ext = record t { exts = t.exts ++ ext ∷ [] }

-- one more clear
abbrev pub with_clear : Trace → Trace
with_clear t = record t { clears = t.clears ++ length t.journal ∷ [] }

-- a core in which nothing was done
abbrev pub opening_trace : Script → ℕ → Trace
opening_trace script cells = record { script = script; cells = cells; exts = []; clears = []; journal = [] }

-- what stands for a computation that isn't there
abbrev pub no_ran : Ran
no_ran = record { world = record { states = λ p. Registers []; turns = []; books = record { units = 0; waiting = []; entries = [] } }; value = Cut }

-- computation number comp in the serial run of what was admitted
abbrev pub served_at : Trace → ℕ → Ran
served_at t comp = get_or (serial t.script t.exts).comps (comp - 1) no_ran

-- the state of a slot after the computations before number comp, and its own first n handler steps
abbrev pub serial_at : Trace → ℕ → ℕ → ℕ → ℕ → State
serial_at t comp n node p =
    state_after ((serial t.script (take (comp - 1) t.exts)).states node p) (take n (served_at t comp).world.turns) p

-- the entries and the ending of a computation are those of the serial run
pub record IsServed (t : Trace) (comp : ℕ) : Type 0 where
  pub entries : ((state t).comp (comp - 1)).entries ≡ (served_at t comp).world.entries
  pub ending : ((state t).comp (comp - 1)).answer ≡ Some (served_at t comp).value

-- the boxes are at the serial points of their owners; a slot in which none has its turn is past all that were admitted
pub record ArePoints (t : Trace) : Type 0 where
  pub owned : (comp p : ℕ) → 0 < comp → model.HasTurn (play t) (state t) (comp - 1) p
      → (state t).boxes ((play t).node (comp - 1)) p ≡ serial_at t comp ((state t).made (comp - 1)) ((play t).node (comp - 1)) p
  pub free : (node p : ℕ) → ((k : ℕ) → node ≡ (play t).node k → model.HasTurn (play t) (state t) k p → ⊥)
      → (state t).boxes node p ≡ (serial t.script (take (state t).count t.exts)).states node p
