-- Journals that are whole runs of a script.
use Rattle.std.specs.Prelude.{◌≡◌, ◌≢◌, ◌⊎◌, ℕ, ◌-◌, ◌≤◌, List, length, take, slice_get, Some, true, false}
use Rattle.samoa_model.specs.declared.record.Ext.{Ext}
use Rattle.samoa_model.specs.declared.record.Step.{Step}
use Rattle.samoa_model.specs.declared.script.Script.{Script}
use Rattle.samoa_serial.specs.Ticks.{admitted, is_limited}
use Rattle.samoa_invariant.specs.State.{AllEnded}
use Rattle.samoa_invariant.specs.Runs.{IsRun, Trace, ext_at, is_clear, state}

-- the most cells that a core is given
abbrev pub most_cells : ℕ
most_cells = 1048576

-- a core with the most cells after these steps, over all that a script admits
abbrev pub replayed : Script → List ℕ → List Step → Trace
replayed script clears journal =
    record { script = script; cells = most_cells; exts = admitted script; clears = clears; journal = journal }

-- a core after the first n of its steps
abbrev pub after : ℕ → Trace → Trace
after n t = record t { journal = take n t.journal }

-- the core is cleared wherever all have ended
abbrev pub ClearsAlways : Trace → Type 0
ClearsAlways t = (n : ℕ) → n ≤ length t.journal → AllEnded (state (after n t)) → is_clear t.clears n ≡ true

-- no computation before this one is of its tick
abbrev pub IsFirstOfTick : List Ext → ℕ → Type 0
IsFirstOfTick exts comp = (comp ≡ 1) ⊎ ((ext_at exts (comp - 2)).tick ≢ (ext_at exts (comp - 1)).tick)

-- the first computation of each tick is admitted only where all earlier ones have ended
abbrev pub OpensTicks : Trace → Type 0
OpensTicks t = (n comp : ℕ) → slice_get t.journal n ≡ Some (Step.Admit comp) → IsFirstOfTick t.exts comp → AllEnded (state (after n t))

-- the journal is a whole run of all that the script admits, in a core with the most cells that is cleared wherever all
-- have ended, tick by tick
pub record IsFinished (script : Script) (journal : List Step) : Type 0 where
  pub clears : List ℕ
  pub run : IsRun (replayed script clears journal)
  pub always : ClearsAlways (replayed script clears journal)
  pub ticks : OpensTicks (replayed script clears journal)
  pub admitted : (state (replayed script clears journal)).count ≡ length (admitted script)
  pub ended : AllEnded (state (replayed script clears journal))

-- and the script admits no more than that
pub record IsComplete (script : Script) (journal : List Step) : Type 0 where
  pub finished : IsFinished script journal
  pub unlimited : is_limited script ≡ false
