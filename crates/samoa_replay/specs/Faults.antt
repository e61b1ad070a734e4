-- Why a journal isn't accepted.
use Rattle.std.specs.Prelude.{◌≡◌, ℕ, ◌+◌, ◌-◌, ◌<◌, ◌≤◌, true, false, List, length, take}
use Rattle.samoa_model.specs.declared.record.Step.{Step}
use Rattle.samoa_model.specs.declared.script.Script.{Script}
use Rattle.samoa_invariant.specs.State.{Core}
use Rattle.samoa_invariant.specs.Runs.{state}
use Rattle.samoa_journal.specs.Finished.{IsComplete, IsFinished, replayed}
use Rattle.samoa_replay.specs.Begun.{IsBegun}
use Rattle.samoa_replay.specs.declared.fault.ReplayFault.{ReplayFault}
use Rattle.samoa_replay.specs.declared.fault.ReplayFault.TheVariants.{Memory, NotEnabled, Trailing, Unfinished}

-- the step of a line isn't enabled: the lines before it begin a journal, which isn't finished, and with it they don't. Lines
-- are counted from 1
pub record IsNotEnabled (script : Script) (steps : List Step) (line : ℕ) : Type 0 where
  pub before : ℕ
  pub counted : line ≡ before + 1
  pub within : line ≤ length steps
  pub begun : IsBegun script (take before steps)
  pub unfinished : IsFinished script (take before steps) → ⊥
  pub wrong : IsBegun script (take line steps) → ⊥

-- the lines before a line are a finished journal
pub record IsTrailing (script : Script) (steps : List Step) (line : ℕ) : Type 0 where
  pub before : ℕ
  pub counted : line ≡ before + 1
  pub within : line ≤ length steps
  pub finished : IsFinished script (take before steps)

-- the least computation that hasn't ended; where all that were admitted have, the number after these
pub record IsLeastUnended (core : Core) (comp : ℕ) : Type 0 where
  pub first : 0 < comp
  pub most : comp ≤ core.count + 1
  pub here : comp ≤ core.count → core.ended (comp - 1) ≡ false
  pub before : (k : ℕ) → k + 1 < comp → core.ended k ≡ true

-- the steps begin a journal, which isn't complete, and the computation is the least that hasn't ended after them
pub record IsUnfinished (script : Script) (steps : List Step) (comp : ℕ) : Type 0 where
  pub begun : IsBegun script steps
  pub incomplete : IsComplete script steps → ⊥
  pub least : IsLeastUnended (state (replayed script begun.clears steps)) comp

-- what each fault says of a journal. Want of memory is free
abbrev pub IsFaultOf : Script → List Step → ReplayFault → Type 0
IsFaultOf script steps (NotEnabled line) = IsNotEnabled script steps line
IsFaultOf script steps (Unfinished comp) = IsUnfinished script steps comp
IsFaultOf script steps (Trailing line) = IsTrailing script steps line
IsFaultOf script steps Memory = Unit {0}
