-- Why a line of a journal isn't accepted after the lines before it.
use Rattle.std.specs.Prelude.{◌≡◌, ℕ, List, [], ◌∷◌, ◌++◌}
use Rattle.samoa_model.specs.declared.record.Step.{Step}
use Rattle.samoa_model.specs.declared.script.Script.{Script}
use Rattle.samoa_journal.specs.Finished.{IsFinished}
use Rattle.samoa_replay.specs.Begun.{IsBegun}
use Rattle.samoa_replay.specs.declared.fault.ReplayFault.{ReplayFault}
use Rattle.samoa_replay.specs.declared.fault.ReplayFault.TheVariants.{Memory, NotEnabled, Trailing, Unfinished}

-- the lines before begin a journal that isn't finished, and with the step they don't
pub record IsWrongAfter (script : Script) (before : List Step) (step : Step) : Type 0 where
  pub begun : IsBegun script before
  pub unfinished : IsFinished script before → ⊥
  pub wrong : IsBegun script (before ++ step ∷ []) → ⊥

abbrev pub IsFaultAfter : Script → List Step → Step → ℕ → ReplayFault → Type 0
IsFaultAfter script before step line (NotEnabled at) = (at ≡ line) × IsWrongAfter script before step
IsFaultAfter script before step line (Unfinished comp) = ⊥
IsFaultAfter script before step line (Trailing at) = (at ≡ line) × IsFinished script before
IsFaultAfter script before step line Memory = Unit {0}
