-- Steps that begin the journal of a whole run.
use Rattle.std.specs.Prelude.{ℕ, List}
use Rattle.samoa_model.specs.declared.record.Step.{Step}
use Rattle.samoa_model.specs.declared.script.Script.{Script}
use Rattle.samoa_invariant.specs.Runs.{IsRun}
use Rattle.samoa_journal.specs.Finished.{ClearsAlways, OpensTicks, replayed}

-- the steps are a run of what a script admits, in a core with the most cells that is cleared wherever all have ended, tick
-- by tick
pub record IsBegun (script : Script) (journal : List Step) : Type 0 where
  pub clears : List ℕ
  pub run : IsRun (replayed script clears journal)
  pub always : ClearsAlways (replayed script clears journal)
  pub ticks : OpensTicks (replayed script clears journal)
