-- What a run on workers comes to.
use Rattle.std.specs.Prelude.{◌≡◌, ◌⊎◌, ℕ, Bool, false, List, [], Option}
use Rattle.samoa_model.specs.declared.script.Script.{Script}
use Rattle.samoa_serial.specs.LimitedReport.{report_in_full}
use Rattle.samoa_ends.specs.Pieces.{AppendsPrefix}
use Rattle.samoa_invariant.specs.Runs.{Trace}
use Rattle.samoa_journal.specs.Finished.{IsComplete, IsFinished}
use Rattle.samoa_journal.specs.Parts.{IsPacked}
use Rattle.samoa_ticks.specs.Running.{run_text}
use Rattle.samoa_run.specs.Due.{run_status}
use Rattle.samoa_run.specs.Serving.{Answers}

-- a script was run in this core, which had so many cells. What is written is the report, and after it the core's journal
-- where that is asked for, or a prefix of that. The journal is a whole run of all that the script admits; where the run came
-- to no end, nothing is written after the report. It goes in parts, each of them the longest prefix of what was left of its
-- tick that fits the cells
pub record RunsTo (script : Script) (calls journal : Bool) (given : ℕ) (core : Trace) (old new : Option (List ℕ)) (status : ℕ) : Type 0 where
  pub written : Answers (run_status script) (run_text script calls journal core.journal) old new status
  pub begun : AppendsPrefix old new (report_in_full script calls) ⊎ IsFinished script core.journal
  pub finished : status ≡ run_status script → IsFinished script core.journal
  pub complete : status ≡ 0 → IsComplete script core.journal
  pub parts : status ≡ run_status script → IsPacked false core []
  pub cells : status ≡ run_status script → core.cells ≡ given
  pub statuses : (status ≡ run_status script) ⊎ ((status ≡ 5) ⊎ (status ≡ 6))
