-- What a run makes of the core.
use Rattle.std.specs.Prelude.{◌≡◌, ℕ, ◌+◌, ◌≤◌, Bool, List, [], ◌++◌, length, if◌then◌else◌}
use Rattle.samoa_model.specs.declared.record.Ext.{Ext}
use Rattle.samoa_model.specs.declared.script.Script.{Script}
use Rattle.samoa_model.specs.Cells.{need}
use Rattle.samoa_invariant.specs.State.{AllEnded, NothingOut}
use Rattle.samoa_invariant.specs.Runs.{Trace, state}
use Rattle.samoa_control.specs.Since.{cleared_comps}
use Rattle.samoa_ledger.specs.declared.totals.Totals.{Totals}
use Rattle.samoa_model.specs.declared.record.Step.{Step}
use Rattle.samoa_report.specs.Steps.{journal_text}
use Rattle.samoa_serial.specs.LimitedReport.{limit_text, report_in_full}
use Rattle.samoa_serial.specs.Ticks.{most_admitted}
use Rattle.samoa_ledger.specs.Written.{AreTotals, closing_text}
use Rattle.samoa_journal.specs.Parts.{admits, cells_for}

-- these were admitted to a core, and nothing else was done
pub record HasOpened (before : Trace) (more : List Ext) (after : Trace) : Type 0 where
  pub script : after.script ≡ before.script
  pub cells : after.cells ≡ before.cells
  pub exts : after.exts ≡ before.exts ++ more
  pub clears : after.clears ≡ before.clears
  pub journal : after.journal ≡ before.journal ++ admits (length before.exts) more
  pub held : (state after).cells ≡ (state before).cells + cells_for before.script more
  pub cleared : cleared_comps after ≡ cleared_comps before
  pub out : (node p : ℕ) → (state after).out node p ≡ (state before).out node p

-- these computations have ended and were cleared away, and their totals are counted. Any computation has room
pub record HasRun (script : Script) (past : List Ext) (core : Trace) (totals : Totals) : Type 0 where
  pub of_script : core.script ≡ script
  pub exts : core.exts ≡ past
  pub cleared : cleared_comps core ≡ length past
  pub all : AllEnded (state core)
  pub home : NothingOut (state core)
  pub none_held : (state core).cells ≡ 0
  pub room : need script ≤ core.cells
  pub counted : AreTotals script past totals

-- what a report ends with after these computations: the line of the limit where that ended the run, else the states that
-- stand and the totals
abbrev pub end_text : Script → Bool → List Ext → List ℕ
end_text script limited past = if limited then limit_text most_admitted else closing_text script past

-- the text of a run: its report, and these steps as the journal after it where that is asked for
abbrev pub run_text : Script → Bool → Bool → List Step → List ℕ
run_text script calls journal steps = report_in_full script calls ++ (if journal then journal_text steps else [])
