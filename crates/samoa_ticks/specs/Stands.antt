-- How far a report is written.
use Rattle.std.specs.Prelude.{◌≡◌, ◌<◌, ◌≤◌, ◌+◌, ℕ, false, List, length, take, drop, slice_get, Some}
use Rattle.samoa_model.specs.declared.record.Ext.{Ext}
use Rattle.samoa_model.specs.declared.script.Script.{Script}
use Rattle.samoa_model.specs.Cells.{cells_of}
use Rattle.samoa_serial.specs.Ticks.{is_limited_by, most_admitted}
use Rattle.samoa_invariant.specs.State.{AllEnded, NothingOut}
use Rattle.samoa_invariant.specs.Runs.{Trace, state}
use Rattle.samoa_control.specs.Later.{IsLater}
use Rattle.samoa_control.specs.Since.{cleared_comps}
use Rattle.samoa_journal.specs.Parts.{IsPacked}
use Rattle.samoa_ledger.specs.Gathering.{HasGathered}
use Rattle.samoa_ledger.specs.Left.{IsLeft}
use Rattle.samoa_ticks.specs.declared.report.Report.{Report}
use Rattle.samoa_ticks.specs.Running.{HasOpened, HasRun}

-- what is still to be run of the tick at hand
abbrev pub rest_of : Report → List Ext
rest_of report = drop report.next report.batch.items

-- all that the core was given has ended, is written and gathered, and was cleared away; the rest of the tick is left
pub record Stands (script : Script) (core : Trace) (report : Report) : Type 0 where
  pub has_run : HasRun script core.exts core report.totals
  pub gathered : HasGathered script core.exts report.net
  pub tick : report.net.tick ≡ report.tick
  pub left : IsLeft script core.exts report.tick (rest_of report)
  pub within : report.next ≤ length report.batch.items
  pub limited : report.limited ≡ is_limited_by most_admitted script report.tick
  pub packed : IsPacked report.alone core (rest_of report)

-- a part was admitted where a report stood, and has ended
pub record HasPartRun (script : Script) (core : Trace) (report : Report) (count : ℕ) : Type 0 where
  pub before : Trace
  pub opened : Trace
  pub stands : Stands script before report
  pub some : 0 < count
  pub within : count ≤ length (rest_of report)
  pub has_opened : HasOpened before (take count (rest_of report)) opened
  pub admitted : (state opened).count ≡ length opened.exts
  pub held : 0 < (state opened).cells
  pub longest : report.alone ≡ false → (ext : Ext) → slice_get (rest_of report) count ≡ Some ext → opened.cells < (state opened).cells + cells_of opened.script ext
  pub later : IsLater opened core
  pub cleared : cleared_comps core ≡ cleared_comps opened
  pub still_held : (state opened).cells ≤ (state core).cells
  pub all : AllEnded (state core)
  pub home : NothingOut (state core)
