-- What is due for an order: what is to be written, and with which status.
use Rattle.std.specs.Prelude.{◌≡◌, ◌⊎◌, ℕ, ◌++◌, Bool, true, false, List, [], nat_le, codes, decimal, Result, Ok, Err, if◌then◌else◌}
use Rattle.samoa_model.specs.declared.record.Step.{Step}
use Rattle.samoa_model.specs.declared.script.Script.{Script}
use Rattle.samoa_model.specs.Cells.{need}
use Rattle.samoa_serial.specs.LimitedReport.{report_in_full}
use Rattle.samoa_serial.specs.Ticks.{is_limited}
use Rattle.samoa_script.specs.declared.fault.ScriptFault.{ScriptFault}
use Rattle.samoa_script.specs.declared.fault.ScriptFault.TheVariants.{TooLong, NotJson, Missing, WrongForm, Unknown, Twice, Over, Memory}
use Rattle.serde_json.specs.Written.{compact_text}
use Rattle.samoa_print.specs.Canonical.{tree_of}
use Rattle.samoa_report.specs.Steps.{journal_text}
use Rattle.samoa_journal.specs.Finished.{IsFinished}
use Rattle.samoa_run.specs.declared.words.Order.{Order}
use Rattle.samoa_run.specs.declared.words.Order.TheVariants.{Run, Serial, Check}
use Rattle.samoa_ticks.specs.declared.stop.Stop.{Stop}
use Rattle.samoa_ticks.specs.declared.stop.Stop.TheVariants as stops
use Rattle.samoa_run.specs.declared.status.Status.TheVariants as statuses
use Rattle.samoa_run.specs.declared.status.Status.TheVariants.{Done, Refused, SinkFailed, Limited}
use Rattle.samoa_run.specs.Statuses.{number}

-- whether the cells that are given are enough for it
abbrev pub has_cells : Order → Script → Bool
has_cells (Run workers cells calls journal) script = nat_le (need script) cells
has_cells _ script = true

abbrev pub canonical_text : Script → List ℕ
canonical_text script = compact_text (tree_of script) ++ codes "\n"

-- what may be written for a run: its report, and after it, where that is asked for, the journal of a whole run
abbrev pub IsRunOutput : Bool → Script → Bool → List ℕ → Type 0
IsRunOutput false script calls text = text ≡ report_in_full script calls
IsRunOutput true script calls text = (journal : List Step) × (IsFinished script journal × (text ≡ report_in_full script calls ++ journal_text journal))

-- what may be written for a script
abbrev pub IsOutput : Order → Script → List ℕ → Type 0
IsOutput (Run workers cells calls journal) script text = IsRunOutput journal script calls text
IsOutput (Serial calls) script text = text ≡ report_in_full script calls
IsOutput Check script text = text ≡ canonical_text script

-- of what a prefix may be written where a write fails or memory is wanting: of an output, or of a report after which no
-- journal was begun
abbrev pub IsBegun : Order → Script → List ℕ → Type 0
IsBegun (Run workers cells calls journal) script text = (text ≡ report_in_full script calls) ⊎ IsRunOutput journal script calls text
IsBegun order script text = IsOutput order script text

-- the cells that are given, and those that are needed
abbrev pub few_cells : ℕ → ℕ → List ℕ
few_cells cells needed = codes "! cells " ++ (decimal cells ++ (codes " " ++ (decimal needed ++ codes "\n")))

-- what is written for a script for which the cells aren't enough; other orders have none
abbrev pub turned_away_line : Order → Script → List ℕ
turned_away_line (Run workers cells calls journal) script = few_cells cells (need script)
turned_away_line _ script = []

abbrev pub is_memory : ScriptFault → Bool
is_memory Memory = true
is_memory _ = false

-- a fault by its name, and with what it names
abbrev pub fault_text : ScriptFault → List ℕ
fault_text TooLong = codes "TooLong"
fault_text NotJson = codes "NotJson"
fault_text (Missing key) = codes "Missing " ++ key
fault_text (WrongForm key) = codes "WrongForm " ++ key
fault_text (Unknown name) = codes "Unknown " ++ name
fault_text (Twice name) = codes "Twice " ++ name
fault_text (Over name limit) = codes "Over " ++ (name ++ (codes " " ++ decimal limit))
fault_text Memory = codes "Memory"

abbrev pub fault_line : ScriptFault → List ℕ
fault_line fault = codes "! script " ++ (fault_text fault ++ codes "\n")

-- the status of a run that was written, which the limit of computations may have ended
abbrev pub status_of_run : Bool → ℕ
status_of_run limited = if limited then number Limited else number Done

abbrev pub run_status : Script → ℕ
run_status script = status_of_run (is_limited script)

-- the status where a script was treated as ordered
abbrev pub done_status : Order → Script → ℕ
done_status (Run workers cells calls journal) script = run_status script
done_status (Serial calls) script = run_status script
done_status Check script = number Done

-- the status that is due for a script, where the cells are enough or not, and what may be written then
abbrev pub status_if : Bool → Order → Script → ℕ
status_if true order script = done_status order script
status_if false order script = number Refused

abbrev pub IsTreated : Bool → Order → Script → List ℕ → Type 0
IsTreated true order script text = IsOutput order script text
IsTreated false order script text = text ≡ turned_away_line order script

abbrev pub IsTreatedPartly : Bool → Order → Script → List ℕ → Type 0
IsTreatedPartly true order script text = IsBegun order script text
IsTreatedPartly false order script text = text ≡ turned_away_line order script

-- the status that is due for what was read, and what may be written, or of what a prefix
abbrev pub due_status : Order → Result Script ScriptFault → ℕ
due_status order (Ok script) = status_if (has_cells order script) order script
due_status order (Err fault) = number Refused

abbrev pub IsAnswerTo : Order → Result Script ScriptFault → List ℕ → Type 0
IsAnswerTo order (Ok script) text = IsTreated (has_cells order script) order script text
IsAnswerTo order (Err fault) text = text ≡ fault_line fault

abbrev pub IsPartlyAnswerTo : Order → Result Script ScriptFault → List ℕ → Type 0
IsPartlyAnswerTo order (Ok script) text = IsTreatedPartly (has_cells order script) order script text
IsPartlyAnswerTo order (Err fault) text = text ≡ fault_line fault

-- the status that a run ends with, of which it is known whether the limit ended it
abbrev pub ended_with : Result Bool Stop → ℕ
ended_with (Ok limited) = status_of_run limited
ended_with (Err stops.Failed) = number SinkFailed
ended_with (Err stops.Memory) = number statuses.Memory
