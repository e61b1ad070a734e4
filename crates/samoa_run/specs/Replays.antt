-- What a replay answers and writes.
use Rattle.std.specs.Prelude.{ℕ, ◌≡◌, ◌≢◌, ◌≤◌, ◌<◌, ◌⊎◌, ◌==◌, false, List, [], ◌∷◌, ◌++◌, All, length, codes, decimal, Option, Some, if◌then◌else◌}
use Rattle.std.specs.Io.KnownBytes.{Appends, IsAtEnd}
use Rattle.samoa_model.specs.declared.record.Step.{Step}
use Rattle.samoa_model.specs.declared.script.Script.{Script}
use Rattle.samoa_ends.specs.Causes.{Rose}
use Rattle.samoa_serial.specs.LimitedReport.{report_in_full}
use Rattle.samoa_grammar.specs.Held.{Holds}
use Rattle.samoa_report.specs.Steps.{steps_text}
use Rattle.samoa_report.specs.StepFields.{FitsStep}
use Rattle.samoa_report.specs.BadLine.{IsBadLine}
use Rattle.samoa_script.specs.declared.fault.ScriptFault.{ScriptFault}
use Rattle.samoa_script.specs.declared.fault.ScriptFault.TheVariants.{TooLong}
use Rattle.samoa_journal.specs.Finished.{IsComplete}
use Rattle.samoa_replay.specs.Faults as faults
use Rattle.samoa_replay.specs.declared.fault.ReplayFault.{ReplayFault}
use Rattle.samoa_replay.specs.declared.fault.ReplayFault.TheVariants.{Memory, NotEnabled, Trailing, Unfinished}
use Rattle.samoa_run.specs.Readings.{IsFaultOf}
use Rattle.samoa_run.specs.declared.reading.TheConstants.{REPLAY_LIMIT}
use Rattle.samoa_run.specs.declared.status.Status.{Status}
use Rattle.samoa_run.specs.declared.status.Status.TheVariants as statuses
use Rattle.samoa_run.specs.declared.status.Status.TheVariants.{Done, NotReplayed, Refused, SinkFailed, SourceFailed}
use Rattle.samoa_run.specs.Statuses.{number}
use Rattle.samoa_run.specs.Words.{is_replay}
use Rattle.samoa_run.specs.Due.{fault_line, is_memory}
use Rattle.samoa_run.specs.Serving.{Answers, Ends, NoFault}

-- the script stands before the first line feed of an input, and the journal after it. Without one all of it is the script
abbrev pub script_part : List ℕ → List ℕ
script_part [] = []
script_part (c ∷ cs) = if c == 10 then [] else c ∷ script_part cs

abbrev pub journal_part : List ℕ → List ℕ
journal_part [] = []
journal_part (c ∷ cs) = if c == 10 then cs else journal_part cs

-- what holds the script, for these words
abbrev pub script_text : List (List ℕ) → List ℕ → List ℕ
script_text words input = if is_replay words then script_part input else input

-- the journal is the lines of these steps, whose numbers have 32 bits
pub record IsJournalOf (journal : List ℕ) (steps : List Step) : Type 0 where
  pub fit : All FitsStep steps
  pub is : journal ≡ steps_text steps

-- the line of a journal that isn't accepted: why, and at which line or computation
abbrev pub replay_line : List ℕ → ℕ → List ℕ
replay_line cause at = codes "! replay " ++ (cause ++ (codes " " ++ (decimal at ++ codes "\n")))

abbrev pub journal_fault_line : ReplayFault → List ℕ
journal_fault_line (NotEnabled line) = replay_line (codes "NotEnabled") line
journal_fault_line (Unfinished comp) = replay_line (codes "Unfinished") comp
journal_fault_line (Trailing line) = replay_line (codes "Trailing") line
journal_fault_line Memory = []

-- what is due for a fault of a script, which is no want of memory
abbrev pub IsRefusal : ScriptFault → ℕ → List ℕ → Type 0
IsRefusal fault status text = (is_memory fault ≡ false) × (status ≡ number Refused) × (text ≡ fault_line fault)

-- what is due for the steps of a journal: the report where they are a complete one, and else the line of their fault
pub data IsDueForSteps (script : Script) (steps : List Step) (status : ℕ) (text : List ℕ) : Type 0 where
  complete : IsComplete script steps → status ≡ number Done → text ≡ report_in_full script false → IsDueForSteps script steps status text
  faulty : (fault : ReplayFault) → faults.IsFaultOf script steps fault → fault ≢ Memory → status ≡ number NotReplayed → text ≡ journal_fault_line fault
      → IsDueForSteps script steps status text

-- what is due for a journal: a bad line comes before other faults
pub data IsDueForJournal (script : Script) (journal : List ℕ) (status : ℕ) (text : List ℕ) : Type 0 where
  bad_line : (line : ℕ) → IsBadLine journal line → status ≡ number NotReplayed → text ≡ replay_line (codes "BadLine") line → IsDueForJournal script journal status text
  in_lines : (steps : List Step) → IsJournalOf journal steps → IsDueForSteps script steps status text → IsDueForJournal script journal status text

-- what is due for an input with a script and a journal: at most one status, and one text
pub data IsDueFor (input : List ℕ) (status : ℕ) (text : List ℕ) : Type 0 where
  too_long : REPLAY_LIMIT < length input → status ≡ number Refused → text ≡ fault_line TooLong → IsDueFor input status text
  refused : (fault : ScriptFault) → length input ≤ REPLAY_LIMIT → IsFaultOf (script_part input) fault → status ≡ number Refused → text ≡ fault_line fault
      → IsDueFor input status text
  held : (script : Script) → length input ≤ REPLAY_LIMIT → Holds (script_part input) script → IsDueForJournal script (journal_part input) status text → IsDueFor input status text

-- a status and a text that are due were answered, or nothing was written, as a read failed or there was no memory
pub data Replies (is_due : ℕ → List ℕ → Type 0) (old new : Option (List ℕ)) (status : ℕ) : Type 0 where
  told : (due : ℕ) (text : List ℕ) → is_due due text → Answers due text old new status → Replies is_due old new status
  silent : (status ≡ number SourceFailed) ⊎ (status ≡ number statuses.Memory) → Appends old new [] → Replies is_due old new status

-- what was read was answered
pub record Gives (is_due : ℕ → List ℕ → Type 0) (old new : Option (List ℕ)) (faults faults_after : ℕ) (status : Status) : Type 0 where
  pub replies : Replies is_due old new (number status)
  pub sink_failed : status ≡ SinkFailed → Rose faults faults_after
  pub not_source : status ≢ SourceFailed

-- the statuses that are due
abbrev pub IsReply : ℕ → Type 0
IsReply status = (status ≡ number Done) ⊎ ((status ≡ number Refused) ⊎ (status ≡ number NotReplayed))

-- a journal was replayed with this status
pub record Replays (ends : Ends) (status : ℕ) : Type 0 where
  pub replies : (input : List ℕ) → ends.left ≡ Some input → Replies (IsDueFor input) ends.written ends.written_after status
  pub answers : (input : List ℕ) (due : ℕ) (text : List ℕ) → ends.left ≡ Some input → IsDueFor input due text → Answers due text ends.written ends.written_after status
  pub cause : (input : List ℕ) → ends.left ≡ Some input → IsReply status → (text : List ℕ) × IsDueFor input status text
  pub complete : (input : List ℕ) (due : ℕ) (text : List ℕ) → ends.left ≡ Some input → IsDueFor input due text → NoFault ends → (status ≡ due) ⊎ (status ≡ number statuses.Memory)
  pub read : (status ≡ number Done) ⊎ (status ≡ number NotReplayed) → IsAtEnd ends.left_after
  pub refused_read : (input : List ℕ) → ends.left ≡ Some input → length input ≤ REPLAY_LIMIT → status ≡ number Refused → IsAtEnd ends.left_after
  pub source_failed : status ≡ number SourceFailed → Rose ends.source_faults ends.source_faults_after
  pub sink_failed : status ≡ number SinkFailed → Rose ends.sink_faults ends.sink_faults_after
  pub statuses : IsReply status ⊎ ((status ≡ number SourceFailed) ⊎ ((status ≡ number SinkFailed) ⊎ (status ≡ number statuses.Memory)))
