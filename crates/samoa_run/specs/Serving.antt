-- What a call of `serve` answers and writes.
use Rattle.std.specs.Prelude.{ℕ, ◌≡◌, ◌≤◌, ◌⊎◌, true, false, List, [], length, Option, Some, Ok}
use Rattle.std.specs.Io.KnownBytes.{Appends, IsAtEnd}
use Rattle.samoa_ends.specs.Causes.{Rose}
use Rattle.samoa_ends.specs.Pieces.{AppendsPrefix}
use Rattle.samoa_model.specs.declared.script.Script.{Script}
use Rattle.samoa_grammar.specs.Held.{Holds}
use Rattle.samoa_script.specs.declared.fault.ScriptFault.{ScriptFault}
use Rattle.samoa_run.specs.Readings.{IsFaultOf}
use Rattle.samoa_run.specs.declared.words.Order.{Order}
use Rattle.samoa_run.specs.declared.reading.TheConstants.{LIMIT}
use Rattle.samoa_run.specs.declared.status.Status.{Status}
use Rattle.samoa_run.specs.declared.status.Status.TheVariants.{Done, Refused, SourceFailed, SinkFailed, Memory, Limited}
use Rattle.samoa_run.specs.Statuses.{number}
use Rattle.samoa_run.specs.Due.{IsAnswerTo, IsBegun, IsOutput, IsPartlyAnswerTo, has_cells, done_status, due_status, turned_away_line, fault_line}

-- the status is due, or it says that a source or a sink failed or that there was no memory
abbrev pub IsDueOrFailed : ℕ → ℕ → Type 0
IsDueOrFailed due status =
    (status ≡ due) ⊎ ((status ≡ number SourceFailed) ⊎ ((status ≡ number SinkFailed) ⊎ (status ≡ number Memory)))

-- this text is due, with this status: all of it is written at that status, a prefix of it where a write failed or there was
-- no memory, and nothing where a read failed
pub record Answers (due : ℕ) (text : List ℕ) (old new : Option (List ℕ)) (status : ℕ) : Type 0 where
  pub whole : status ≡ due → Appends old new text
  pub sink_failed : status ≡ number SinkFailed → AppendsPrefix old new text
  pub memory : status ≡ number Memory → AppendsPrefix old new text
  pub source_failed : status ≡ number SourceFailed → Appends old new []
  pub no_other : IsDueOrFailed due status

-- one of the texts that are meant was written, all of it or a prefix
pub record Wrote (meant : List ℕ → Type 0) (old new : Option (List ℕ)) : Type 0 where
  pub text : List ℕ
  pub is_meant : meant text
  pub all : Appends old new text

pub record Began (meant : List ℕ → Type 0) (old new : Option (List ℕ)) : Type 0 where
  pub text : List ℕ
  pub is_meant : meant text
  pub part : AppendsPrefix old new text

-- one of the texts that are meant is due, with this status. Where a write failed or there was no memory, a prefix of one of
-- these, or of another that may be begun
pub record AnswersOne (due : ℕ) (meant begun : List ℕ → Type 0) (old new : Option (List ℕ)) (status : ℕ) : Type 0 where
  pub whole : status ≡ due → Wrote meant old new
  pub sink_failed : status ≡ number SinkFailed → Began begun old new
  pub memory : status ≡ number Memory → Began begun old new
  pub source_failed : status ≡ number SourceFailed → Appends old new []
  pub no_other : IsDueOrFailed due status

-- a script that is held was treated as ordered, with this status
pub record Treats (order : Order) (script : Script) (old new : Option (List ℕ)) (faults faults_after : ℕ) (status : Status) : Type 0 where
  pub written : AnswersOne (due_status order (Ok script)) (IsAnswerTo order (Ok script)) (IsPartlyAnswerTo order (Ok script)) old new (number status)
  pub statuses : (number status ≡ due_status order (Ok script)) ⊎ ((status ≡ SinkFailed) ⊎ (status ≡ Memory))
  pub sink_failed : status ≡ SinkFailed → Rose faults faults_after

-- an input that is refused: it has a fault, or the cells aren't enough for the script that it holds
pub data IsRefused (order : Order) (input : List ℕ) : Type 0 where
  faulty : (fault : ScriptFault) → IsFaultOf input fault → IsRefused order input
  turned_away : (script : Script) → Holds input script → has_cells order script ≡ false → IsRefused order input

-- an end of the work: what source and sink tell before and after, and their counts of faults
pub record Ends : Type 0 where
  pub left : Option (List ℕ)
  pub left_after : Option (List ℕ)
  pub source_faults : ℕ
  pub source_faults_after : ℕ
  pub written : Option (List ℕ)
  pub written_after : Option (List ℕ)
  pub sink_faults : ℕ
  pub sink_faults_after : ℕ

-- no count of faults rose
pub record NoFault (ends : Ends) : Type 0 where
  pub source : ¬ Rose ends.source_faults ends.source_faults_after
  pub sink : ¬ Rose ends.sink_faults ends.sink_faults_after

-- an order was carried out with this status
pub record Obeys (order : Order) (ends : Ends) (status : ℕ) : Type 0 where
  pub done : (input : List ℕ) (script : Script) → ends.left ≡ Some input → Holds input script → has_cells order script ≡ true
      → AnswersOne (done_status order script) (IsOutput order script) (IsBegun order script) ends.written ends.written_after status
  pub turned_away : (input : List ℕ) (script : Script) → ends.left ≡ Some input → Holds input script → has_cells order script ≡ false
      → Answers (number Refused) (turned_away_line order script) ends.written ends.written_after status
  pub refused : (input : List ℕ) (fault : ScriptFault) → ends.left ≡ Some input → IsFaultOf input fault
      → Answers (number Refused) (fault_line fault) ends.written ends.written_after status
  pub refused_only : (input : List ℕ) → ends.left ≡ Some input → status ≡ number Refused → IsRefused order input
  pub complete : (input : List ℕ) (script : Script) → ends.left ≡ Some input → Holds input script → has_cells order script ≡ true
      → NoFault ends → (status ≡ done_status order script) ⊎ (status ≡ number Memory)
  pub complete_refused : (input : List ℕ) → ends.left ≡ Some input → IsRefused order input
      → NoFault ends → (status ≡ number Refused) ⊎ (status ≡ number Memory)
  pub read : (status ≡ number Done) ⊎ (status ≡ number Limited) → IsAtEnd ends.left_after
  pub refused_read : (input : List ℕ) → ends.left ≡ Some input → length input ≤ LIMIT → status ≡ number Refused → IsAtEnd ends.left_after
  pub source_failed : status ≡ number SourceFailed → Rose ends.source_faults ends.source_faults_after
  pub sink_failed : status ≡ number SinkFailed → Rose ends.sink_faults ends.sink_faults_after
  pub statuses : (status ≡ number Done) ⊎ ((status ≡ number Limited) ⊎ IsDueOrFailed (number Refused) status)
