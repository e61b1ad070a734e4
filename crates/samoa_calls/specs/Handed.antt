-- What contracts of a computation speak of beside the computation itself.
use Rattle.std.specs.Prelude.{◌≡◌, ◌≢◌, ⊤, ℕ, ◌<◌, ◌-◌, List, [], ◌∷◌, Option, Some, None, All, length, option_map}
use Rattle.samoa_model.specs.declared.handler.Reply.{Reply}
use Rattle.samoa_model.specs.declared.handler.Moment.{Moment}
use Rattle.samoa_model.specs.declared.handler.Outcome.{Outcome}
use Rattle.samoa_model.specs.declared.record.Ending.{Ending}
use Rattle.samoa_serial.specs.declared.call.Active.{Active}
use Rattle.samoa_serial.specs.declared.call.Waiting.{Waiting}
use Rattle.samoa_serial.specs.declared.call.Call.{Call}
use Rattle.samoa_model.specs.declared.ids.HandlerId.{HandlerId}
use Rattle.samoa_model.specs.declared.ids.MicroId.{MicroId}
use Rattle.samoa_serial.specs.World.{Books}
use Rattle.samoa_serial.specs.Calls.{Computation, first_answer, given}
use Rattle.samoa_serial.specs.Alone.{next_step}
use Rattle.samoa_model.specs.Scripts.{Table}
use Rattle.samoa_model.specs.declared.script.Script.{Script}
use Rattle.samoa_serial.specs.declared.call.Due.{Due}
use Rattle.samoa_serial.specs.Known.{IsOutcomeOf}

-- the call that waits for the reply has it; where none is active it is the answer, and the waiting calls still wait
abbrev pub handed : Books → Option Ending → List Active → Reply → Computation
handed books answer [] reply = record { active = []; books = books; answer = first_answer answer reply }
handed books answer (a ∷ rest) reply = record { active = given a.call a.due reply ∷ rest; books = books; answer = answer }

-- with one unit less
abbrev pub spent : Books → Books
spent books = record books { units = books.units - 1 }

-- the events that a list of waiting calls names are in the table, and so is the one that an outcome calls
abbrev pub AreNamed : Table → List Waiting → Type 0
AreNamed table waiting = All (λ w. w.event.0 < length table) waiting

abbrev pub CallsNamed : Table → Outcome → Type 0
CallsNamed table (Outcome.Call event arg frame) = event.0 < length table
CallsNamed table (Outcome.Later event arg frame) = event.0 < length table
CallsNamed table (Outcome.Done reply) = ⊤
CallsNamed table (Outcome.Send to event arg frame) = ⊤
CallsNamed table (Outcome.Deliver arg frame) = ⊤
CallsNamed table (Outcome.Change change arg frame) = ⊤

-- all that an outcome names is of a script that has as many events as the table
pub record IsNamed (table : Table) (outcome : Outcome) : Type 0 where
  pub script : Script
  pub events : length table ≡ length script.events
  pub names : IsOutcomeOf script outcome

-- what a bound counts is at the microprotocols 0 to 23
abbrev pub AreCounted : List HandlerId → Type 0
AreCounted handlers = All (λ (h : HandlerId). h.micro.0 < 24) handlers

abbrev pub IsCounted : Table → Type 0
IsCounted table = All AreCounted table

-- the microprotocol of a call that this outcome ends
abbrev pub ended_at : Call → Outcome → Option MicroId
ended_at c (Outcome.Done reply) = Some c.handler.micro
ended_at c _ = None

-- a computation that wasn't started, with this budget
abbrev pub fresh : ℕ → Computation
fresh budget = record { active = []; books = record { units = budget; waiting = []; entries = [] }; answer = None }

-- the microprotocol and the moment of the next handler step
abbrev pub next_moment : Computation → Option (MicroId × Moment)
next_moment comp = option_map (λ step. (step.0.handler.micro, step.1)) (next_step comp)

-- the answer, once no call is active and none waits
abbrev pub ending_at : List Active → List Waiting → Option Ending → Option Ending
ending_at [] [] answer = answer
ending_at active waiting answer = None

abbrev pub ending_of : Computation → Option Ending
ending_of comp = ending_at comp.active comp.waiting comp.answer

abbrev pub NothingLeft : Computation → Type 0
NothingLeft comp = (comp.active ≡ []) × (comp.waiting ≡ [])

-- an admission enters the root call or its refusal
abbrev pub IsStarted : Computation → Type 0
IsStarted comp = 0 < length comp.entries

-- the innermost active call is at its next moment, and waits for no reply
abbrev pub IsAtMoment : List Active → Type 0
IsAtMoment [] = ⊤
IsAtMoment (a ∷ rest) = (moment : Moment) × (a.due ≡ Due.Next moment)

-- a computation between two of its steps: while a call waits some call is active, the innermost one can go on, and where none is
-- active after a start an answer is there
pub record IsBetween (comp : Computation) : Type 0 where
  pub idle : comp.active ≡ [] → comp.waiting ≡ []
  pub next : IsAtMoment comp.active
  pub answered : comp.active ≡ [] → IsStarted comp → comp.answer ≢ None
