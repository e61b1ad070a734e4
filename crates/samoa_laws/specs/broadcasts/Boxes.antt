-- What the two broadcasts call upwards, and what was cast there.
use Rattle.std.specs.Prelude.{ℕ, ◌≡◌, ◌==◌, if◌then◌else◌, List, [], ◌∷◌, map, Option, Some, None}
use Rattle.samoa_serial.specs.Rows.{word, message_at}
use Rattle.samoa_model.specs.declared.handler.Moment.{Moment}
use Rattle.samoa_model.specs.declared.handler.Outcome.{Outcome}
use Rattle.samoa_serial.specs.declared.message.Message.{Message}
use Rattle.samoa_laws.specs.lists.Lists.{In}
use Rattle.samoa_laws.specs.trace.Boxes.{BoxStep, noted}

-- abcast and seqcast call upwards with frame [1, x]: the number x, and the message
abbrev pub raised_by : Outcome → Option (ℕ × Message)
raised_by (Outcome.Call event arg frame) = if word frame 0 == 1 then Some (word frame 1, message_at arg 0) else None
raised_by _ = None

-- the effective calls upwards, in their order
abbrev pub raised : {S : Type 0} → List (BoxStep S) → List (ℕ × Message)
raised [] = []
raised (s ∷ earlier) = noted (raised earlier) (raised_by s.outcome) s.effective

-- their messages
abbrev pub called_up : {S : Type 0} → List (BoxStep S) → List Message
called_up steps = map (λ (e : ℕ × Message). e.1) (raised steps)

-- `cast` began with m
abbrev pub WasCast : {S : Type 0} → List (BoxStep S) → Message → Type 0
WasCast {S} steps m = (s : BoxStep S) × (arg : List ℕ) × In s steps × (s.moment ≡ Moment.Begin 0 arg) × (message_at arg 0 ≡ m)
