-- The histories of a box of seqcast, over what the sequencer's box told.
use Rattle.std.specs.Prelude.{ℕ, ◌≡◌, true, ◌&&◌, ◌==◌, if◌then◌else◌, List, [], ◌∷◌, map, Option, Some, None}
use Rattle.samoa_serial.specs.Rows.{word, message_at}
use Rattle.samoa_serial.specs.State.{SeqcastState}
use Rattle.samoa_serial.specs.SeqcastTable.{seqcast_step}
use Rattle.samoa_model.specs.declared.handler.Moment.{Moment}
use Rattle.samoa_model.specs.declared.handler.Outcome.{Outcome}
use Rattle.samoa_model.specs.declared.setup.Setup.{Setup}
use Rattle.samoa_serial.specs.declared.message.Message.{Message}
use Rattle.samoa_laws.specs.lists.Lists.{In}
use Rattle.samoa_laws.specs.trace.Boxes.{BoxStep, IsHistory, Anything, noted}
use Rattle.samoa_laws.specs.broadcasts.Boxes.{raised}

abbrev pub seqcast_opening : SeqcastState
seqcast_opening = record { numbered = 0; keys = []; got = []; next = 1 }

-- a message is told with its number by a call with words [n, channel, 1, x, M] and frame [0]
abbrev pub told_by : Outcome → Option (ℕ × Message)
told_by (Outcome.Call event arg frame) =
    if (word frame 0 == 0) && (word arg 2 == 1) then Some (word arg 3, message_at arg 4) else None
told_by _ = None

-- what a box told with numbers, in order, whether or not it took effect
abbrev pub told : List (BoxStep SeqcastState) → List (ℕ × Message)
told [] = []
told (s ∷ earlier) = noted (told earlier) (told_by s.outcome) true

-- the messages that a box numbered, in order
abbrev pub numbered : List (BoxStep SeqcastState) → List Message
numbered steps = map (λ (e : ℕ × Message). e.1) (told steps)

-- `recv` with tag 1 begins with what was told; its resumes with frame [1, x] come after an effective call upwards with that frame
abbrev pub SeqcastMay : List (ℕ × Message) → List (BoxStep SeqcastState) → Moment → Type 0
SeqcastMay numbers earlier (Moment.Begin handler arg) = handler ≡ 1 → word arg 1 ≡ 1 → In (word arg 2, message_at arg 3) numbers
SeqcastMay numbers earlier (Moment.Resume handler frame reply) =
    handler ≡ 1 → word frame 0 ≡ 1 → (m : Message) × In (word frame 1, m) (raised earlier)

abbrev pub IsSeqcast : Setup → List (ℕ × Message) → List (BoxStep SeqcastState) → Type 0
IsSeqcast setup numbers steps = IsHistory (seqcast_step setup) seqcast_opening (SeqcastMay numbers) steps

-- by the table, whatever comes
abbrev pub IsSeqcastBox : Setup → List (BoxStep SeqcastState) → Type 0
IsSeqcastBox setup steps = IsHistory (seqcast_step setup) seqcast_opening Anything steps

-- `recv` with tag 0 began with m
abbrev pub WasSubmitted : List (BoxStep SeqcastState) → Message → Type 0
WasSubmitted steps m =
    (s : BoxStep SeqcastState) × (arg : List ℕ) × In s steps × (s.moment ≡ Moment.Begin 1 arg) × (word arg 1 ≡ 0) × (message_at arg 2 ≡ m)
