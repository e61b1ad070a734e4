-- The histories of a box of abcast, over the decisions of consensus.
use Rattle.std.specs.Prelude.{ℕ, zero, suc, ◌≡◌, List, [], ◌∷◌, ◌++◌, Option, Some, None}
use Rattle.samoa_serial.specs.Rows.{word, message_at}
use Rattle.samoa_serial.specs.State.{AbcastState}
use Rattle.samoa_serial.specs.AbcastTable.{abcast_step}
use Rattle.samoa_model.specs.declared.handler.Moment.{Moment}
use Rattle.samoa_model.specs.declared.setup.Setup.{Setup}
use Rattle.samoa_serial.specs.declared.message.Message.{Message}
use Rattle.samoa_laws.specs.lists.Lists.{In}
use Rattle.samoa_laws.specs.trace.Boxes.{BoxStep, IsHistory, Anything}
use Rattle.samoa_laws.specs.broadcasts.Boxes.{raised}

abbrev pub abcast_opening : AbcastState
abcast_opening = record { next = 1; proposed = 0; pending = []; done = []; decisions = [] }

-- `decided` begins with the decision of an instance; its resumes with frame [1, x] come after an effective call upwards with that frame
abbrev pub AbcastMay : (ℕ → Option Message) → List (BoxStep AbcastState) → Moment → Type 0
AbcastMay decision earlier (Moment.Begin handler arg) = handler ≡ 2 → decision (word arg 0) ≡ Some (message_at arg 1)
AbcastMay decision earlier (Moment.Resume handler frame reply) =
    handler ≡ 2 → word frame 0 ≡ 1 → (m : Message) × In (word frame 1, m) (raised earlier)

abbrev pub IsAbcast : Setup → (ℕ → Option Message) → List (BoxStep AbcastState) → Type 0
IsAbcast setup decision steps = IsHistory (abcast_step setup) abcast_opening (AbcastMay decision) steps

-- by the table, whatever comes
abbrev pub IsAbcastBox : Setup → List (BoxStep AbcastState) → Type 0
IsAbcastBox setup steps = IsHistory (abcast_step setup) abcast_opening Anything steps

-- the messages of the numbers 1 to m, where there are such
abbrev pub listed : Option Message → List Message
listed None = []
listed (Some m) = m ∷ []

abbrev pub up_to : (ℕ → Option Message) → ℕ → List Message
up_to message zero = []
up_to message (suc m) = up_to message m ++ listed (message (suc m))

-- `decided` began with the decision m of instance i
abbrev pub WasDecided : List (BoxStep AbcastState) → ℕ → Message → Type 0
WasDecided steps i m =
    (s : BoxStep AbcastState) × (arg : List ℕ) × In s steps × (s.moment ≡ Moment.Begin 2 arg) × (word arg 0 ≡ i) × (message_at arg 1 ≡ m)

-- `heard` with tag 0 began with m
abbrev pub WasHeard : List (BoxStep AbcastState) → Message → Type 0
WasHeard steps m =
    (s : BoxStep AbcastState) × (arg : List ℕ) × In s steps × (s.moment ≡ Moment.Begin 1 arg) × (word arg 2 ≡ 0) × (message_at arg 3 ≡ m)
