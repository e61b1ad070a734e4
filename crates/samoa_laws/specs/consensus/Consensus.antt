-- The histories of consensus: handler steps at the boxes of one group, and what was told, announced and decided in them.
use Rattle.std.specs.Prelude.{ℕ, ◌<◌, ◌≡◌, true, ◌==◌, if◌then◌else◌, List, [], ◌∷◌, length, drop, Option, Some, None, ⊤}
use Rattle.samoa_serial.specs.Rows.{word, me, message_at, message_of}
use Rattle.samoa_serial.specs.State.{ConsState}
use Rattle.samoa_serial.specs.ConsTable.{letter_at, cons_step}
use Rattle.samoa_model.specs.declared.handler.Moment.{Moment}
use Rattle.samoa_model.specs.declared.handler.Outcome.{Outcome}
use Rattle.samoa_serial.specs.declared.message.Message.{Message}
use Rattle.samoa_serial.specs.declared.message.Letter.{Letter}
use Rattle.samoa_model.specs.declared.setup.Setup.{Setup}
use Rattle.samoa_laws.specs.lists.Lists.{In}
use Rattle.samoa_laws.specs.trace.Boxes.{BoxStep, IsStep, noted}

abbrev pub cons_opening : ConsState
cons_opening = record { instances = []; decisions = []; rounds = [] }

-- a step, and the node at whose box it was made
pub record NodeStep (S : Type 0) : Type 0 where
  pub node : ℕ
  pub step : BoxStep S

-- the history of the box of one node
abbrev pub box_of : {S : Type 0} → List (NodeStep S) → ℕ → List (BoxStep S)
box_of [] node = []
box_of (s ∷ earlier) node = if s.node == node then s.step ∷ box_of earlier node else box_of earlier node

-- a call with eleven words tells [to, channel] and then a letter, which is read as [from] and the rest
abbrev pub letter_by : ℕ → Outcome → Option Letter
letter_by node (Outcome.Call event arg frame) = if length arg == 11 then Some (letter_at (node ∷ drop 2 arg)) else None
letter_by node _ = None

-- one with seven words announces [1, i, M], one with six passes the decision [i, M] on
abbrev pub announced_by : Outcome → Option (ℕ × Message)
announced_by (Outcome.Call event arg frame) = if length arg == 7 then Some (word arg 1, message_at arg 2) else None
announced_by _ = None

abbrev pub decided_by : Outcome → Option (ℕ × Message)
decided_by (Outcome.Call event arg frame) = if length arg == 6 then Some (word arg 0, message_at arg 1) else None
decided_by _ = None

-- what was told, announced and decided, at all nodes, in order, whether or not it took effect
abbrev pub letters : List (NodeStep ConsState) → List Letter
letters [] = []
letters (s ∷ earlier) = noted (letters earlier) (letter_by s.node s.step.outcome) true

abbrev pub announced : List (NodeStep ConsState) → List (ℕ × Message)
announced [] = []
announced (s ∷ earlier) = noted (announced earlier) (announced_by s.step.outcome) true

abbrev pub decided : List (NodeStep ConsState) → List (ℕ × Message)
decided [] = []
decided (s ∷ earlier) = noted (decided earlier) (decided_by s.step.outcome) true

-- `recv` begins with a letter that was told before, `decide` with tag 1 with what was announced before; all else may come
abbrev pub ConsMay : List (NodeStep ConsState) → Moment → Type 0
ConsMay earlier (Moment.Begin handler arg) =
    (handler ≡ 1 → In (letter_at arg) (letters earlier))
    × (handler ≡ 2 → word arg 2 ≡ 1 → In (word arg 3, message_at arg 4) (announced earlier))
ConsMay earlier (Moment.Resume handler frame reply) = ⊤

-- a step at one of the n nodes: by the table, from the state that the last step of that box left, of a moment that may come
pub record Follows (n : ℕ) (setups : ℕ → Setup) (earlier : List (NodeStep ConsState)) (s : NodeStep ConsState) : Type 0 where
  pub node : s.node < n
  pub step : IsStep (cons_step (setups s.node)) cons_opening (box_of earlier s.node) s.step
  pub comes : ConsMay earlier s.step.moment

abbrev pub IsConsensus : ℕ → (ℕ → Setup) → List (NodeStep ConsState) → Type 0
IsConsensus n setups [] = ⊤
IsConsensus n setups (s ∷ earlier) = Follows n setups earlier s × IsConsensus n setups earlier

-- the boxes are set up for the nodes 0 to n - 1 of one group
abbrev pub IsSetUp : ℕ → (ℕ → Setup) → Type 0
IsSetUp n setups = (v : ℕ) → v < n → (me (setups v) ≡ v) × ((setups v).nodes ≡ n)

-- the decision of an instance, where one was made
abbrev pub decision_of : List (NodeStep ConsState) → ℕ → Option Message
decision_of steps i = message_of (decided steps) i

-- m was proposed to instance i
abbrev pub WasProposed : List (NodeStep ConsState) → ℕ → Message → Type 0
WasProposed steps i m =
    (s : NodeStep ConsState) × (arg : List ℕ) × In s steps × (s.step.moment ≡ Moment.Begin 0 arg) × (word arg 0 ≡ i) × (message_at arg 1 ≡ m)
