-- The boxes of a group, one history a node, over protocols that deliver messages to them.
use Rattle.std.specs.Prelude.{ℕ, ◌^◌, ◌<◌, ◌≤◌, ◌==◌, ◌≡◌, List, length, map, filter}
use Rattle.samoa_model.specs.declared.setup.Setup.{Setup}
use Rattle.samoa_serial.specs.declared.message.Message.{Message}
use Rattle.samoa_laws.specs.lists.Lists.{Comparable}
use Rattle.samoa_laws.specs.lists.Messages.{first_places}
use Rattle.samoa_serial.specs.Lists.{In}
use Rattle.samoa_laws.specs.replacement.History.{Step, left_by, IsHistory, begun, marks, below}

-- a message with which `deliver` began, and the protocol that called it up
pub record Up : Type 0 where
  pub by : ℕ
  pub message : Message

-- all the messages, and those that one protocol called up
abbrev pub messages_of : List Up → List Message
messages_of ups = map (λ (c : Up). c.message) ups

abbrev pub called_by : ℕ → List Up → List Message
called_by p ups = messages_of (filter (λ (c : Up). c.by == p) ups)

-- the histories of the boxes of all nodes, with one count of changes
pub record IsGroup (count : ℕ) (setup : ℕ → Setup) (steps : ℕ → List Step) : Type 0 where
  pub changes : (v : ℕ) → length (setup v).changes ≡ count
  pub history : (v : ℕ) → IsHistory (setup v) (steps v)
  pub short : (v : ℕ) → length (steps v) < 2 ^ 64

-- what the protocols owe: a message of an epoch that its node reached is called up by the protocol that some node had
-- in that epoch, which that node's marks of earlier epochs decide; and what one protocol calls up has, at any two nodes, comparable first places
pub record IsOrdered (steps : ℕ → List Step) (ups : ℕ → List Up) (protocol : ℕ → List Message → ℕ) : Type 0 where
  pub begun : (v : ℕ) → messages_of (ups v) ≡ begun (steps v)
  pub called : (v : ℕ) (c : Up) → In c (ups v) → c.message.epoch ≤ (left_by (steps v)).epoch
      → (w : ℕ) × (c.message.epoch ≤ (left_by (steps w)).epoch) × (c.by ≡ protocol c.message.epoch (below c.message.epoch (marks (steps w))))
  pub order : (p v u : ℕ) → Comparable (first_places (called_by p (ups v))) (first_places (called_by p (ups u)))
