-- What a microprotocol remembers between its steps.
use Rattle.std.specs.Prelude.{ℕ, Bool, List, Option}
use Rattle.samoa_serial.specs.declared.message.Message.{Message}
use Rattle.samoa_serial.specs.declared.keys.Key.{Key}
use Rattle.samoa_serial.specs.declared.keys.Pair.{Pair}
use Rattle.samoa_serial.specs.declared.keys.Ballot.{Ballot}
use Rattle.samoa_serial.specs.declared.message.Instance.{Instance}
use Rattle.samoa_serial.specs.declared.message.Estimate.{Estimate}
use Rattle.samoa_serial.specs.declared.message.Own.{Own}
use Rattle.samoa_serial.specs.declared.message.Watch.{Watch}

-- how many messages a link sent and got
pub record LinkState : Type 0 where
  pub sent : ℕ
  pub got : ℕ

-- the number of the view, and its members as bits
pub record ViewsState : Type 0 where
  pub number : ℕ
  pub mask : ℕ

-- the number of the last own cast, and what was seen
pub record RbcastState : Type 0 where
  pub seq : ℕ
  pub seen : List Pair

-- what the sequencer numbered, what was got, and the number that comes next
pub record SeqcastState : Type 0 where
  pub numbered : ℕ
  pub keys : List Key
  pub got : List (ℕ × Message)
  pub next : ℕ

-- the instance that comes next and the last one proposed in, what waits, what was handed on, and the decisions
pub record AbcastState : Type 0 where
  pub next : ℕ
  pub proposed : ℕ
  pub pending : List Message
  pub done : List Key
  pub decisions : List (ℕ × Message)

-- the epoch, whether casts are held, the number of the last own cast, those that are not delivered,
-- what was delivered, and what came early
pub record ReplState : Type 0 where
  pub epoch : ℕ
  pub hold : ℕ
  pub count : ℕ
  pub mine : List Own
  pub delivered : List Pair
  pub early : List Message

-- what the coordinator of a round keeps of it: the estimates, one a sender, in order of arrival; what it proposed;
-- who acknowledged that; and whether it was announced
pub record Round : Type 0 where
  pub estimates : List Estimate
  pub proposal : Option Message
  pub acknowledged : List ℕ
  pub announced : Bool

-- the instances that this node is in, what was decided, and the rounds that it coordinates
pub record ConsState : Type 0 where
  pub instances : List (ℕ × Instance)
  pub decisions : List (ℕ × Message)
  pub rounds : List (Ballot × Round)

-- by kind
pub data State : Type 0 where
  Registers : List ℕ → State
  OfLink : LinkState → State
  OfFd : List Watch → State
  OfRbcast : RbcastState → State
  OfAbcast : AbcastState → State
  OfSeqcast : SeqcastState → State
  OfRepl : ReplState → State
  OfViews : ViewsState → State
  OfCons : ConsState → State
