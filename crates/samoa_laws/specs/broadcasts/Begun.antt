-- The boxes of the two broadcasts in a trace of the group stack, and what `deliver` of the replacement layer begins with.
use Rattle.std.specs.Prelude.{◌≡◌, ◌⊎◌, ℕ, true, ◌&&◌, ◌==◌, if◌then◌else◌, List, [], ◌∷◌, ◌++◌, map, filter, Option, Some, None}
use Rattle.samoa_model.specs.declared.handler.Moment.{Moment}
use Rattle.samoa_model.specs.declared.handler.Outcome.{Outcome}
use Rattle.samoa_model.specs.declared.record.Ext.{Ext}
use Rattle.samoa_model.specs.declared.script.Script.{Script}
use Rattle.samoa_serial.specs.Rows.{word, message_at}
use Rattle.samoa_serial.specs.State.{AbcastState, OfAbcast, OfSeqcast, SeqcastState, State}
use Rattle.samoa_serial.specs.declared.message.Message.{Message}
use Rattle.samoa_laws.specs.trace.Trace.{HandlerStep, micro_of, trace}
use Rattle.samoa_laws.specs.trace.Group.{event, handler}
use Rattle.samoa_laws.specs.transport.Transport.{BeginsAt}
use Rattle.samoa_laws.specs.trace.Boxes.{BoxStep, box_steps}
use Rattle.samoa_laws.specs.consensus.Decisions.{WasProposed}
use Rattle.samoa_laws.specs.broadcasts.Abcast.{abcast_opening}
use Rattle.samoa_laws.specs.broadcasts.Seqcast.{seqcast_opening}

-- these are the first steps of the trace, the last of them first
pub record IsPart (script : Script) (exts : List Ext) (past : List HandlerStep) : Type 0 where
  pub more : List HandlerStep
  pub split : trace script exts ≡ more ++ past

-- ---- the boxes
abbrev pub abcast_of : State → AbcastState
abcast_of (OfAbcast s) = s
abcast_of _ = abcast_opening

abbrev pub seqcast_of : State → SeqcastState
seqcast_of (OfSeqcast s) = s
seqcast_of _ = seqcast_opening

-- the boxes of the two broadcasts at a node
abbrev pub abcast_steps : ℕ → List HandlerStep → List (BoxStep AbcastState)
abcast_steps node past = box_steps abcast_of node 4 past

abbrev pub seqcast_steps : ℕ → List HandlerStep → List (BoxStep SeqcastState)
seqcast_steps node past = box_steps seqcast_of node 5 past

-- ---- what is supposed of consensus
-- each begin of abcast's `decided` has the decision of its instance
abbrev pub IsDecided : Script → List Ext → (ℕ → Option Message) → Type 0
IsDecided script exts decision = (past : List HandlerStep) (node : ℕ) (arg : List ℕ)
    → BeginsAt script exts past node (handler 4 2) arg → decision (word arg 0) ≡ Some (message_at arg 1)

abbrev pub AreProposed : Script → List Ext → (ℕ → Option Message) → Type 0
AreProposed script exts decision = (i : ℕ) (m : Message) → decision i ≡ Some m → WasProposed script exts i m

-- ---- what was given to a broadcast: its `cast` began with the message, at some node
pub record WasSubmitted (script : Script) (exts : List Ext) (p : ℕ) (m : Message) : Type 0 where
  pub node : ℕ
  pub arg : List ℕ
  pub past : List HandlerStep
  pub begins : BeginsAt script exts past node (handler p 0) arg
  pub message : message_at arg 0 ≡ m

-- ---- what `deliver` of the replacement layer begins with
abbrev pub begun_with : Moment → Option Message
begun_with (Moment.Begin i arg) = if i == 1 then Some (message_at arg 0) else None
begun_with (Moment.Resume i frame reply) = None

abbrev pub delivered_by : ℕ → HandlerStep → Option Message
delivered_by node x = if (x.node == node) && (micro_of x == 6) then begun_with x.moment else None

-- the microprotocol of the step right before
abbrev pub caller : List HandlerStep → ℕ
caller [] = 0
caller (b ∷ past) = micro_of b

abbrev pub with_caller : ℕ → Option Message → List (ℕ × Message)
with_caller p None = []
with_caller p (Some m) = (p, m) ∷ []

-- the messages with which `deliver` begins at a node, in order, each with the microprotocol that called it: that is the
-- one of the step right before
abbrev pub begun : ℕ → List HandlerStep → List (ℕ × Message)
begun node [] = []
begun node (x ∷ past) = begun node past ++ with_caller (caller past) (delivered_by node x)

-- those that one microprotocol called it with: 4 is abcast, 5 is seqcast
abbrev pub begun_by : ℕ → ℕ → List HandlerStep → List Message
begun_by p node past = map (λ (e : ℕ × Message). e.1) (filter (λ (e : ℕ × Message). e.0 == p) (begun node past))

-- `deliver` began at the step x with these words: the step before called `ab_up` with them, and belongs to one of the
-- two broadcasts
pub record IsHandedOn (past : List HandlerStep) (x : HandlerStep) (arg : List ℕ) : Type 0 where
  pub by : HandlerStep
  pub earlier : List HandlerStep
  pub split : past ≡ by ∷ earlier
  pub comp : by.comp ≡ x.comp
  pub node : by.node ≡ x.node
  pub effective : by.effective ≡ true
  pub frame : List ℕ
  pub outcome : by.outcome ≡ Outcome.Call (event 11) arg frame
  pub broadcast : (micro_of by ≡ 4) ⊎ (micro_of by ≡ 5)

-- `cast` of a broadcast began at the step x with these words: the step before called `ab_cast` with them, and belongs to
-- the replacement layer
pub record IsCastDown (past : List HandlerStep) (x : HandlerStep) (arg : List ℕ) : Type 0 where
  pub by : HandlerStep
  pub earlier : List HandlerStep
  pub split : past ≡ by ∷ earlier
  pub comp : by.comp ≡ x.comp
  pub node : by.node ≡ x.node
  pub effective : by.effective ≡ true
  pub frame : List ℕ
  pub outcome : by.outcome ≡ Outcome.Call (event 12) arg frame
  pub micro : micro_of by ≡ 6

-- the same messages, or one more at the end
abbrev pub IsAheadBy : List Message → List Message → Type 0
IsAheadBy called began = (called ≡ began) ⊎ ((m : Message) × (called ≡ began ++ m ∷ []))
