-- What is received in the group stack, and what was sent.
use Rattle.std.specs.Prelude.{◌≡◌, ◌≤◌, ◌⊎◌, ℕ, zero, suc, true, List, ◌∷◌, ◌++◌, length, take}
use Rattle.samoa_model.specs.declared.handler.Moment.{Moment}
use Rattle.samoa_model.specs.declared.handler.Outcome.{Outcome}
use Rattle.samoa_model.specs.declared.ids.EventId.{EventId}
use Rattle.samoa_model.specs.declared.ids.HandlerId.{HandlerId}
use Rattle.samoa_model.specs.declared.record.Ext.{Ext}
use Rattle.samoa_model.specs.declared.script.Script.{Script}
use Rattle.samoa_serial.specs.Rows.{word}
use Rattle.samoa_serial.specs.Lists.{In}
use Rattle.samoa_laws.specs.trace.Trace.{HandlerStep, micro_of, trace}
use Rattle.samoa_laws.specs.trace.Causes.{BeginsFirst, setting_of}
use Rattle.samoa_laws.specs.trace.Group.{event, handler}

-- the microprotocol of a channel: the failure detector, reliable broadcast, consensus, the sequencer protocol
abbrev pub owner : ℕ → ℕ
owner zero = 1
owner (suc zero) = 2
owner (suc (suc zero)) = 3
owner (suc (suc (suc chan))) = 5

-- an earlier step of the channel's microprotocol at node `from` told these words, to this node or to all: it called
-- `send` with them
pub record WasTold (script : Script) (past : List HandlerStep) (chan node from : ℕ) (words : List ℕ) : Type 0 where
  pub step : HandlerStep
  pub there : In step past
  pub sender : step.node ≡ from
  pub micro : micro_of step ≡ owner chan
  pub effective : step.effective ≡ true
  pub to : ℕ
  pub frame : List ℕ
  pub outcome : step.outcome ≡ Outcome.Call (event 1) (to ∷ chan ∷ words) frame
  pub here : (to ≡ node) ⊎ (script.nodes ≤ to)

-- an earlier step at this node called `rb_cast` with these words: consensus an announcement, or the broadcast through
-- consensus a message
pub record IsCalled (past : List HandlerStep) (node : ℕ) (arg : List ℕ) : Type 0 where
  pub step : HandlerStep
  pub there : In step past
  pub at : step.node ≡ node
  pub effective : step.effective ≡ true
  pub frame : List ℕ
  pub outcome : step.outcome ≡ Outcome.Call (event 8) arg frame
  pub by : ((micro_of step ≡ 3) × (word arg 0 ≡ 1)) ⊎ ((micro_of step ≡ 4) × (word arg 0 ≡ 0))

-- an earlier step, at some node, began a cast of these words by reliable broadcast
pub record WasCast (past : List HandlerStep) (words : List ℕ) : Type 0 where
  pub step : HandlerStep
  pub there : In step past
  pub cast : step.call.handler ≡ handler 2 0
  pub arg : List ℕ
  pub moment : step.moment ≡ Moment.Begin 0 arg
  pub first : take 8 arg ≡ words
  pub called : IsCalled past step.node arg

-- an origin, a number, and words that were cast
pub record IsCast (past : List HandlerStep) (words : List ℕ) : Type 0 where
  pub origin : ℕ
  pub number : ℕ
  pub rest : List ℕ
  pub is : words ≡ origin ∷ number ∷ rest
  pub cast : WasCast past rest
  pub short : length rest ≤ 8

-- a step of the trace that begins such a call, after these steps
pub record BeginsAt (script : Script) (exts : List Ext) (past : List HandlerStep) (node : ℕ) (h : HandlerId) (arg : List ℕ) : Type 0 where
  pub step : HandlerStep
  pub more : List HandlerStep
  pub split : trace script exts ≡ more ++ step ∷ past
  pub node_is : step.node ≡ node
  pub handler_is : step.call.handler ≡ h
  pub moment : step.moment ≡ Moment.Begin h.index arg

-- what was received: the sender, and words that it told
pub record IsHeard (script : Script) (past : List HandlerStep) (chan node : ℕ) (arg : List ℕ) : Type 0 where
  pub from : ℕ
  pub words : List ℕ
  pub is : arg ≡ from ∷ words
  pub told : WasTold script past chan node from words

-- x is a step of the same computation as b, and begins the first handler that the event is bound to in it
pub record BeginsNext (script : Script) (exts : List Ext) (b x : HandlerStep) (called : EventId) (arg : List ℕ) : Type 0 where
  pub before : List Ext
  pub ext : Ext
  pub later : List Ext
  pub admitted : exts ≡ before ++ ext ∷ later
  pub comp : x.comp ≡ length before
  pub same : b.comp ≡ x.comp
  pub begins : BeginsFirst (setting_of script before ext) called arg x.call x.moment
