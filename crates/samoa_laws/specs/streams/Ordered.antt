-- What the two broadcasts below the replacement layer owe to it.
use Rattle.std.specs.Prelude.{◌≡◌, ◌⊎◌, ℕ, zero, suc, ◌==◌, if◌then◌else◌, List, [], ◌∷◌, ◌++◌}
use Rattle.samoa_model.specs.declared.handler.Moment.{Moment}
use Rattle.samoa_model.specs.declared.record.Ext.{Ext}
use Rattle.samoa_model.specs.declared.script.Script.{Script}
use Rattle.samoa_serial.specs.Rows.{message_at}
use Rattle.samoa_serial.specs.declared.message.Message.{Message}
use Rattle.samoa_serial.specs.Lists.{In}
use Rattle.samoa_laws.specs.trace.Trace.{HandlerStep, trace}
use Rattle.samoa_laws.specs.trace.Group.{Asking, handler}
use Rattle.samoa_laws.specs.lists.Lists.{Comparable}
use Rattle.samoa_laws.specs.lists.Messages.{first_places}
use Rattle.samoa_laws.specs.replacement.Group.{Up, called_by}
use Rattle.samoa_laws.specs.replacement.History.{last_value}
pub use Rattle.samoa_laws.specs.broadcasts.Begun.{caller}
use Rattle.samoa_laws.specs.streams.Streams.{is_repl}

abbrev pub up_in : ℕ → Moment → List Up
up_in by (Moment.Begin i arg) = if i == 1 then record { by = by; message = message_at arg 0 } ∷ [] else []
up_in by (Moment.Resume i frame reply) = []

-- the messages with which `deliver` of the replacement layer begins at a node, in order, each with the microprotocol
-- that called it: that is the one of the step right before
abbrev pub ups_at : ℕ → List HandlerStep → List Up
ups_at v [] = []
ups_at v (x ∷ past) = ups_at v past ++ (if is_repl v x then up_in (caller past) x.moment else [])

-- abcast, or the sequencer protocol
abbrev pub IsBroadcast : ℕ → Type 0
IsBroadcast p = (p ≡ 4) ⊎ (p ≡ 5)

-- what one broadcast calls up at two nodes: of the messages, each at its first place, one list begins the other
abbrev pub KeepsOrder : Script → List Ext → Type 0
KeepsOrder script exts = (p : ℕ) → IsBroadcast p → (v u : ℕ)
    → Comparable (first_places (called_by p (ups_at v (trace script exts)))) (first_places (called_by p (ups_at u (trace script exts))))

-- what came up came by a broadcast, and was given to it at some node: one of these steps begins its `cast` with it
pub record WasSubmitted (past : List HandlerStep) (c : Up) : Type 0 where
  pub step : HandlerStep
  pub there : In step past
  pub broadcast : IsBroadcast c.by
  pub handler_is : step.call.handler ≡ handler c.by 0
  pub arg : List ℕ
  pub moment : step.moment ≡ Moment.Begin 0 arg
  pub message : c.message ≡ message_at arg 0

-- all that comes up was given
abbrev pub AreSubmitted : Script → List Ext → Type 0
AreSubmitted script exts = (v : ℕ) (c : Up) → In c (ups_at v (trace script exts)) → WasSubmitted (trace script exts) c

-- the broadcast that a change of this number puts in place: 0 the sequencer protocol, 1 abcast
abbrev pub broadcast_of : ℕ → ℕ
broadcast_of change = if change == 1 then 4 else 5

-- the broadcast of an epoch, as the marks of the epochs before decide it: abcast at first, and then what the last of them says
abbrev pub protocol : ℕ → List Message → ℕ
protocol zero marks = 4
protocol (suc e) marks = broadcast_of (last_value 0 marks)

-- the broadcast in place after these rebindings
abbrev pub in_place : ℕ → List Asking → ℕ
in_place p [] = p
in_place p (r ∷ rebindings) = in_place (broadcast_of r.change.0) rebindings
