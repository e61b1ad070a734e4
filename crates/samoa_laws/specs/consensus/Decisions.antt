-- The decisions of consensus in a serial run of the group stack.
use Rattle.std.specs.Prelude.{◌≡◌, ℕ, List, Option, Some}
use Rattle.samoa_model.specs.declared.record.Ext.{Ext}
use Rattle.samoa_model.specs.declared.script.Script.{Script}
use Rattle.samoa_serial.specs.Rows.{message_at, message_of, word}
use Rattle.samoa_serial.specs.SerialRun.{serial}
use Rattle.samoa_serial.specs.State.{ConsState, OfCons}
use Rattle.samoa_serial.specs.declared.message.Message.{Message}
use Rattle.samoa_laws.specs.trace.Group.{handler}
use Rattle.samoa_laws.specs.trace.Trace.{HandlerStep, trace}
use Rattle.samoa_laws.specs.transport.Transport.{BeginsAt}
use Rattle.samoa_laws.specs.consensus.Consensus.{decision_of}
use Rattle.samoa_laws.specs.consensus.AtBoxes.{cons_steps}

-- after these computations the box of consensus at node v has the decision m of instance i
pub record HasDecided (script : Script) (exts : List Ext) (v i : ℕ) (m : Message) : Type 0 where
  pub state : ConsState
  pub found : (serial script exts).states v 3 ≡ OfCons state
  pub decision : message_of state.decisions i ≡ Some m

-- the decision of an instance, where one was made in these computations
abbrev pub decision : Script → List Ext → ℕ → Option Message
decision script exts i = decision_of (cons_steps (trace script exts)) i

-- `propose` began at some node with instance i and message m
pub record WasProposed (script : Script) (exts : List Ext) (i : ℕ) (m : Message) : Type 0 where
  pub node : ℕ
  pub arg : List ℕ
  pub past : List HandlerStep
  pub begins : BeginsAt script exts past node (handler 3 0) arg
  pub instance : word arg 0 ≡ i
  pub message : message_at arg 1 ≡ m
