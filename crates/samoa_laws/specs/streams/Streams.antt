-- The streams of the group stack: what the replacement layer delivers at a node.
use Rattle.std.specs.Prelude.{ℕ, Bool, ◌==◌, if◌then◌else◌, List, [], ◌∷◌, ◌++◌}
use Rattle.samoa_model.specs.declared.record.Entry.{Entry}
use Rattle.samoa_model.specs.declared.record.Ext.{Ext}
use Rattle.samoa_model.specs.declared.script.Script.{Script}
use Rattle.samoa_model.specs.declared.setup.Setup.{Setup}
use Rattle.samoa_serial.specs.State.{ReplState, State, OfRepl}
use Rattle.samoa_serial.specs.Whole.{Ran}
use Rattle.samoa_serial.specs.SerialRun.{serial}
use Rattle.samoa_laws.specs.trace.Trace.{HandlerStep}
use Rattle.samoa_laws.specs.trace.Group.{change, event}
use Rattle.samoa_laws.specs.trace.Boxes.{box_step, box_steps, is_at}
use Rattle.samoa_laws.specs.replacement.History.{Step, repl_opening}

-- the words that the replacement layer, microprotocol 6, delivered, of these entries
abbrev pub delivered_in : List Entry → List (List ℕ)
delivered_in [] = []
delivered_in (Entry.Delivered call micro arg ∷ es) = if micro.0 == 6 then arg ∷ delivered_in es else delivered_in es
delivered_in (_ ∷ es) = delivered_in es

-- those of the computations at a node, in order
abbrev pub delivered_at : ℕ → List Ext → List Ran → List (List ℕ)
delivered_at node [] rans = []
delivered_at node (ext ∷ exts) [] = []
delivered_at node (ext ∷ exts) (ran ∷ rans) =
    (if ext.node.0 == node then delivered_in ran.world.entries else []) ++ delivered_at node exts rans

-- the stream of a node in the serial run of these admissions
abbrev pub stream_at : Script → List Ext → ℕ → List (List ℕ)
stream_at script exts v = delivered_at v exts (serial script exts).comps

-- what the replacement layer is set up with
abbrev pub repl_setup : Script → ℕ → Setup
repl_setup script v = record {
  node = record { 0 = v };
  nodes = script.nodes;
  ports = event 12 ∷ event 13 ∷ [];
  changes = change 0 ∷ change 1 ∷ [];
  nums = [];
  codes = [];
}

-- a step of the replacement layer at this node
abbrev pub is_repl : ℕ → HandlerStep → Bool
is_repl v x = is_at v 6 x

abbrev pub repl_state : State → ReplState
repl_state (OfRepl s) = s
repl_state _ = repl_opening

abbrev pub repl_step_of : HandlerStep → Step
repl_step_of x = box_step repl_state x

-- the history of the box at this node: its steps among these, the last one first
abbrev pub repl_at : ℕ → List HandlerStep → List Step
repl_at v past = box_steps repl_state v 6 past
