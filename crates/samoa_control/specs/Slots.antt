-- The slots of a core: one for each microprotocol of each node, node by node.
use Rattle.std.specs.Prelude.{ℕ, zero, suc, List, [], ◌++◌, map, Option, Some}
use Rattle.samoa_model.specs.declared.setup.Setup.{Setup}
use Rattle.samoa_model.specs.declared.script.MicroDef.{MicroDef}
use Rattle.samoa_model.specs.declared.script.Script.{Script}
use Rattle.samoa_serial.specs.Kinds.{Seen, set_up_as}

-- what is in the slots: nothing where a microprotocol is out
pub record Slotted : Type 0 where
  pub micros : ℕ
  pub boxes : List (Option Seen)

-- what a microprotocol is set up with at a node
abbrev pub setup_with : Script → ℕ → MicroDef → Setup
setup_with script node micro = record {
  node = record { 0 = node };
  nodes = script.nodes;
  ports = micro.ports;
  changes = micro.changes;
  nums = micro.nums;
  codes = map (λ c. c.code) micro.handlers;
}

abbrev pub set_up_at : Script → ℕ → MicroDef → Option Seen
set_up_at script node micro = Some (set_up_as micro.kind (setup_with script node micro))

-- the slots of a node, and of the first nodes, when all were just set up
abbrev pub row_of : Script → ℕ → List (Option Seen)
row_of script node = map (set_up_at script node) script.micros

abbrev pub rows_of : Script → ℕ → List (Option Seen)
rows_of script zero = []
rows_of script (suc nodes) = rows_of script nodes ++ row_of script nodes
