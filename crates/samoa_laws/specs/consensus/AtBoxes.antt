-- The steps of a trace at the boxes of one microprotocol.
use Rattle.std.specs.Prelude.{ℕ, ◌==◌, if◌then◌else◌, List, [], ◌∷◌}
use Rattle.samoa_model.specs.Scripts.{setup_of}
use Rattle.samoa_model.specs.declared.script.Script.{Script}
use Rattle.samoa_model.specs.declared.setup.Setup.{Setup}
use Rattle.samoa_serial.specs.State.{ConsState, OfCons, State}
use Rattle.samoa_laws.specs.trace.Trace.{HandlerStep, micro_of}
use Rattle.samoa_laws.specs.trace.Boxes.{box_step}
use Rattle.samoa_laws.specs.consensus.Consensus.{NodeStep, cons_opening}

-- a step with its node, where `of` reads the states of its microprotocol
abbrev pub node_step : {S : Type 0} → (State → S) → HandlerStep → NodeStep S
node_step of x =
    record { node = x.node; step = box_step of x }

-- those of microprotocol p, at all nodes, the last one first
abbrev pub node_steps : {S : Type 0} → ℕ → (State → S) → List HandlerStep → List (NodeStep S)
node_steps p of [] = []
node_steps p of (x ∷ past) = if micro_of x == p then node_step of x ∷ node_steps p of past else node_steps p of past

-- consensus is microprotocol 3. A box of it never has another state
abbrev pub cons_of : State → ConsState
cons_of (OfCons s) = s
cons_of _ = cons_opening

abbrev pub cons_steps : List HandlerStep → List (NodeStep ConsState)
cons_steps past = node_steps 3 cons_of past

abbrev pub cons_setup : Script → ℕ → Setup
cons_setup script node = setup_of script node 3
