-- What is at the slots.
use Rattle.std.specs.Prelude.{ℕ, zero, suc, false, Option, Some, None}
use Rattle.samoa_model.specs.declared.script.Script.{Script}
use Rattle.samoa_model.specs.Scripts.{micro_at, setup_of}
use Rattle.samoa_serial.specs.Kinds.{Seen}
use Rattle.samoa_serial.specs.State.{State}
use Rattle.samoa_invariant.specs.State as model
use Rattle.samoa_invariant.specs.State.{sum_to}
use Rattle.samoa_invariant.specs.Runs.{Trace, state}
use Rattle.std.specs.Prelude.{length}

-- what is seen of the box of a slot in this state
abbrev pub seen_in : Script → ℕ → ℕ → State → Seen
seen_in script node p state =
    record { kind = (micro_at script p).kind; fresh = false; setup = setup_of script node p; state = state }

-- a slot: nothing is there where its box is out
abbrev pub unless_out : Option ℕ → Seen → Option Seen
unless_out None seen = Some seen
unless_out (Some comp) seen = None

abbrev pub slot_in : Script → model.Core → ℕ → ℕ → Option Seen
slot_in script core node p = unless_out (core.out node p) (seen_in script node p (core.boxes node p))

-- 1 where a box is out
abbrev pub out_one : Option ℕ → ℕ
out_one None = zero
out_one (Some comp) = suc zero

-- how many boxes of a node are out, and how many of all
abbrev pub out_at : Script → model.Core → ℕ → ℕ
out_at script core node = sum_to (λ p. out_one (core.out node p)) (length script.micros)

abbrev pub away_in : Script → model.Core → ℕ
away_in script core = sum_to (out_at script core) script.nodes

abbrev pub away : Trace → ℕ
away t = away_in t.script (state t)
