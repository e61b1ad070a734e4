-- What is fixed of a run of the core, and the serial run of its computations. Computations are numbered from 0 here.
use Rattle.std.specs.Prelude.{◌≡◌, ◌≢◌, ℕ, zero, suc, ◌+◌, ◌≤◌, ◌<◌, List, [], ◌∷◌, length, Bool, true, false, Some, ◌==◌, if◌then◌else◌}
use Rattle.samoa_model.specs.declared.ids.EventId.{EventId}
use Rattle.samoa_model.specs.declared.ids.MicroId.{MicroId}
use Rattle.samoa_model.specs.declared.handler.Moment.{Moment}
use Rattle.samoa_model.specs.declared.handler.Outcome.{Outcome}
use Rattle.samoa_model.specs.declared.script.Decl.{Decl}
use Rattle.samoa_serial.specs.declared.call.Call.{Call}
use Rattle.samoa_serial.specs.State.{State}
use Rattle.samoa_serial.specs.World.{Attempts, attempts_of, Rules, Turn}
use Rattle.samoa_serial.specs.Whole.{event_whole, Ran}
use Rattle.samoa_serial.specs.Calls.{Computation, take_outcome}
use Rattle.samoa_serial.specs.Alone.{after, Machine, next_step, opening}
use Rattle.samoa_model.specs.Scripts.{Table}
use Rattle.samoa_model.specs.Allowed.{weight}
use Rattle.samoa_invariant.specs.Slots.{At}

-- the opening states and tables, and of each external event, by its place in the order of admission: its node, its declaration,
-- what it changes in the table of its node, the handler step, its units, its event and arguments, and the cells that it wants
pub record Play : Type 0 where
  pub first_states : At State
  pub first_tables : ℕ → Table
  pub node : ℕ → ℕ
  pub decl : ℕ → Decl
  pub change : ℕ → Table → Table
  pub step : ℕ → MicroId → State → Moment → State × Outcome
  pub budget : ℕ → ℕ
  pub root : ℕ → EventId
  pub args : ℕ → List ℕ
  pub cells : ℕ → ℕ
  pub most_cells : ℕ
  pub most : ℕ

-- whether a declaration counts the calls
abbrev pub is_bound : Decl → Bool
is_bound (Decl.Bound bounds) = true
is_bound _ = false

-- the table of a node once the first k external events were admitted
abbrev pub table_at : Play → ℕ → ℕ → Table
table_at P zero v = P.first_tables v
table_at P (suc k) v = if v == P.node k then P.change k (table_at P k v) else table_at P k v

-- the table of a computation: it includes its own change
abbrev pub table_of : Play → ℕ → Table
table_of P k = table_at P (suc k) (P.node k)

-- the attempts of a computation
abbrev pub attempts : Play → ℕ → Attempts
attempts P k = attempts_of (P.decl k) (table_of P k)

-- what a computation goes by
abbrev pub rules : Play → ℕ → Rules
rules P k = record { step = P.step k; attempt = attempts P k }

-- the states after the first k computations, one after another
abbrev pub stood : Play → ℕ → At State
stood P zero v p = P.first_states v p
stood P (suc k) v p =
    if v == P.node k then (event_whole (rules P k) (P.budget k) (stood P k (P.node k)) (P.root k) (P.args k)).world.states p
    else stood P k v p

-- a computation whole, in its place
abbrev pub whole_of : Play → ℕ → Ran
whole_of P k = event_whole (rules P k) (P.budget k) (stood P k (P.node k)) (P.root k) (P.args k)

-- computation k where it begins, on what the computations before it leave
abbrev pub opened : Play → ℕ → Machine
opened P k = opening (rules P k) (P.budget k) (stood P k (P.node k)) (P.root k) (P.args k)

-- computation k in its place in the serial run, after its first n handler steps
abbrev pub point : Play → ℕ → ℕ → Machine
point P k n = after (rules P k) (opened P k) n

-- the number of its handler steps
abbrev pub turns : Play → ℕ → ℕ
turns P k = length (event_whole (rules P k) (P.budget k) (stood P k (P.node k)) (P.root k) (P.args k)).world.turns

-- the sum of the weights of the first k computations at a slot
abbrev pub weight_at : Play → ℕ → ℕ → ℕ → ℕ
weight_at P k v p = if v == P.node k then weight (P.decl k) p else zero

-- the sum of the weights of the first k computations at a slot
abbrev pub version : Play → ℕ → ℕ → ℕ → ℕ
version P zero v p = zero
version P (suc k) v p = version P k v p + weight_at P k v p

-- the next handler step, if any, isn't at p
abbrev pub NotAt : Computation → ℕ → Type 0
NotAt comp p = (c : Call) (m : Moment) → next_step comp ≡ Some (c, m) → c.handler.micro.0 ≢ p

-- a computation after these outcomes, one after another
abbrev pub drive : Attempts → Computation → List Outcome → Computation
drive attempt comp [] = comp
drive attempt comp (o ∷ os) = drive attempt (take_outcome attempt comp o) os

-- whatever the handlers answer from here on, no handler step is at p
abbrev pub Never : Attempts → Computation → ℕ → Type 0
Never attempt comp p = (os : List Outcome) → NotAt (drive attempt comp os) p

-- none of the first n handler steps of k is at p
abbrev pub NotYet : Play → ℕ → ℕ → ℕ → Type 0
NotYet P k n p = (i : ℕ) → suc i ≤ n → NotAt (point P k i).comp p

-- an outcome that ends a call
abbrev pub ends_call : Outcome → ℕ
ends_call (Outcome.Done reply) = suc zero
ends_call _ = zero

-- whether a handler step is at p and ended a call
abbrev pub done_one : Turn → ℕ → ℕ
done_one t p = if p == t.call.handler.micro.0 then ends_call t.outcome else zero

-- the calls at p that these handler steps ended
abbrev pub done : List Turn → ℕ → ℕ
done [] p = zero
done (t ∷ ts) p = done_one t p + done ts p

-- nothing is left: no call is active and none waits
pub record IsIdle (comp : Computation) : Type 0 where
  pub active : comp.active ≡ []
  pub waiting : comp.waiting ≡ []

-- two plays with the same first n external events
pub record Agree (P Q : Play) (n : ℕ) : Type 0 where
  pub first_states : P.first_states ≡ Q.first_states
  pub first_tables : P.first_tables ≡ Q.first_tables
  pub node : (k : ℕ) → k < n → P.node k ≡ Q.node k
  pub decl : (k : ℕ) → k < n → P.decl k ≡ Q.decl k
  pub change : (k : ℕ) → k < n → P.change k ≡ Q.change k
  pub step : (k : ℕ) → k < n → P.step k ≡ Q.step k
  pub budget : (k : ℕ) → k < n → P.budget k ≡ Q.budget k
  pub root : (k : ℕ) → k < n → P.root k ≡ Q.root k
  pub args : (k : ℕ) → k < n → P.args k ≡ Q.args k
