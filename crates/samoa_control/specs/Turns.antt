-- Handler steps that have begun.
use Rattle.std.specs.Prelude.{◌≡◌, ℕ, ◌-◌, ◌<◌, Some}
use Rattle.samoa_model.specs.declared.handler.Moment.{Moment}
use Rattle.samoa_model.specs.declared.handler.Outcome.{Outcome}
use Rattle.samoa_serial.specs.declared.call.Call.{Call}
use Rattle.samoa_serial.specs.Kinds.{Seen, after_step, outcome_of}
use Rattle.samoa_serial.specs.Alone.{next_step}
use Rattle.samoa_invariant.specs.Runs.{Trace, play, state}
use Rattle.samoa_control.specs.Places.{seen_in}

-- a handler step: of which computation, at which microprotocol, from which moment, and what its box was before it
pub record Going : Type 0 where
  pub comp : ℕ
  pub micro : ℕ
  pub moment : Moment
  pub before : Seen

-- what is seen of the box of a computation's slot, at home or out
abbrev pub box_of : Trace → ℕ → ℕ → Seen
box_of t comp micro = let node = (play t).node (comp - 1) in seen_in t.script node micro ((state t).boxes node micro)

-- it is the next handler step of its computation, from the state of its box
pub record IsNext (t : Trace) (g : Going) : Type 0 where
  pub call : Call
  pub next : next_step ((state t).comp (g.comp - 1)) ≡ Some (call, g.moment)
  pub is_at : call.handler.micro.0 ≡ g.micro
  pub before : g.before ≡ box_of t g.comp g.micro

-- it is the one that is out for its computation
pub record IsAway (t : Trace) (g : Going) : Type 0 where
  pub first : 0 < g.comp
  pub next : IsNext t g
  pub out : (state t).out ((play t).node (g.comp - 1)) g.micro ≡ Some (g.comp - 1)

-- what came of the next handler step of a computation: what its box is then, and the outcome
pub record HasCome (t : Trace) (comp micro : ℕ) (held : Seen) (outcome : Outcome) : Type 0 where
  pub call : Call
  pub moment : Moment
  pub next : next_step ((state t).comp (comp - 1)) ≡ Some (call, moment)
  pub is_at : call.handler.micro.0 ≡ micro
  pub box : held ≡ after_step (box_of t comp micro) moment
  pub gives : outcome ≡ outcome_of (box_of t comp micro) moment
