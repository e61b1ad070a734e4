-- A computation with the number of its declaration, as contracts see it.
use Rattle.std.specs.Prelude.{ℕ, List, [], ◌∷◌, ◌++◌}
use Rattle.samoa_model.specs.declared.ids.HandlerId.{HandlerId}
use Rattle.samoa_model.specs.Scripts.{Table, resolve}
use Rattle.samoa_serial.specs.declared.call.Waiting.{Waiting}
use Rattle.samoa_serial.specs.Calls.{Computation}

-- a computation, and the handlers of its calls that wait
pub record Calling : Type 0 where
  pub comp : Computation
  pub open comp use *
  pub waiting_handlers : List HandlerId

-- the same, with the number of its declaration
pub record Held : Type 0 where
  pub decl : ℕ
  pub comp : Computation
  pub open comp use *
  pub waiting_handlers : List HandlerId

-- the handlers of waiting calls by a table, call by call
abbrev pub handlers_of : Table → List Waiting → List HandlerId
handlers_of table [] = []
handlers_of table (w ∷ ws) = resolve table w.event ++ handlers_of table ws
