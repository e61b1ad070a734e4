-- Where the edges of a route lead, one call after another, and when a computation may be done with a microprotocol.
use Rattle.std.specs.Prelude.{◌≡◌, ◌≢◌, ℕ, List, [], ◌∷◌, ◌++◌, Some, true}
use Rattle.std.specs.List.{All}
use Rattle.samoa_model.specs.declared.ids.EventId.{EventId}
use Rattle.samoa_model.specs.declared.ids.HandlerId.{HandlerId}
use Rattle.samoa_model.specs.declared.script.Decl.{Decl}
use Rattle.samoa_model.specs.Allowed.{leads}
use Rattle.samoa_model.specs.Scripts.{Table, resolve}

-- from a handler: to itself, and from where they lead along one more edge
pub data Leads (vertices : List HandlerId) (edges : List (ℕ × ℕ)) (start : HandlerId) : HandlerId → Type 0 where
  Here : Leads vertices edges start start
  Then : (mid last : HandlerId) → Leads vertices edges start mid → leads vertices [] edges (Some mid) last ≡ true → Leads vertices edges start last

-- all that edges lead to from the handler, itself among it, is elsewhere than at p
abbrev pub IsSafe : List HandlerId → List (ℕ × ℕ) → ℕ → HandlerId → Type 0
IsSafe vertices edges p h = (u : HandlerId) → Leads vertices edges h u → u.micro.0 ≢ p

-- no call is active and none is waiting
pub record NothingLeft (active waiting : List HandlerId) : Type 0 where
  pub none_active : active ≡ []
  pub none_waiting : waiting ≡ []

-- no handler of an active or of a waiting call is at p, and edges lead there from none of them
pub record IsQuiet (vertices : List HandlerId) (edges : List (ℕ × ℕ)) (p : ℕ) (active waiting : List HandlerId) : Type 0 where
  pub active_away : All (IsSafe vertices edges p) active
  pub waiting_away : All (IsSafe vertices edges p) waiting

-- a computation with these handlers of active and of waiting calls may be done with p: under a set and a bound where
-- nothing is left of it, under a route where nothing leads to p any more
abbrev pub MayRelease : Decl → List HandlerId → List HandlerId → ℕ → Type 0
MayRelease (Decl.Set micros) active waiting p = NothingLeft active waiting
MayRelease (Decl.Bound bounds) active waiting p = NothingLeft active waiting
MayRelease (Decl.Route vertices roots edges) active waiting p = IsQuiet vertices edges p active waiting

-- the handlers of these events by a table, event by event
abbrev pub handlers_by : Table → List EventId → List HandlerId
handlers_by table [] = []
handlers_by table (event ∷ later) = resolve table event ++ handlers_by table later
