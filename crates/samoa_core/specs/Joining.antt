-- A computation that was just admitted comes into the index.
use Rattle.std.specs.Prelude.{◌≡◌, ◌-◌, ◌*◌, ◌<◌, ◌≤◌, ℕ, length, Bool, ◌&&◌, ◌==◌, if◌then◌else◌, nat_lt, Some, None}
use Rattle.samoa_model.specs.Allowed.{weight}
use Rattle.samoa_invariant.specs.Index.{Index, Notes, TellsNotes, admitted, is_tail, or_else}
use Rattle.samoa_invariant.specs.Runs.{Trace, play, state}
use Rattle.samoa_control.specs.Since.{cleared_comps}
use Rattle.samoa_core.specs.Indexed.{IsKeptAt, Keeps}
use Rattle.samoa_core.specs.Rows.{Rows}

-- the last one that was admitted, and its node
abbrev pub last_one : Trace → ℕ
last_one t = (state t).count - 1

abbrev pub last_node : Trace → ℕ
last_node t = (play t).node (last_one t)

-- whether it declares a microprotocol, of the first ones
abbrev pub named_to : Trace → ℕ → ℕ → Bool
named_to t m p = nat_lt 0 (weight ((play t).decl (last_one t)) p) && nat_lt p m

-- computation k at node v comes last in the queue of each microprotocol that is named
abbrev pub joined : Index → ℕ → ℕ → (ℕ → Bool) → Index
joined index k v named = record index {
  head = λ u p. if (u == v) && named p then or_else (index.head u p) k else index.head u p;
  tail = λ u p. if (u == v) && named p then Some k else index.tail u p;
  next = λ j p. if j == k then None else (if named p && is_tail (index.tail v p) j then Some k else index.next j p);
}

-- it is in the queues of the first microprotocols
abbrev pub Joins : Trace → Rows → Index → ℕ → Type 0
Joins t rows g m = IsKeptAt t rows (joined g (last_one t) (last_node t) (named_to t m))

-- who comes last in a queue was admitted before it, since the last clear
abbrev pub TailsWithin : Trace → Index → Type 0
TailsWithin t g = (v p j : ℕ) → g.tail v p ≡ Some j → (cleared_comps t ≤ j) × (j < last_one t)

pub record CanJoin (t : Trace) (rows : Rows) (m : ℕ) : Type 0 where
  pub index : Index
  pub joins : Joins t rows index m
  pub within : TailsWithin t index

-- the lists are those of the computations before it
abbrev pub WasKeptFor : Trace → Rows → Index → Type 0
WasKeptFor t rows g = Keeps t.script.nodes (length t.script.micros) (cleared_comps t) (last_one t) rows g

-- and have a row for it
pub record HasRowFor (t : Trace) (rows : Rows) : Type 0 where
  pub index : Index
  pub kept : WasKeptFor t rows index
  pub within : TailsWithin t index
  pub long : ((state t).count - cleared_comps t) * length t.script.micros ≤ length rows.nexts

-- it is in the index
pub record HasAdmitted (t : Trace) (rows : Rows) (g : Index) : Type 0 where
  pub notes : Notes
  pub tells : TellsNotes (play t) (state t) (last_one t) notes
  pub keeps : IsKeptAt t rows (admitted g (last_one t) (last_node t) (named_to t (length t.script.micros)) notes)
