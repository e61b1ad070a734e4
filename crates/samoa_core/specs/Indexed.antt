-- The lists of an index are those of the computations of a core.
use Rattle.std.specs.Prelude.{◌≡◌, ◌+◌, ◌*◌, ◌-◌, ◌<◌, ◌≤◌, ℕ, List, length, slice_get, Bool, Some}
use Rattle.samoa_invariant.specs.Index.{Index, IsIndexed, placed}
use Rattle.samoa_invariant.specs.Runs.{Trace, play, state}
use Rattle.samoa_control.specs.Grids.{Grid}
use Rattle.samoa_control.specs.Since.{cleared_comps}
use Rattle.samoa_core.specs.Rows.{IsSized, Rows}

-- one row after another; more may follow
pub record Table {A : Type 0} (rows columns : ℕ) (items : List A) (f : ℕ → ℕ → A) : Type 0 where
  pub long : rows * columns ≤ length items
  pub value : (i j : ℕ) → i < rows → j < columns → slice_get items (i * columns + j) ≡ Some (f i j)

-- a set of places, from the first computation on, has those that are marked
abbrev pub Marks : ℕ → List Bool → (ℕ → Bool) → Type 0
Marks first members marked = (k : ℕ) → first ≤ k → placed first members k ≡ marked k

-- the lists are those of an index of so many computations, of which those before the first were cleared away
pub record Keeps (nodes columns first count : ℕ) (rows : Rows) (index : Index) : Type 0 where
  pub micros : rows.micros ≡ columns
  pub heads : Grid nodes columns rows.heads index.head
  pub tails : Grid nodes columns rows.tails index.tail
  pub nexts : Table (count - first) columns rows.nexts (λ i p. index.next (first + i) p)
  pub sized : IsSized rows
  pub ready : Marks first rows.ready index.ready
  pub restless : Marks first rows.restless index.restless
  pub closing : Marks first rows.closing index.closing

abbrev pub IsKeptAt : Trace → Rows → Index → Type 0
IsKeptAt t rows g = Keeps t.script.nodes (length t.script.micros) (cleared_comps t) (state t).count rows g

-- they are those of an index of the core
pub record IsIndexedBy (t : Trace) (rows : Rows) : Type 0 where
  pub index : Index
  pub keeps : IsKeptAt t rows index
  pub is : IsIndexed (play t) (cleared_comps t) (state t) index
