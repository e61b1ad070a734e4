-- What the fields of the tables hold.
use Rattle.std.specs.Prelude.{◌≡◌, ◌≤◌, ◌<◌, ℕ, suc, List, [], All, get_or, length, map, replicate}
use Rattle.samoa_model.specs.declared.script.TableDef.{TableDef}
use Rattle.samoa_model.specs.Scripts.{Table}
use Rattle.samoa_bind.specs.declared.history.Binding.{Binding}
use Rattle.samoa_bind.specs.declared.epochs.Epochs.{Epochs}
use Rattle.samoa_bind.specs.declared.tables.Tables.TheInside.{Inside}
use Rattle.samoa_bind.specs.Bound.{Bindings}
use Rattle.samoa_bind.specs.Histories.{no_past, table_in, tables_to}

-- the bindings of each event of a node
abbrev pub histories_of : Epochs → List (List Binding)
histories_of node = map (λ h. h.bindings) node.histories.items

-- the tables of a node, from epoch 0 to its last one
abbrev pub tables_of : List (List TableDef) → Table → Epochs → List Table
tables_of changes first node = tables_to (λ epoch. table_in changes epoch first (histories_of node)) (suc node.last)

-- each row is of an event
abbrev pub AreRows : ℕ → List (List TableDef) → Type 0
AreRows events changes = All (λ (rows : List TableDef). All (λ (row : TableDef). row.event.0 < events) rows) changes

-- a binding is of an epoch that there is, and of a row of a change
pub record IsBinding (changes : List (List TableDef)) (last : ℕ) (b : Binding) : Type 0 where
  pub epoch : b.epoch ≤ last
  pub change : b.change.0 < length changes
  pub row : b.row < length (get_or changes b.change.0 [])

-- for each row there is room at its event for all rows of its change
abbrev pub HasRoom : List (List TableDef) → Epochs → Type 0
HasRoom changes node =
    All (λ (rows : List TableDef). All (λ (row : TableDef). length rows ≤ (get_or node.histories.items row.event.0 no_past).room) rows) changes

-- a node has a history for each event
pub record IsNode (events : ℕ) (changes : List (List TableDef)) (room : ℕ) (node : Epochs) : Type 0 where
  pub size : length node.histories.items ≡ events
  pub bindings : All (λ (h : List Binding). All (IsBinding changes node.last) h) (histories_of node)
  pub spare : 0 < room → HasRoom changes node

-- a node with one epoch, in which nothing was bound
pub record IsFirst (events : ℕ) (node : Epochs) : Type 0 where
  pub last : node.last ≡ 0
  pub histories : histories_of node ≡ replicate events []

-- a node that has the same bindings, and no less room
pub record IsRoomier (before after : Epochs) : Type 0 where
  pub last : after.last ≡ before.last
  pub histories : histories_of after ≡ histories_of before
  pub room : (event : ℕ) → (get_or before.histories.items event no_past).room ≤ (get_or after.histories.items event no_past).room

abbrev pub bindings_in : Inside → Bindings
bindings_in t = record { epochs = map (tables_of t.changes.items t.first.items) t.nodes.items; changes = t.changes.items; room = t.room }

pub record IsKept (t : Inside) : Type 0 where
  pub rows : AreRows (length t.first.items) t.changes.items
  pub nodes : All (IsNode (length t.first.items) t.changes.items t.room) t.nodes.items
