-- What was bound to the events of a node after its first table.
use Rattle.std.specs.Prelude.{ℕ, zero, suc, List, [], ◌∷◌, ◌++◌, Option, Some, None, get_or, leb, if◌then◌else◌}
use Rattle.samoa_model.specs.declared.ids.HandlerId.{HandlerId}
use Rattle.samoa_model.specs.declared.script.TableDef.{TableDef}
use Rattle.samoa_model.specs.Scripts.{Table}
use Rattle.samoa_bind.specs.declared.history.Binding.{Binding}

-- what contracts see of the history of an event: its bindings, and for how many more there is room
pub record Past : Type 0 where
  pub bindings : List Binding
  pub room : ℕ

abbrev pub no_past : Past
no_past = record { bindings = []; room = 0 }

-- the last of these bindings that is no later than an epoch, or what was found before
abbrev pub found_after : ℕ → Option Binding → List Binding → Option Binding
found_after epoch before [] = before
found_after epoch before (b ∷ later) = found_after epoch (if leb b.epoch epoch then Some b else before) later

-- what stands for a row that isn't there
abbrev pub no_row : TableDef
no_row = record { event = record { 0 = 0 }; handlers = [] }

-- the handlers that a binding means
abbrev pub meant : List (List TableDef) → Binding → List HandlerId
meant changes b = (get_or (get_or changes b.change.0 []) b.row no_row).handlers

-- the handlers that were found, or the first ones
abbrev pub meant_or : List (List TableDef) → List HandlerId → Option Binding → List HandlerId
meant_or changes first None = first
meant_or changes first (Some b) = meant changes b

-- the table of an epoch, by the first table and the bindings of each event
abbrev pub table_in : List (List TableDef) → ℕ → Table → List (List Binding) → Table
table_in changes epoch [] histories = []
table_in changes epoch (first ∷ later) [] = first ∷ later
table_in changes epoch (first ∷ later) (h ∷ hs) = meant_or changes first (found_after epoch None h) ∷ table_in changes epoch later hs

-- the tables of the first n epochs
abbrev pub tables_to : (ℕ → Table) → ℕ → List Table
tables_to table zero = []
tables_to table (suc n) = tables_to table n ++ table n ∷ []
