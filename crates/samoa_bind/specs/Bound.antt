-- The tables of each node by epoch.
use Rattle.std.specs.Prelude.{ℕ, ◌-◌, List, [], ◌∷◌, ◌++◌, length, map, get_or, set, replicate}
use Rattle.samoa_model.specs.declared.ids.NodeId.{NodeId}
use Rattle.samoa_model.specs.declared.ids.ChangeId.{ChangeId}
use Rattle.samoa_model.specs.declared.script.TableDef.{TableDef}
use Rattle.samoa_model.specs.declared.script.Script.{Script}
use Rattle.samoa_model.specs.Scripts.{Table, first_table, rebound}

-- the tables of each node by epoch, the lists of each change, and for how many changes there is room
pub record Bindings : Type 0 where
  pub epochs : List (List Table)
  pub changes : List (List TableDef)
  pub room : ℕ

-- the tables of a node, by epoch
abbrev pub epochs_of : Bindings → NodeId → List Table
epochs_of tables node = get_or tables.epochs node.0 []

-- the table of a node in an epoch of it
abbrev pub table_at : Bindings → NodeId → ℕ → Table
table_at tables node epoch = get_or (epochs_of tables node) epoch []

-- the present table of a node, which is that of its last epoch
abbrev pub last_table : Bindings → NodeId → Table
last_table tables node = table_at tables node (length (epochs_of tables node) - 1)

-- the lists of a change
abbrev pub lists_of : Bindings → ChangeId → List TableDef
lists_of tables change = get_or tables.changes change.0 []

-- the tables with one more epoch at a node, whose table is the last one with the lists of a change in their places
abbrev pub with_change : Bindings → NodeId → ChangeId → List (List Table)
with_change tables node change =
    set tables.epochs node.0 (epochs_of tables node ++ rebound (lists_of tables change) (last_table tables node) ∷ [])

-- each node has one epoch at first, and there is room for no change
abbrev pub first_tables : Script → Bindings
first_tables script = record {
  epochs = replicate script.nodes (first_table script ∷ []);
  changes = map (λ c. c.table) script.changes;
  room = 0;
}
