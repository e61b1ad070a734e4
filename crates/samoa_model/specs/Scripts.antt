-- What a script says of its nodes: who stands where, and what is bound to what.
use Rattle.std.specs.Prelude.{ℕ, ◌==◌, if◌then◌else◌, List, [], ◌∷◌, map, get_or, set}
use Rattle.samoa_model.specs.declared.ids.EventId.{EventId}
use Rattle.samoa_model.specs.declared.ids.HandlerId.{HandlerId}
use Rattle.samoa_model.specs.declared.setup.Kind.TheVariants.{Prog}
use Rattle.samoa_model.specs.declared.setup.Setup.{Setup}
use Rattle.samoa_model.specs.declared.record.Cause.{Cause}
use Rattle.samoa_model.specs.declared.record.Cause.TheVariants.{Event, Change}
use Rattle.samoa_model.specs.declared.record.Ext.{Ext}
use Rattle.samoa_model.specs.declared.script.Decl.{Decl}
use Rattle.samoa_model.specs.declared.script.MicroDef.{MicroDef}
use Rattle.samoa_model.specs.declared.script.CodeDef.{CodeDef}
use Rattle.samoa_model.specs.declared.script.DeclDef.{DeclDef}
use Rattle.samoa_model.specs.declared.script.EventDef.{EventDef}
use Rattle.samoa_model.specs.declared.script.TableDef.{TableDef}
use Rattle.samoa_model.specs.declared.script.ChangeDef.{ChangeDef}
use Rattle.samoa_model.specs.declared.script.Script.{Script}

-- what a number that names nothing stands for
abbrev pub no_micro : MicroDef
no_micro = record { name = []; kind = Prog; nums = []; ports = []; changes = []; handlers = [] }

abbrev pub no_code : CodeDef
no_code = record { name = []; code = [] }

abbrev pub no_decl : DeclDef
no_decl = record { name = []; budget = 0; decl = Decl.Set [] }

abbrev pub no_event : EventDef
no_event = record { name = []; decl = 0; handlers = [] }

abbrev pub no_change : ChangeDef
no_change = record { name = []; event = record { 0 = 0 }; table = [] }

-- the parts of a script by their numbers
abbrev pub micro_at : Script → ℕ → MicroDef
micro_at script p = get_or script.micros p no_micro

abbrev pub decl_at : Script → ℕ → DeclDef
decl_at script d = get_or script.decls d no_decl

abbrev pub event_at : Script → ℕ → EventDef
event_at script e = get_or script.events e no_event

abbrev pub change_at : Script → ℕ → ChangeDef
change_at script c = get_or script.changes c no_change

-- what the microprotocol of a slot is set up with
abbrev pub setup_of : Script → ℕ → ℕ → Setup
setup_of script node p =
    let micro = micro_at script p in
    record {
      node = record { 0 = node };
      nodes = script.nodes;
      ports = micro.ports;
      changes = micro.changes;
      nums = micro.nums;
      codes = map (λ c. c.code) micro.handlers;
    }

-- the event that is called when a computation begins
abbrev pub root_of : Script → Cause → EventId
root_of script (Event event) = event
root_of script (Change change) = (change_at script change.0).event

-- the declaration under which a computation runs: that of its root event
abbrev pub decl_of : Script → Ext → DeclDef
decl_of script ext = decl_at script (event_at script (root_of script ext.cause).0).decl

-- the handlers of each event, by its number
abbrev pub Table : Type 0
Table = List (List HandlerId)

-- an event's handlers in a table
abbrev pub resolve : Table → EventId → List HandlerId
resolve table event = get_or table event.0 []

abbrev pub first_table : Script → Table
first_table script = map (λ e. e.handlers) script.events

-- the table with new handlers for some events
abbrev pub rebound : List TableDef → Table → Table
rebound [] table = table
rebound (t ∷ ts) table = rebound ts (set table t.event.0 t.handlers)

abbrev pub caused : Script → Cause → Table → Table
caused script (Event event) table = table
caused script (Change change) table = rebound (change_at script change.0).table table

-- the table of a node after one more admission: a rebinding at that node changes it
abbrev pub table_after : Script → ℕ → Table → Ext → Table
table_after script node table ext = if ext.node.0 == node then caused script ext.cause table else table

abbrev pub table_from : Script → ℕ → Table → List Ext → Table
table_from script node table [] = table
table_from script node table (ext ∷ later) = table_from script node (table_after script node table ext) later

-- the table of a node after all these were admitted
abbrev pub table_of : Script → List Ext → ℕ → Table
table_of script exts node = table_from script node (first_table script) exts
