-- The canonical tree of a script: every optional key stands with its value, keys stand in byte order, and lists in
-- script order. A key that belongs to another kind or form doesn't stand.
use Rattle.std.specs.Prelude.{ℕ, Bool, true, false, List, [], ◌∷◌, map, codes, get_or}
use Rattle.serde_json.specs.Data.{Data, number, unsigned, string, array, object, Members, member, no_members}
use Rattle.serde_json.specs.View.{items_of}
use Rattle.samoa_model.specs.Allowed.{no_handler}
use Rattle.samoa_model.specs.Handlers.{handler_text}
use Rattle.samoa_model.specs.declared.ids.EventId.{EventId}
use Rattle.samoa_model.specs.declared.ids.ChangeId.{ChangeId}
use Rattle.samoa_model.specs.declared.ids.HandlerId.{HandlerId}
use Rattle.samoa_model.specs.declared.setup.Place.{Place}
use Rattle.samoa_model.specs.declared.setup.Instr.{Instr}
use Rattle.samoa_model.specs.declared.setup.Instr.TheVariants as instr
use Rattle.samoa_model.specs.declared.record.Cause.{Cause}
use Rattle.samoa_model.specs.declared.record.Cause.TheVariants.{Event, Change}
use Rattle.samoa_model.specs.declared.script.CodeDef.{CodeDef}
use Rattle.samoa_model.specs.declared.script.MicroDef.{MicroDef}
use Rattle.samoa_model.specs.declared.script.Decl.{Decl}
use Rattle.samoa_model.specs.declared.script.DeclDef.{DeclDef}
use Rattle.samoa_model.specs.declared.script.EventDef.{EventDef}
use Rattle.samoa_model.specs.declared.script.TableDef.{TableDef}
use Rattle.samoa_model.specs.declared.script.ChangeDef.{ChangeDef}
use Rattle.samoa_model.specs.declared.script.DoDef.{DoDef}
use Rattle.samoa_model.specs.declared.script.LossDef.{LossDef}
use Rattle.samoa_model.specs.declared.script.CrashDef.{CrashDef}
use Rattle.samoa_model.specs.declared.script.Script.{Script}
use Rattle.samoa_grammar.specs.Forms.{is_prog}
use Rattle.samoa_print.specs.Texts.{micro_text, decl_text, event_text, change_text, kind_text, place_text}

abbrev pub number_tree : ℕ → Data
number_tree n = number (unsigned n)

abbrev pub list_tree : {X : Type 0} → (X → Data) → List X → Data
list_tree tree xs = array (items_of (map tree xs))

-- ---- names

abbrev pub event_name_tree : Script → EventId → Data
event_name_tree script event = string (event_text script event)

abbrev pub change_name_tree : Script → ChangeId → Data
change_name_tree script change = string (change_text script change)

abbrev pub handler_name_tree : Script → HandlerId → Data
handler_name_tree script handler = string (handler_text script handler)

abbrev pub micro_name_tree : Script → ℕ → Data
micro_name_tree script p = string (micro_text script p)

-- ---- microprotocols

abbrev pub place_tree : Place → Data
place_tree place = string (place_text place)

abbrev pub instr_items : Instr → List Data
instr_items (instr.Set d n) = string (codes "set") ∷ place_tree d ∷ number_tree n ∷ []
instr_items (instr.Copy d s) = string (codes "copy") ∷ place_tree d ∷ place_tree s ∷ []
instr_items (instr.Add d s) = string (codes "add") ∷ place_tree d ∷ place_tree s ∷ []
instr_items (instr.Sub d s) = string (codes "sub") ∷ place_tree d ∷ place_tree s ∷ []
instr_items (instr.Less s t j) = string (codes "less") ∷ place_tree s ∷ place_tree t ∷ number_tree j ∷ []
instr_items (instr.Call port k) = string (codes "call") ∷ number_tree port ∷ number_tree k ∷ []
instr_items (instr.Later port k) = string (codes "later") ∷ number_tree port ∷ number_tree k ∷ []
instr_items (instr.Send s port k) = string (codes "send") ∷ place_tree s ∷ number_tree port ∷ number_tree k ∷ []
instr_items (instr.Deliver k) = string (codes "deliver") ∷ number_tree k ∷ []
instr_items (instr.Change c k) = string (codes "change") ∷ number_tree c ∷ number_tree k ∷ []
instr_items (instr.Done k) = string (codes "done") ∷ number_tree k ∷ []

unfoldable pub instr_tree : Instr → Data
instr_tree i = array (items_of (instr_items i))

unfoldable pub code_tree : CodeDef → Data
code_tree c = object (
    member (codes "code") (list_tree instr_tree c.code)
    (member (codes "name") (string c.name) no_members))

abbrev pub with_handlers : Bool → List CodeDef → Members → Members
with_handlers true handlers rest = member (codes "handlers") (list_tree code_tree handlers) rest
with_handlers false handlers rest = rest

-- the keys of every kind, after its changes and its handlers
abbrev pub kind_members : Script → MicroDef → Members
kind_members script m =
    member (codes "kind") (string (kind_text m.kind))
    (member (codes "name") (string m.name)
    (member (codes "nums") (list_tree number_tree m.nums)
    (member (codes "ports") (list_tree (event_name_tree script) m.ports) no_members)))

abbrev pub micro_members : Bool → Script → MicroDef → Members
micro_members handlers script m =
    member (codes "changes") (list_tree (change_name_tree script) m.changes) (with_handlers handlers m.handlers (kind_members script m))

-- the scripted kind alone has handlers in its table
unfoldable pub micro_tree : Script → MicroDef → Data
micro_tree script m = object (micro_members (is_prog m.kind) script m)

-- ---- declarations

unfoldable pub bound_tree : Script → ℕ × ℕ → Data
bound_tree script b = object (
    member (codes "calls") (number_tree b.1)
    (member (codes "micro") (micro_name_tree script b.0) no_members))

-- a vertex of a route by its number
abbrev pub vertex_tree : Script → List HandlerId → ℕ → Data
vertex_tree script vertices v = handler_name_tree script (get_or vertices v no_handler)

unfoldable pub edge_tree : Script → List HandlerId → ℕ × ℕ → Data
edge_tree script vertices e = array (items_of (vertex_tree script vertices e.0 ∷ vertex_tree script vertices e.1 ∷ []))

abbrev pub decl_members : Script → List ℕ → ℕ → Decl → Members
decl_members script name budget (Decl.Set micros) =
    member (codes "budget") (number_tree budget)
    (member (codes "form") (string (codes "set"))
    (member (codes "micros") (list_tree (micro_name_tree script) micros)
    (member (codes "name") (string name) no_members)))
decl_members script name budget (Decl.Bound bounds) =
    member (codes "bounds") (list_tree (bound_tree script) bounds)
    (member (codes "budget") (number_tree budget)
    (member (codes "form") (string (codes "bound"))
    (member (codes "name") (string name) no_members)))
decl_members script name budget (Decl.Route vertices roots edges) =
    member (codes "budget") (number_tree budget)
    (member (codes "edges") (list_tree (edge_tree script vertices) edges)
    (member (codes "form") (string (codes "route"))
    (member (codes "name") (string name)
    (member (codes "roots") (list_tree (vertex_tree script vertices) roots) no_members))))

unfoldable pub decl_tree : Script → DeclDef → Data
decl_tree script d = object (decl_members script d.name d.budget d.decl)

-- ---- events and changes

unfoldable pub event_tree : Script → EventDef → Data
event_tree script e = object (
    member (codes "decl") (string (decl_text script e.decl))
    (member (codes "handlers") (list_tree (handler_name_tree script) e.handlers)
    (member (codes "name") (string e.name) no_members)))

unfoldable pub table_tree : Script → TableDef → Data
table_tree script t = object (
    member (codes "event") (event_name_tree script t.event)
    (member (codes "handlers") (list_tree (handler_name_tree script) t.handlers) no_members))

unfoldable pub change_tree : Script → ChangeDef → Data
change_tree script c = object (
    member (codes "event") (event_name_tree script c.event)
    (member (codes "name") (string c.name)
    (member (codes "table") (list_tree (table_tree script) c.table) no_members)))

-- ---- what happens to the stack

abbrev pub cause_members : Script → Cause → Members → Members
cause_members script (Event event) rest = member (codes "event") (event_name_tree script event) rest
cause_members script (Change change) rest = member (codes "change") (change_name_tree script change) rest

abbrev pub do_members : Script → DoDef → Cause → Members
do_members script item cause =
    member (codes "args") (list_tree number_tree item.args)
    (cause_members script cause
    (member (codes "node") (number_tree item.node.0)
    (member (codes "tick") (number_tree item.tick) no_members)))

unfoldable pub do_tree : Script → DoDef → Data
do_tree script item = object (do_members script item item.cause)

unfoldable pub loss_tree : LossDef → Data
loss_tree l = object (
    member (codes "first") (number_tree l.first)
    (member (codes "from") (number_tree l.from.0)
    (member (codes "last") (number_tree l.last)
    (member (codes "to") (number_tree l.to.0) no_members))))

unfoldable pub crash_tree : CrashDef → Data
crash_tree c = object (
    member (codes "node") (number_tree c.node.0)
    (member (codes "tick") (number_tree c.tick) no_members))

-- ---- the whole

-- the keys from `lose` on
abbrev pub stack_members : Script → Members
stack_members script =
    member (codes "lose") (list_tree loss_tree script.losses)
    (member (codes "micros") (list_tree (micro_tree script) script.micros)
    (member (codes "nodes") (number_tree script.nodes)
    (member (codes "ticks") (number_tree script.ticks)
    (member (codes "version") (number_tree 1) no_members))))

-- the keys from `decls` on
abbrev pub binding_members : Script → Members
binding_members script =
    member (codes "decls") (list_tree (decl_tree script) script.decls)
    (member (codes "do") (list_tree (do_tree script) script.does)
    (member (codes "events") (list_tree (event_tree script) script.events) (stack_members script)))

unfoldable pub tree_of : Script → Data
tree_of script = object (
    member (codes "changes") (list_tree (change_tree script) script.changes)
    (member (codes "crash") (list_tree crash_tree script.crashes) (binding_members script)))
