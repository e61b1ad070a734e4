-- What a script means whose names are all defined: each name becomes the number of what it names.
use Rattle.std.specs.Prelude.{ℕ, Bool, ◌&&◌, ◌==◌, List, [], ◌∷◌, ◌++◌, map, bytes_eq, get_or, Option, option_map, option_and_then, unwrap_or, if◌then◌else◌}
use Rattle.std.specs.List.{list_any, flat_map, position}
use Rattle.samoa_model.specs.declared.ids.EventId.{EventId}
use Rattle.samoa_model.specs.declared.ids.ChangeId.{ChangeId}
use Rattle.samoa_model.specs.declared.ids.HandlerId.{HandlerId}
use Rattle.samoa_model.specs.declared.setup.Kind.TheVariants.{Prog}
use Rattle.samoa_model.specs.declared.record.Cause.{Cause}
use Rattle.samoa_model.specs.declared.record.Cause.TheVariants as causes
use Rattle.samoa_model.specs.declared.script.CodeDef.{CodeDef}
use Rattle.samoa_model.specs.declared.script.MicroDef.{MicroDef}
use Rattle.samoa_model.specs.declared.script.Decl.{Decl}
use Rattle.samoa_model.specs.declared.script.DeclDef.{DeclDef}
use Rattle.samoa_model.specs.declared.script.EventDef.{EventDef}
use Rattle.samoa_model.specs.declared.script.TableDef.{TableDef}
use Rattle.samoa_model.specs.declared.script.ChangeDef.{ChangeDef}
use Rattle.samoa_model.specs.declared.script.DoDef.{DoDef}
use Rattle.samoa_model.specs.declared.script.LossDef.{LossDef}
use Rattle.samoa_model.specs.declared.script.CrashDef.{CrashDef}
use Rattle.samoa_model.specs.declared.script.Script.{Script}
use Rattle.samoa_model.specs.Allowed.{same_handler, no_handler}
use Rattle.samoa_model.specs.Handlers.{handlers_of_kind}
use Rattle.samoa_model.specs.Routes.{once}
use Rattle.samoa_grammar.specs.Names.{micro_part, handler_part}
use Rattle.samoa_grammar.specs.declared.draft.MicroDraft.{MicroDraft}
use Rattle.samoa_grammar.specs.declared.draft.BoundDraft.{BoundDraft}
use Rattle.samoa_grammar.specs.declared.draft.EdgeDraft.{EdgeDraft}
use Rattle.samoa_grammar.specs.declared.draft.BodyDraft.{BodyDraft}
use Rattle.samoa_grammar.specs.declared.draft.BodyDraft.TheVariants as bodies
use Rattle.samoa_grammar.specs.declared.draft.DeclDraft.{DeclDraft}
use Rattle.samoa_grammar.specs.declared.draft.EventDraft.{EventDraft}
use Rattle.samoa_grammar.specs.declared.draft.TableDraft.{TableDraft}
use Rattle.samoa_grammar.specs.declared.draft.ChangeDraft.{ChangeDraft}
use Rattle.samoa_grammar.specs.declared.draft.CauseDraft.{CauseDraft}
use Rattle.samoa_grammar.specs.declared.draft.CauseDraft.TheVariants.{Event, Change}
use Rattle.samoa_grammar.specs.declared.draft.DoDraft.{DoDraft}
use Rattle.samoa_grammar.specs.declared.draft.LossDraft.{LossDraft}
use Rattle.samoa_grammar.specs.declared.draft.CrashDraft.{CrashDraft}
use Rattle.samoa_grammar.specs.declared.draft.Draft.{Draft}

-- the number of a name in a list of names
abbrev pub number_in_names : List (List ℕ) → List ℕ → ℕ
number_in_names names name = unwrap_or (position (bytes_eq name) names) 0

-- ---- handlers

-- the handlers of a microprotocol: those of its script, and those of its kind
abbrev pub handler_names : MicroDraft → List (List ℕ)
handler_names m = map (λ (h : CodeDef). h.name) m.handlers ++ handlers_of_kind m.kind

abbrev pub no_micro_draft : MicroDraft
no_micro_draft = record { name = []; kind = Prog; nums = []; ports = []; changes = []; handlers = [] }

-- the handler that a name names, if there is one
abbrev pub handler_in : List MicroDraft → List ℕ → Option HandlerId
handler_in micros name =
    option_and_then
    (λ p. option_map (λ h. record { micro = record { 0 = p }; index = h }) (position (bytes_eq (handler_part name)) (handler_names (get_or micros p no_micro_draft))))
    (position (bytes_eq (micro_part name)) (map (λ (m : MicroDraft). m.name) micros))

abbrev pub handler_of : List MicroDraft → List ℕ → HandlerId
handler_of micros name = unwrap_or (handler_in micros name) no_handler

-- ---- routes

-- the handlers of a route: its roots, and then the ends of its edges
abbrev pub vertices_of : List MicroDraft → List (List ℕ) → List EdgeDraft → List HandlerId
vertices_of micros roots edges =
    once (map (handler_of micros) roots ++ flat_map (λ (e : EdgeDraft). handler_of micros e.from ∷ handler_of micros e.to ∷ []) edges)

abbrev pub vertex_of : List HandlerId → HandlerId → ℕ
vertex_of vertices handler = unwrap_or (position (same_handler handler) vertices) 0

abbrev pub same_edge : (ℕ × ℕ) → (ℕ × ℕ) → Bool
same_edge a b = (a.0 == b.0) && (a.1 == b.1)

-- each edge once, in first-seen order
abbrev pub edges_after : List (ℕ × ℕ) → List (ℕ × ℕ) → List (ℕ × ℕ)
edges_after before [] = []
edges_after before (e ∷ es) = if list_any (same_edge e) before then edges_after before es else e ∷ edges_after (before ++ e ∷ []) es

abbrev pub edge_numbers : List MicroDraft → List HandlerId → EdgeDraft → ℕ × ℕ
edge_numbers micros vertices e = (vertex_of vertices (handler_of micros e.from), vertex_of vertices (handler_of micros e.to))

abbrev pub route_of : List MicroDraft → List (List ℕ) → List EdgeDraft → List HandlerId → Decl
route_of micros roots edges vertices =
    Decl.Route vertices
    (map (vertex_of vertices) (once (map (handler_of micros) roots)))
    (edges_after [] (map (edge_numbers micros vertices) edges))

-- ---- the parts of a script

abbrev pub micros_named : Draft → List (List ℕ)
micros_named x = map (λ (m : MicroDraft). m.name) x.micros

abbrev pub event_named : Draft → List ℕ → EventId
event_named x name = record { 0 = number_in_names (map (λ (e : EventDraft). e.name) x.events) name }

abbrev pub change_named : Draft → List ℕ → ChangeId
change_named x name = record { 0 = number_in_names (map (λ (c : ChangeDraft). c.name) x.changes) name }

unfoldable pub micro_meant : Draft → MicroDraft → MicroDef
micro_meant x m = record {
  name = m.name;
  kind = m.kind;
  nums = m.nums;
  ports = map (event_named x) m.ports;
  changes = map (change_named x) m.changes;
  handlers = m.handlers;
}

abbrev pub body_meant : Draft → BodyDraft → Decl
body_meant x (bodies.Set micros) = Decl.Set (map (number_in_names (micros_named x)) micros)
body_meant x (bodies.Bound bounds) = Decl.Bound (map (λ (b : BoundDraft). (number_in_names (micros_named x) b.micro, b.calls)) bounds)
body_meant x (bodies.Route roots edges) = route_of x.micros roots edges (vertices_of x.micros roots edges)

unfoldable pub decl_meant : Draft → DeclDraft → DeclDef
decl_meant x d = record { name = d.name; budget = d.budget; decl = body_meant x d.body }

unfoldable pub event_meant : Draft → EventDraft → EventDef
event_meant x e = record {
  name = e.name;
  decl = number_in_names (map (λ (d : DeclDraft). d.name) x.decls) e.decl;
  handlers = map (handler_of x.micros) e.handlers;
}

unfoldable pub table_meant : Draft → TableDraft → TableDef
table_meant x t = record { event = event_named x t.event; handlers = map (handler_of x.micros) t.handlers }

unfoldable pub change_meant : Draft → ChangeDraft → ChangeDef
change_meant x c = record { name = c.name; event = event_named x c.event; table = map (table_meant x) c.table }

abbrev pub cause_meant : Draft → CauseDraft → Cause
cause_meant x (Event name) = causes.Event (event_named x name)
cause_meant x (Change name) = causes.Change (change_named x name)

unfoldable pub do_meant : Draft → DoDraft → DoDef
do_meant x item = record { tick = item.tick; node = record { 0 = item.node }; cause = cause_meant x item.cause; args = item.args }

abbrev pub loss_meant : LossDraft → LossDef
loss_meant l = record { from = record { 0 = l.from }; to = record { 0 = l.to }; first = l.first; last = l.last }

abbrev pub crash_meant : CrashDraft → CrashDef
crash_meant c = record { node = record { 0 = c.node }; tick = c.tick }

unfoldable pub script_of : Draft → Script
script_of x = record {
  nodes = x.nodes;
  ticks = x.ticks;
  micros = map (micro_meant x) x.micros;
  decls = map (decl_meant x) x.decls;
  events = map (event_meant x) x.events;
  changes = map (change_meant x) x.changes;
  does = map (do_meant x) x.does;
  losses = map loss_meant x.losses;
  crashes = map crash_meant x.crashes;
}
