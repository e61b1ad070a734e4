-- A script with its names again.
use Rattle.std.specs.Prelude.{ℕ, Bool, true, false, List, [], map, get_or}
use Rattle.samoa_model.specs.Allowed.{no_handler}
use Rattle.samoa_model.specs.declared.ids.HandlerId.{HandlerId}
use Rattle.samoa_model.specs.declared.record.Cause.{Cause}
use Rattle.samoa_model.specs.declared.record.Cause.TheVariants as causes
use Rattle.samoa_model.specs.declared.script.CodeDef.{CodeDef}
use Rattle.samoa_model.specs.declared.script.MicroDef.{MicroDef}
use Rattle.samoa_model.specs.declared.script.Decl.{Decl}
use Rattle.samoa_model.specs.declared.script.DeclDef.{DeclDef}
use Rattle.samoa_model.specs.declared.script.EventDef.{EventDef}
use Rattle.samoa_model.specs.declared.script.TableDef.{TableDef}
use Rattle.samoa_model.specs.declared.script.ChangeDef.{ChangeDef}
use Rattle.samoa_model.specs.declared.script.DoDef.{DoDef}
use Rattle.samoa_model.specs.declared.script.LossDef.{LossDef}
use Rattle.samoa_model.specs.declared.script.CrashDef.{CrashDef}
use Rattle.samoa_model.specs.declared.script.Script.{Script}
use Rattle.samoa_grammar.specs.Forms.{is_prog}
use Rattle.samoa_grammar.specs.declared.draft.MicroDraft.{MicroDraft}
use Rattle.samoa_grammar.specs.declared.draft.BoundDraft.{BoundDraft}
use Rattle.samoa_grammar.specs.declared.draft.EdgeDraft.{EdgeDraft}
use Rattle.samoa_grammar.specs.declared.draft.BodyDraft.{BodyDraft}
use Rattle.samoa_grammar.specs.declared.draft.BodyDraft.TheVariants as bodies
use Rattle.samoa_grammar.specs.declared.draft.DeclDraft.{DeclDraft}
use Rattle.samoa_grammar.specs.declared.draft.EventDraft.{EventDraft}
use Rattle.samoa_grammar.specs.declared.draft.TableDraft.{TableDraft}
use Rattle.samoa_grammar.specs.declared.draft.ChangeDraft.{ChangeDraft}
use Rattle.samoa_grammar.specs.declared.draft.CauseDraft.{CauseDraft}
use Rattle.samoa_grammar.specs.declared.draft.CauseDraft.TheVariants.{Event, Change}
use Rattle.samoa_grammar.specs.declared.draft.DoDraft.{DoDraft}
use Rattle.samoa_grammar.specs.declared.draft.LossDraft.{LossDraft}
use Rattle.samoa_grammar.specs.declared.draft.CrashDraft.{CrashDraft}
use Rattle.samoa_grammar.specs.declared.draft.Draft.{Draft}
use Rattle.samoa_model.specs.Handlers.{handler_text}
use Rattle.samoa_print.specs.Texts.{micro_text, decl_text, event_text, change_text}

abbrev pub handlers_back : Bool → List CodeDef → List CodeDef
handlers_back true handlers = handlers
handlers_back false handlers = []

unfoldable pub micro_back : Script → MicroDef → MicroDraft
micro_back s m = record {
  name = m.name;
  kind = m.kind;
  nums = m.nums;
  ports = map (event_text s) m.ports;
  changes = map (change_text s) m.changes;
  handlers = handlers_back (is_prog m.kind) m.handlers;
}

unfoldable pub bound_back : Script → ℕ × ℕ → BoundDraft
bound_back s b = record { micro = micro_text s b.0; calls = b.1 }

abbrev pub vertex_text : Script → List HandlerId → ℕ → List ℕ
vertex_text s vertices v = handler_text s (get_or vertices v no_handler)

unfoldable pub edge_back : Script → List HandlerId → ℕ × ℕ → EdgeDraft
edge_back s vertices e = record { from = vertex_text s vertices e.0; to = vertex_text s vertices e.1 }

abbrev pub body_back : Script → Decl → BodyDraft
body_back s (Decl.Set micros) = bodies.Set (map (micro_text s) micros)
body_back s (Decl.Bound bounds) = bodies.Bound (map (bound_back s) bounds)
body_back s (Decl.Route vertices roots edges) = bodies.Route (map (vertex_text s vertices) roots) (map (edge_back s vertices) edges)

unfoldable pub decl_back : Script → DeclDef → DeclDraft
decl_back s d = record { name = d.name; budget = d.budget; body = body_back s d.decl }

unfoldable pub event_back : Script → EventDef → EventDraft
event_back s e = record { name = e.name; decl = decl_text s e.decl; handlers = map (handler_text s) e.handlers }

unfoldable pub table_back : Script → TableDef → TableDraft
table_back s t = record { event = event_text s t.event; handlers = map (handler_text s) t.handlers }

unfoldable pub change_back : Script → ChangeDef → ChangeDraft
change_back s c = record { name = c.name; event = event_text s c.event; table = map (table_back s) c.table }

abbrev pub cause_back : Script → Cause → CauseDraft
cause_back s (causes.Event event) = Event (event_text s event)
cause_back s (causes.Change change) = Change (change_text s change)

unfoldable pub do_back : Script → DoDef → DoDraft
do_back s item = record { tick = item.tick; node = item.node.0; cause = cause_back s item.cause; args = item.args }

unfoldable pub loss_back : LossDef → LossDraft
loss_back l = record { from = l.from.0; to = l.to.0; first = l.first; last = l.last }

unfoldable pub crash_back : CrashDef → CrashDraft
crash_back c = record { node = c.node.0; tick = c.tick }

unfoldable pub draft_back : Script → Draft
draft_back s = record {
  nodes = s.nodes;
  ticks = s.ticks;
  micros = map (micro_back s) s.micros;
  decls = map (decl_back s) s.decls;
  events = map (event_back s) s.events;
  changes = map (change_back s) s.changes;
  does = map (do_back s) s.does;
  losses = map loss_back s.losses;
  crashes = map crash_back s.crashes;
}
