-- The groups of tests of each pass, in the order of the pass, each over the whole script.
use Rattle.std.specs.Prelude.{ℕ, List, map, codes, bytes_eq, Option}
use Rattle.std.specs.List.{position}
use Rattle.samoa_model.specs.declared.setup.Kind.{Kind}
use Rattle.samoa_model.specs.declared.script.CodeDef.{CodeDef}
use Rattle.samoa_grammar.specs.declared.fault.WalkFault.{WalkFault}
use Rattle.samoa_grammar.specs.declared.draft.MicroDraft.{MicroDraft}
use Rattle.samoa_grammar.specs.declared.draft.DeclDraft.{DeclDraft}
use Rattle.samoa_grammar.specs.declared.draft.EventDraft.{EventDraft}
use Rattle.samoa_grammar.specs.declared.draft.TableDraft.{TableDraft}
use Rattle.samoa_grammar.specs.declared.draft.ChangeDraft.{ChangeDraft}
use Rattle.samoa_grammar.specs.declared.draft.DoDraft.{DoDraft}
use Rattle.samoa_grammar.specs.declared.draft.CrashDraft.{CrashDraft}
use Rattle.samoa_grammar.specs.declared.draft.Draft.{Draft}
use Rattle.samoa_grammar.specs.declared.draft.EdgeDraft.{EdgeDraft}
use Rattle.samoa_grammar.specs.Meaning.{handler_names}
use Rattle.samoa_grammar.specs.Walks.{◌then◌, first_along}
use Rattle.samoa_grammar.specs.Passes.{twice, body_twice, handler_unknown, micro_unknown, body_unknown, event_unknown, change_unknown, cause_unknown, ports_fault, instr_fault, vertices_fault, node_fault, loss_total, tick_fault, kind_fault, kinds_fault}

-- ---- handlers

-- the names of the handlers of a microprotocol's script
abbrev pub own_names : MicroDraft → List (List ℕ)
own_names m = map (λ (h : CodeDef). h.name) m.handlers

-- the number of a handler of a microprotocol, by its name there
unfoldable pub handler_place : MicroDraft → List ℕ → Option ℕ
handler_place m name = position (bytes_eq name) (handler_names m)

-- the ends of an edge
unfoldable pub edge_unknown : List MicroDraft → EdgeDraft → Option WalkFault
edge_unknown micros e = handler_unknown micros e.from then handler_unknown micros e.to

-- ---- names that stand twice

unfoldable pub micros_twice : Draft → Option WalkFault
micros_twice x = twice (map (λ (m : MicroDraft). m.name) x.micros)

unfoldable pub handlers_twice : Draft → Option WalkFault
handlers_twice x = first_along (λ (m : MicroDraft). twice (map (λ (h : CodeDef). h.name) m.handlers)) x.micros

unfoldable pub decls_twice : Draft → Option WalkFault
decls_twice x = twice (map (λ (d : DeclDraft). d.name) x.decls)

unfoldable pub events_twice : Draft → Option WalkFault
events_twice x = twice (map (λ (e : EventDraft). e.name) x.events)

unfoldable pub changes_twice : Draft → Option WalkFault
changes_twice x = twice (map (λ (c : ChangeDraft). c.name) x.changes)

unfoldable pub bodies_twice : Draft → Option WalkFault
bodies_twice x = first_along (λ (d : DeclDraft). body_twice d.body) x.decls

unfoldable pub bound_twice : Draft → Option WalkFault
bound_twice x = first_along (λ (e : EventDraft). twice e.handlers) x.events

unfoldable pub rebound_twice : Draft → Option WalkFault
rebound_twice x = first_along (λ (c : ChangeDraft). twice (map (λ (t : TableDraft). t.event) c.table)) x.changes

unfoldable pub tables_twice : Draft → Option WalkFault
tables_twice x = first_along (λ (c : ChangeDraft). first_along (λ (t : TableDraft). twice t.handlers) c.table) x.changes

-- ---- names that aren't defined

unfoldable pub micros_unknown : Draft → Option WalkFault
micros_unknown x = first_along (micro_unknown x) x.micros

unfoldable pub bodies_unknown : Draft → Option WalkFault
bodies_unknown x = first_along (λ (d : DeclDraft). body_unknown x d.body) x.decls

unfoldable pub events_unknown : Draft → Option WalkFault
events_unknown x = first_along (event_unknown x) x.events

unfoldable pub changes_unknown : Draft → Option WalkFault
changes_unknown x = first_along (change_unknown x) x.changes

unfoldable pub causes_unknown : Draft → Option WalkFault
causes_unknown x = first_along (λ (item : DoDraft). cause_unknown x item.cause) x.does

-- ---- totals

-- the instructions of a handler
unfoldable pub handler_outside : MicroDraft → CodeDef → Option WalkFault
handler_outside m h = first_along (instr_fault m) h.code

-- the instructions of a microprotocol
unfoldable pub micro_outside : MicroDraft → Option WalkFault
micro_outside m = first_along (handler_outside m) m.handlers

unfoldable pub ports_missing : Draft → Option WalkFault
ports_missing x = first_along ports_fault x.micros

unfoldable pub codes_outside : Draft → Option WalkFault
codes_outside x = first_along micro_outside x.micros

unfoldable pub vertices_over : Draft → Option WalkFault
vertices_over x = first_along (λ (d : DeclDraft). vertices_fault x.micros d.body) x.decls

unfoldable pub does_outside : Draft → Option WalkFault
does_outside x = first_along (λ (item : DoDraft). node_fault x.nodes (codes "node") item.node) x.does

unfoldable pub losses_outside : Draft → Option WalkFault
losses_outside x = first_along (loss_total x.nodes) x.losses

unfoldable pub crashes_outside : Draft → Option WalkFault
crashes_outside x = first_along (λ (c : CrashDraft). node_fault x.nodes (codes "node") c.node) x.crashes

unfoldable pub ticks_over : Draft → Option WalkFault
ticks_over x = first_along (tick_fault x.ticks) x.does

unfoldable pub kinds_over : Draft → Option WalkFault
kinds_over x = kinds_fault x

-- the total of one kind
unfoldable pub kind_over : Draft → List ℕ → Kind → Option WalkFault
kind_over x name kind = kind_fault x name kind
