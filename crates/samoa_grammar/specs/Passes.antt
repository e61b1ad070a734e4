-- The passes after the first, over a script with its names as they stand: names that stand twice, names that aren't defined,
-- and totals. Each group of tests covers the whole script before the next.
use Rattle.std.specs.Prelude.{ℕ, ◌*◌, ◌-◌, Bool, true, List, [], ◌∷◌, ◌++◌, map, length, nat_le, nat_lt, codes, bytes_eq, count_by, Option, Some, None, is_some, if◌then◌else◌}
use Rattle.std.specs.List.{list_any}
use Rattle.samoa_model.specs.declared.setup.Kind.{Kind}
use Rattle.samoa_model.specs.declared.setup.Kind.TheVariants.{Prog, Link, Fd, Rbcast, Cons, Abcast, Seqcast, Repl, Views}
use Rattle.samoa_model.specs.declared.setup.Instr.{Instr}
use Rattle.samoa_model.specs.declared.setup.Instr.TheVariants as instr
use Rattle.samoa_model.specs.declared.script.CodeDef.{CodeDef}
use Rattle.samoa_model.specs.contracts.setup.KindPartialEq.TheImpl.{ghosts}
use Rattle.samoa_model.specs.Range.{ports_needed}
use Rattle.samoa_grammar.specs.declared.fault.WalkFault.{WalkFault}
use Rattle.samoa_grammar.specs.declared.fault.WalkFault.TheVariants.{WrongForm, Unknown, Twice, Over}
use Rattle.samoa_grammar.specs.declared.draft.MicroDraft.{MicroDraft}
use Rattle.samoa_grammar.specs.declared.draft.BoundDraft.{BoundDraft}
use Rattle.samoa_grammar.specs.declared.draft.EdgeDraft.{EdgeDraft}
use Rattle.samoa_grammar.specs.declared.draft.BodyDraft.{BodyDraft}
use Rattle.samoa_grammar.specs.declared.draft.BodyDraft.TheVariants as bodies
use Rattle.samoa_grammar.specs.declared.draft.DeclDraft.{DeclDraft}
use Rattle.samoa_grammar.specs.declared.draft.EventDraft.{EventDraft}
use Rattle.samoa_grammar.specs.declared.draft.TableDraft.{TableDraft}
use Rattle.samoa_grammar.specs.declared.draft.ChangeDraft.{ChangeDraft}
use Rattle.samoa_grammar.specs.declared.draft.CauseDraft.{CauseDraft}
use Rattle.samoa_grammar.specs.declared.draft.CauseDraft.TheVariants.{Event, Change}
use Rattle.samoa_grammar.specs.declared.draft.DoDraft.{DoDraft}
use Rattle.samoa_grammar.specs.declared.draft.LossDraft.{LossDraft}
use Rattle.samoa_grammar.specs.declared.draft.CrashDraft.{CrashDraft}
use Rattle.samoa_grammar.specs.declared.draft.Draft.{Draft}
use Rattle.samoa_grammar.specs.Walks.{◌then◌, first_along}
use Rattle.samoa_grammar.specs.Meaning.{handler_in, vertices_of}

-- ---- the second pass

-- the first name that stands a second time
abbrev pub twice_after : List (List ℕ) → List (List ℕ) → Option WalkFault
twice_after before [] = None
twice_after before (name ∷ names) = if list_any (bytes_eq name) before then Some (Twice name) else twice_after (before ++ name ∷ []) names

abbrev pub twice : List (List ℕ) → Option WalkFault
twice names = twice_after [] names

abbrev pub body_twice : BodyDraft → Option WalkFault
body_twice (bodies.Set micros) = twice micros
body_twice (bodies.Bound bounds) = twice (map (λ (b : BoundDraft). b.micro) bounds)
body_twice (bodies.Route roots edges) = None

unfoldable pub twice_fault : Draft → Option WalkFault
twice_fault x =
    twice (map (λ (m : MicroDraft). m.name) x.micros)
    then first_along (λ (m : MicroDraft). twice (map (λ (h : CodeDef). h.name) m.handlers)) x.micros
    then twice (map (λ (d : DeclDraft). d.name) x.decls)
    then twice (map (λ (e : EventDraft). e.name) x.events)
    then twice (map (λ (c : ChangeDraft). c.name) x.changes)
    then first_along (λ (d : DeclDraft). body_twice d.body) x.decls
    then first_along (λ (e : EventDraft). twice e.handlers) x.events
    then first_along (λ (c : ChangeDraft). twice (map (λ (t : TableDraft). t.event) c.table)) x.changes
    then first_along (λ (c : ChangeDraft). first_along (λ (t : TableDraft). twice t.handlers) c.table) x.changes

-- ---- the third pass

abbrev pub among : List (List ℕ) → List ℕ → Option WalkFault
among known name = if list_any (bytes_eq name) known then None else Some (Unknown name)

abbrev pub micro_names : Draft → List (List ℕ)
micro_names x = map (λ (m : MicroDraft). m.name) x.micros

abbrev pub decl_names : Draft → List (List ℕ)
decl_names x = map (λ (d : DeclDraft). d.name) x.decls

abbrev pub event_names : Draft → List (List ℕ)
event_names x = map (λ (e : EventDraft). e.name) x.events

abbrev pub change_names : Draft → List (List ℕ)
change_names x = map (λ (c : ChangeDraft). c.name) x.changes

abbrev pub handler_unknown : List MicroDraft → List ℕ → Option WalkFault
handler_unknown micros name = if is_some (handler_in micros name) then None else Some (Unknown name)

abbrev pub micro_unknown : Draft → MicroDraft → Option WalkFault
micro_unknown x m = first_along (among (event_names x)) m.ports then first_along (among (change_names x)) m.changes

abbrev pub body_unknown : Draft → BodyDraft → Option WalkFault
body_unknown x (bodies.Set micros) = first_along (among (micro_names x)) micros
body_unknown x (bodies.Bound bounds) = first_along (λ (b : BoundDraft). among (micro_names x) b.micro) bounds
body_unknown x (bodies.Route roots edges) =
    first_along (handler_unknown x.micros) roots
    then first_along (λ (e : EdgeDraft). handler_unknown x.micros e.from then handler_unknown x.micros e.to) edges

abbrev pub event_unknown : Draft → EventDraft → Option WalkFault
event_unknown x e = among (decl_names x) e.decl then first_along (handler_unknown x.micros) e.handlers

abbrev pub table_unknown : Draft → TableDraft → Option WalkFault
table_unknown x t = among (event_names x) t.event then first_along (handler_unknown x.micros) t.handlers

abbrev pub change_unknown : Draft → ChangeDraft → Option WalkFault
change_unknown x c = among (event_names x) c.event then first_along (table_unknown x) c.table

abbrev pub cause_unknown : Draft → CauseDraft → Option WalkFault
cause_unknown x (Event name) = among (event_names x) name
cause_unknown x (Change name) = among (change_names x) name

unfoldable pub unknown_fault : Draft → Option WalkFault
unknown_fault x =
    first_along (micro_unknown x) x.micros
    then first_along (λ (d : DeclDraft). body_unknown x d.body) x.decls
    then first_along (event_unknown x) x.events
    then first_along (change_unknown x) x.changes
    then first_along (λ (item : DoDraft). cause_unknown x item.cause) x.does

-- ---- the fourth pass

abbrev pub ports_fault : MicroDraft → Option WalkFault
ports_fault m = if nat_le (ports_needed m.kind) (length m.ports) then None else Some (WrongForm (codes "ports"))

-- a position is below the number of ports or changes
abbrev pub is_instr_of : ℕ → ℕ → Instr → Bool
is_instr_of ports changes (instr.Call port k) = nat_lt port ports
is_instr_of ports changes (instr.Later port k) = nat_lt port ports
is_instr_of ports changes (instr.Send s port k) = nat_lt port ports
is_instr_of ports changes (instr.Change c k) = nat_lt c changes
is_instr_of ports changes _ = true

abbrev pub instr_fault : MicroDraft → Instr → Option WalkFault
instr_fault m i = if is_instr_of (length m.ports) (length m.changes) i then None else Some (WrongForm (codes "code"))

abbrev pub code_total : MicroDraft → Option WalkFault
code_total m = first_along (λ (h : CodeDef). first_along (instr_fault m) h.code) m.handlers

abbrev pub vertices_fault : List MicroDraft → BodyDraft → Option WalkFault
vertices_fault micros (bodies.Route roots edges) =
    if nat_lt 32 (length (vertices_of micros roots edges)) then Some (Over (codes "edges") 32) else None
vertices_fault micros _ = None

abbrev pub node_fault : ℕ → List ℕ → ℕ → Option WalkFault
node_fault nodes key node = if nat_lt node nodes then None else Some (Over key (nodes - 1))

abbrev pub loss_total : ℕ → LossDraft → Option WalkFault
loss_total nodes l = node_fault nodes (codes "from") l.from then node_fault nodes (codes "to") l.to

abbrev pub tick_fault : ℕ → DoDraft → Option WalkFault
tick_fault ticks item = if nat_lt ticks item.tick then Some (Over (codes "tick") ticks) else None

-- the nodes times the microprotocols of a kind
abbrev pub kind_fault : Draft → List ℕ → Kind → Option WalkFault
kind_fault x name kind =
    if nat_lt 32 (x.nodes * count_by (λ (m : MicroDraft). ghosts.eq m.kind kind) x.micros) then Some (Over name 32) else None

abbrev pub kinds_fault : Draft → Option WalkFault
kinds_fault x =
    kind_fault x (codes "prog") Prog
    then kind_fault x (codes "link") Link
    then kind_fault x (codes "fd") Fd
    then kind_fault x (codes "rbcast") Rbcast
    then kind_fault x (codes "cons") Cons
    then kind_fault x (codes "abcast") Abcast
    then kind_fault x (codes "seqcast") Seqcast
    then kind_fault x (codes "repl") Repl
    then kind_fault x (codes "views") Views

unfoldable pub totals_fault : Draft → Option WalkFault
totals_fault x =
    first_along ports_fault x.micros
    then first_along code_total x.micros
    then first_along (λ (d : DeclDraft). vertices_fault x.micros d.body) x.decls
    then first_along (λ (item : DoDraft). node_fault x.nodes (codes "node") item.node) x.does
    then first_along (loss_total x.nodes) x.losses
    then first_along (λ (c : CrashDraft). node_fault x.nodes (codes "node") c.node) x.crashes
    then first_along (tick_fault x.ticks) x.does
    then kinds_fault x
