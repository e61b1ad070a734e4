-- What a draft keeps to that passes.
use Rattle.std.proofs.Common.{◌≡◌, List, [], ◌∷◌, map, codes, Option, None, sym, ◌∙◌}
use Rattle.std.specs.List.{All}
use Rattle.std.proofs.lemmas.List.Elements.{All-nil, All-cons}
use Rattle.samoa_grammar.specs.declared.fault.WalkFault.{WalkFault}
use Rattle.samoa_model.specs.declared.script.CodeDef.{CodeDef}
use Rattle.samoa_grammar.specs.declared.draft.MicroDraft.{MicroDraft}
use Rattle.samoa_grammar.specs.declared.draft.DeclDraft.{DeclDraft}
use Rattle.samoa_grammar.specs.declared.draft.EventDraft.{EventDraft}
use Rattle.samoa_grammar.specs.declared.draft.TableDraft.{TableDraft}
use Rattle.samoa_grammar.specs.declared.draft.ChangeDraft.{ChangeDraft}
use Rattle.samoa_grammar.specs.declared.draft.DoDraft.{DoDraft}
use Rattle.samoa_grammar.specs.declared.draft.CrashDraft.{CrashDraft}
use Rattle.samoa_grammar.specs.declared.draft.Draft.{Draft}
use Rattle.samoa_grammar.specs.Walks.{◌then◌, first_along}
use Rattle.samoa_grammar.specs.Passes.{twice, body_twice, micro_unknown, body_unknown, event_unknown, change_unknown, cause_unknown, ports_fault, vertices_fault, node_fault, loss_total, tick_fault, kinds_fault, twice_fault, unknown_fault, totals_fault}
use Rattle.samoa_naming.specs.Groups.{micros_twice, handlers_twice, decls_twice, events_twice, changes_twice, bodies_twice, bound_twice, rebound_twice, tables_twice, micros_unknown, bodies_unknown, events_unknown, changes_unknown, causes_unknown, ports_missing, codes_outside, vertices_over, does_outside, losses_outside, crashes_outside, ticks_over, kinds_over, micro_outside}
use Rattle.samoa_grammar.proofs.Chains.{then_none, then_five}
use Rattle.samoa_naming.proofs.Groups.{twice_by_groups, unknown_by_groups, totals_by_groups}

-- each item passes of a list with no fault
pub along_all : {X : Type 0} (fault : X → Option WalkFault) (xs : List X) → first_along fault xs ≡ None → All (λ x. fault x ≡ None) xs
along_all fault [] h = All-nil (λ x. fault x ≡ None)
along_all fault (x ∷ xs) h =
    let parts = then_none (fault x) (first_along fault xs) h in
    All-cons (λ y. fault y ≡ None) x xs parts.0 (along_all fault xs parts.1)

parts_8 : (a b c d e f g h : Option WalkFault) → (a then b then c then d then e then f then g then h) ≡ None → (a ≡ None) × (b ≡ None) × (c ≡ None) × (d ≡ None) × (e ≡ None) × (f ≡ None) × (g ≡ None) × (h ≡ None)
parts_8 a b c d e f g h all =
    let p0 = then_none a (b then c then d then e then f then g then h) all in
    let p1 = then_none b (c then d then e then f then g then h) p0.1 in
    let p2 = then_none c (d then e then f then g then h) p1.1 in
    let p3 = then_none d (e then f then g then h) p2.1 in
    let p4 = then_none e (f then g then h) p3.1 in
    let p5 = then_none f (g then h) p4.1 in
    let p6 = then_none g (h) p5.1 in
    (p0.0, p1.0, p2.0, p3.0, p4.0, p5.0, p6.0, p6.1)

pub parts_9 : (a b c d e f g h i : Option WalkFault) → (a then b then c then d then e then f then g then h then i) ≡ None → (a ≡ None) × (b ≡ None) × (c ≡ None) × (d ≡ None) × (e ≡ None) × (f ≡ None) × (g ≡ None) × (h ≡ None) × (i ≡ None)
parts_9 a b c d e f g h i all =
    let p0 = then_none a (b then c then d then e then f then g then h then i) all in
    let p1 = then_none b (c then d then e then f then g then h then i) p0.1 in
    let p2 = then_none c (d then e then f then g then h then i) p1.1 in
    let p3 = then_none d (e then f then g then h then i) p2.1 in
    let p4 = then_none e (f then g then h then i) p3.1 in
    let p5 = then_none f (g then h then i) p4.1 in
    let p6 = then_none g (h then i) p5.1 in
    let p7 = then_none h (i) p6.1 in
    (p0.0, p1.0, p2.0, p3.0, p4.0, p5.0, p6.0, p7.0, p7.1)

twice_parts : (x : Draft) → twice_fault x ≡ None → (micros_twice x ≡ None) × (handlers_twice x ≡ None) × (decls_twice x ≡ None) × (events_twice x ≡ None) × (changes_twice x ≡ None) × (bodies_twice x ≡ None) × (bound_twice x ≡ None) × (rebound_twice x ≡ None) × (tables_twice x ≡ None)
twice_parts x h = parts_9 (micros_twice x) (handlers_twice x) (decls_twice x) (events_twice x) (changes_twice x) (bodies_twice x) (bound_twice x) (rebound_twice x) (tables_twice x) (sym (twice_by_groups x) ∙ h)

unknown_parts : (x : Draft) → unknown_fault x ≡ None → (micros_unknown x ≡ None) × (bodies_unknown x ≡ None) × (events_unknown x ≡ None) × (changes_unknown x ≡ None) × (causes_unknown x ≡ None)
unknown_parts x h = then_five (micros_unknown x) (bodies_unknown x) (events_unknown x) (changes_unknown x) (causes_unknown x) (sym (unknown_by_groups x) ∙ h)

totals_parts : (x : Draft) → totals_fault x ≡ None → (ports_missing x ≡ None) × (codes_outside x ≡ None) × (vertices_over x ≡ None) × (does_outside x ≡ None) × (losses_outside x ≡ None) × (crashes_outside x ≡ None) × (ticks_over x ≡ None) × (kinds_over x ≡ None)
totals_parts x h = parts_8 (ports_missing x) (codes_outside x) (vertices_over x) (does_outside x) (losses_outside x) (crashes_outside x) (ticks_over x) (kinds_over x) (sym (totals_by_groups x) ∙ h)

-- ---- each part by itself

pub micros_apart : (x : Draft) → twice_fault x ≡ None → twice (map (λ (m : MicroDraft). m.name) x.micros) ≡ None
unfolding micros_twice
micros_apart x h = (twice_parts x h).0

pub handlers_apart : (x : Draft) → twice_fault x ≡ None → All (λ (m : MicroDraft). twice (map (λ (h : CodeDef). h.name) m.handlers) ≡ None) x.micros
unfolding handlers_twice
handlers_apart x h = along_all (λ (m : MicroDraft). twice (map (λ (h : CodeDef). h.name) m.handlers)) x.micros (twice_parts x h).1

pub decls_apart : (x : Draft) → twice_fault x ≡ None → twice (map (λ (d : DeclDraft). d.name) x.decls) ≡ None
unfolding decls_twice
decls_apart x h = (twice_parts x h).2

pub events_apart : (x : Draft) → twice_fault x ≡ None → twice (map (λ (e : EventDraft). e.name) x.events) ≡ None
unfolding events_twice
events_apart x h = (twice_parts x h).3

pub changes_apart : (x : Draft) → twice_fault x ≡ None → twice (map (λ (c : ChangeDraft). c.name) x.changes) ≡ None
unfolding changes_twice
changes_apart x h = (twice_parts x h).4

pub lists_apart : (x : Draft) → twice_fault x ≡ None → All (λ (e : EventDraft). twice e.handlers ≡ None) x.events
unfolding bound_twice
lists_apart x h = along_all (λ (e : EventDraft). twice e.handlers) x.events (twice_parts x h).6

pub rebound_apart : (x : Draft) → twice_fault x ≡ None → All (λ (c : ChangeDraft). twice (map (λ (t : TableDraft). t.event) c.table) ≡ None) x.changes
unfolding rebound_twice
rebound_apart x h = along_all (λ (c : ChangeDraft). twice (map (λ (t : TableDraft). t.event) c.table)) x.changes (twice_parts x h).7

pub tables_apart : (x : Draft) → twice_fault x ≡ None → All (λ (c : ChangeDraft). first_along (λ (t : TableDraft). twice t.handlers) c.table ≡ None) x.changes
unfolding tables_twice
tables_apart x h = along_all (λ (c : ChangeDraft). first_along (λ (t : TableDraft). twice t.handlers) c.table) x.changes (twice_parts x h).8

pub bodies_apart : (x : Draft) → twice_fault x ≡ None → All (λ y. (λ (d : DeclDraft). body_twice d.body) y ≡ None) x.decls
unfolding bodies_twice
bodies_apart x h = along_all (λ (d : DeclDraft). body_twice d.body) x.decls (twice_parts x h).5

pub micros_defined : (x : Draft) → unknown_fault x ≡ None → All (λ y. (micro_unknown x) y ≡ None) x.micros
unfolding micros_unknown
micros_defined x h = along_all (micro_unknown x) x.micros (unknown_parts x h).0

pub bodies_defined : (x : Draft) → unknown_fault x ≡ None → All (λ y. (λ (d : DeclDraft). body_unknown x d.body) y ≡ None) x.decls
unfolding bodies_unknown
bodies_defined x h = along_all (λ (d : DeclDraft). body_unknown x d.body) x.decls (unknown_parts x h).1

pub events_defined : (x : Draft) → unknown_fault x ≡ None → All (λ y. (event_unknown x) y ≡ None) x.events
unfolding events_unknown
events_defined x h = along_all (event_unknown x) x.events (unknown_parts x h).2

pub changes_defined : (x : Draft) → unknown_fault x ≡ None → All (λ y. (change_unknown x) y ≡ None) x.changes
unfolding changes_unknown
changes_defined x h = along_all (change_unknown x) x.changes (unknown_parts x h).3

pub causes_defined : (x : Draft) → unknown_fault x ≡ None → All (λ y. (λ (item : DoDraft). cause_unknown x item.cause) y ≡ None) x.does
unfolding causes_unknown
causes_defined x h = along_all (λ (item : DoDraft). cause_unknown x item.cause) x.does (unknown_parts x h).4

pub ports_there : (x : Draft) → totals_fault x ≡ None → All (λ y. ports_fault y ≡ None) x.micros
unfolding ports_missing
ports_there x h = along_all ports_fault x.micros (totals_parts x h).0

pub codes_inside : (x : Draft) → totals_fault x ≡ None → All (λ y. micro_outside y ≡ None) x.micros
unfolding codes_outside
codes_inside x h = along_all micro_outside x.micros (totals_parts x h).1

pub vertices_few : (x : Draft) → totals_fault x ≡ None → All (λ y. (λ (d : DeclDraft). vertices_fault x.micros d.body) y ≡ None) x.decls
unfolding vertices_over
vertices_few x h = along_all (λ (d : DeclDraft). vertices_fault x.micros d.body) x.decls (totals_parts x h).2

pub does_inside : (x : Draft) → totals_fault x ≡ None → All (λ y. (λ (item : DoDraft). node_fault x.nodes (codes "node") item.node) y ≡ None) x.does
unfolding does_outside
does_inside x h = along_all (λ (item : DoDraft). node_fault x.nodes (codes "node") item.node) x.does (totals_parts x h).3

pub losses_inside : (x : Draft) → totals_fault x ≡ None → All (λ y. (loss_total x.nodes) y ≡ None) x.losses
unfolding losses_outside
losses_inside x h = along_all (loss_total x.nodes) x.losses (totals_parts x h).4

pub crashes_inside : (x : Draft) → totals_fault x ≡ None → All (λ y. (λ (c : CrashDraft). node_fault x.nodes (codes "node") c.node) y ≡ None) x.crashes
unfolding crashes_outside
crashes_inside x h = along_all (λ (c : CrashDraft). node_fault x.nodes (codes "node") c.node) x.crashes (totals_parts x h).5

pub ticks_inside : (x : Draft) → totals_fault x ≡ None → All (λ y. (tick_fault x.ticks) y ≡ None) x.does
unfolding ticks_over
ticks_inside x h = along_all (tick_fault x.ticks) x.does (totals_parts x h).6

pub kinds_few : (x : Draft) → totals_fault x ≡ None → kinds_fault x ≡ None
unfolding kinds_over
kinds_few x h = (totals_parts x h).7
