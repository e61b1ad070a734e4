use Rattle.std.proofs.Common.{arith, ◌<◌, ◌∙◌, [], Option, ap, get_or, length, subst, sym}
use Rattle.std.proofs.lemmas.List.{get_or_read}
use Rattle.samoa_model.specs.declared.script.TableDef.{TableDef}
use Rattle.samoa_bind.specs.declared.history.Binding.{Binding}
use Rattle.samoa_bind.specs.Bound.{Bindings, epochs_of, lists_of, table_at}
use Rattle.samoa_bind.specs.Histories.{meant_or, no_row}
use Rattle.samoa_bind.proofs.Fields.{event-within, found-is, node-is, node-within, resolve-is}
use Rattle.samoa_bind.proofs.tables.Tables.resolve.Goals as goal

pub find-requires : goal.find-requires
find-requires c =
    let t = c.self.inside in
    let lt = subst (λ (v : Bindings). c.args.epoch < length (epochs_of v c.args.node)) (sym c.self.view_is) c.requires.epoch in
    let below = subst (λ (v : Bindings). c.args.event.0 < length (table_at v c.args.node c.args.epoch)) (sym c.self.view_is) c.requires.event in
    let first = event-within t c.args.node c.args.epoch c.args.event.0 c.index.result.now c.index.ensures lt below in
    let mine = node-is t c.args.node.0 c.index.result.now c.self.invariant (node-within t c.args.node c.args.epoch lt) c.index.ensures in
    let size = mine.size in
    omega (arith, first, size)

pub index-requires-in-None : goal.index-requires-in-None
index-requires-in-None c =
    let t = c.self.inside in
    let lt = subst (λ (v : Bindings). c.args.epoch < length (epochs_of v c.args.node)) (sym c.self.view_is) c.requires.epoch in
    let below = subst (λ (v : Bindings). c.args.event.0 < length (table_at v c.args.node c.args.epoch)) (sym c.self.view_is) c.requires.event in
    let first = event-within t c.args.node c.args.epoch c.args.event.0 c.index.result.now c.index.ensures lt below in
    let ok = t.first.ok in
    omega (arith, first, ok)

pub row-requires-clause-change : goal.row-requires-clause-change
row-requires-clause-change c =
    let t = c.self.inside in
    let lt = subst (λ (v : Bindings). c.args.epoch < length (epochs_of v c.args.node)) (sym c.self.view_is) c.requires.epoch in
    let below = subst (λ (v : Bindings). c.args.event.0 < length (table_at v c.args.node c.args.epoch)) (sym c.self.view_is) c.requires.event in
    let is = found-is t c.args.node c.args.epoch c.args.event.0 c.index.result.now c.in-Some.binding c.self.invariant c.index.ensures lt below c.in-Some.ensures in
    subst (λ (v : Bindings). c.in-Some.binding.change.0 < length v.changes) c.self.view_is is.change

pub row-requires-clause-row : goal.row-requires-clause-row
row-requires-clause-row c =
    let t = c.self.inside in
    let lt = subst (λ (v : Bindings). c.args.epoch < length (epochs_of v c.args.node)) (sym c.self.view_is) c.requires.epoch in
    let below = subst (λ (v : Bindings). c.args.event.0 < length (table_at v c.args.node c.args.epoch)) (sym c.self.view_is) c.requires.event in
    let is = found-is t c.args.node c.args.epoch c.args.event.0 c.index.result.now c.in-Some.binding c.self.invariant c.index.ensures lt below c.in-Some.ensures in
    subst (λ (v : Bindings). c.in-Some.binding.row < length (lists_of v c.in-Some.binding.change)) c.self.view_is is.row

pub returns-in-None-clause-list : goal.returns-in-None-clause-list
returns-in-None-clause-list c =
    let t = c.self.inside in
    let lt = subst (λ (v : Bindings). c.args.epoch < length (epochs_of v c.args.node)) (sym c.self.view_is) c.requires.epoch in
    let below = subst (λ (v : Bindings). c.args.event.0 < length (table_at v c.args.node c.args.epoch)) (sym c.self.view_is) c.requires.event in
    let first = event-within t c.args.node c.args.epoch c.args.event.0 c.index.result.now c.index.ensures lt below in
    let is = resolve-is t c.args.node c.args.epoch c.args.event.0 c.index.result.now c.self.invariant c.index.ensures lt below in
    c.as_slice.ensures.list
    ∙ (get_or_read t.first.items c.args.event.0 _ first c.index-in-None.ensures []
    ∙ (ap (λ (o : Option Binding). meant_or t.changes.items (get_or t.first.items c.args.event.0 []) o) c.in-None.ensures
    ∙ (sym is ∙ ap (λ (v : Bindings). get_or (table_at v c.args.node c.args.epoch) c.args.event.0 []) c.self.view_is)))

pub returns-in-Some-clause-list : goal.returns-in-Some-clause-list
returns-in-Some-clause-list c =
    let t = c.self.inside in
    let lt = subst (λ (v : Bindings). c.args.epoch < length (epochs_of v c.args.node)) (sym c.self.view_is) c.requires.epoch in
    let below = subst (λ (v : Bindings). c.args.event.0 < length (table_at v c.args.node c.args.epoch)) (sym c.self.view_is) c.requires.event in
    let is = resolve-is t c.args.node c.args.epoch c.args.event.0 c.index.result.now c.self.invariant c.index.ensures lt below in
    c.handlers.ensures.list
    ∙ (ap (λ (row : TableDef). row.handlers) c.row.ensures
    ∙ (ap (λ (v : Bindings). (get_or (lists_of v c.in-Some.binding.change) c.in-Some.binding.row no_row).handlers) (sym c.self.view_is)
    ∙ (ap (λ (o : Option Binding). meant_or t.changes.items (get_or t.first.items c.args.event.0 []) o) c.in-Some.ensures
    ∙ (sym is ∙ ap (λ (v : Bindings). get_or (table_at v c.args.node c.args.epoch) c.args.event.0 []) c.self.view_is))))
