use Rattle.std.proofs.Common.{arith, ◌≡◌, ◌+◌, ◌∙◌, ℕ, List, [], ◌∷◌, ◌++◌, get_or, set, ap, refl, subst, sym}
use Rattle.std.proofs.lemmas.List.{get_or_read, take_all}
use Rattle.samoa_model.specs.declared.ids.EventId.{EventId}
use Rattle.samoa_model.specs.declared.script.TableDef.{TableDef}
use Rattle.samoa_bind.specs.Histories.{Past, table_in}
use Rattle.samoa_model.specs.Scripts.{rebound}
use Rattle.samoa_bind.specs.Kept.{histories_of, tables_of}
use Rattle.samoa_bind.proofs.Rebinding.{AreBound, all-bound, node-bound, none-bound, none-later, one-bound, row-event}
use Rattle.samoa_bind.proofs.epochs.Epochs.rebind.Goals as goal

pub loop-row-init : goal.loop-row-init
loop-row-init c =
    let changes = c.args.changes.now in
    let rows_is : c.as_slice-rows.result.now ≡ get_or changes c.args.change.0 [] =
    c.as_slice-rows.ensures ∙ get_or_read changes c.args.change.0 c.index-changes-change.result c.requires.change c.index-changes-change.is [] in
    subst (λ (rows : List TableDef). AreBound changes rows 0 c.args.self.now c.args.self.now) (sym rows_is) (none-bound changes c.args.change _ c.args.self.now c.requires.node c.requires.change)

pub bind-requires-clause-last : goal.bind-requires-clause-last
bind-requires-clause-last c =
    let changes = c.args.changes.now in
    let rows_is : c.as_slice-rows.result.now ≡ get_or changes c.args.change.0 [] =
    c.as_slice-rows.ensures ∙ get_or_read changes c.args.change.0 c.index-changes-change.result c.requires.change c.index-changes-change.is [] in
    let at : c.event-event.result.0 ≡ c.index-rows-row.result.event.0 = ap (λ (e : EventId). e.0) c.event-event.ensures in
    let event = row-event _ changes c.args.change c.as_slice-rows.result.now c.loop-row.row c.index-rows-row.result c.requires.rows c.requires.change rows_is c.loop-row-test.true c.index-rows-row.is in
    let size = c.loop-row.invariant.size in
    none-later changes c.as_slice-rows.result.now c.loop-row.row c.args.self.now c.loop-row.self c.event-event.result.0 c.index_mut.result.now c.loop-row.invariant (omega (arith, at, event, size)) c.index_mut.ensures.value

pub loop-row-preserved : goal.loop-row-preserved
loop-row-preserved c =
    let changes = c.args.changes.now in
    let rows_is : c.as_slice-rows.result.now ≡ get_or changes c.args.change.0 [] =
    c.as_slice-rows.ensures ∙ get_or_read changes c.args.change.0 c.index-changes-change.result c.requires.change c.index-changes-change.is [] in
    let at : c.event-event.result.0 ≡ c.index-rows-row.result.event.0 = ap (λ (e : EventId). e.0) c.event-event.ensures in
    let event = row-event _ changes c.args.change c.as_slice-rows.result.now c.loop-row.row c.index-rows-row.result c.requires.rows c.requires.change rows_is c.loop-row-test.true c.index-rows-row.is in
    let size = c.loop-row.invariant.size in
    one-bound changes c.args.change c.as_slice-rows.result.now c.loop-row.row c.args.self.now c.loop-row.self _ c.index_mut.result.now c.bind.new.self c.index-rows-row.result _ c.requires.change
    rows_is c.loop-row.invariant c.loop-row-test.true c.index-rows-row.is (omega (arith, event, size))
    (subst (λ (i : ℕ). c.index_mut.result.now ≡ get_or c.loop-row.self.histories.items i c.index_mut.result.now) at c.index_mut.ensures.value)
    refl c.bind.ensures refl (ap (λ (i : ℕ). set c.loop-row.self.histories.items i c.bind.new.self) at)

pub returns-clause-node : goal.returns-clause-node
returns-clause-node c = node-bound c.args.changes.now c.as_slice-rows.result.now c.loop-row.row _ c.args.self.now c.loop-row.self _ c.loop-row.invariant refl refl refl

pub returns-clause-tables : goal.returns-clause-tables
returns-clause-tables c first long =
    let changes = c.args.changes.now in
    let rows_is : c.as_slice-rows.result.now ≡ get_or changes c.args.change.0 [] =
    c.as_slice-rows.ensures ∙ get_or_read changes c.args.change.0 c.index-changes-change.result c.requires.change c.index-changes-change.is [] in
    all-bound changes c.as_slice-rows.result.now c.loop-row.row c.args.self.now c.loop-row.self (record { last = c.args.self.now.last + 1; histories = c.loop-row.self.histories }) c.loop-row.invariant (take_all c.loop-row.row c.as_slice-rows.result.now c.loop-row-test.false) (refl {A = ℕ}) (refl {A = List Past}) first long
    ∙ ap (λ (rows : List TableDef). tables_of changes first c.args.self.now ++ rebound rows (table_in changes c.args.self.now.last first (histories_of c.args.self.now)) ∷ []) rows_is
