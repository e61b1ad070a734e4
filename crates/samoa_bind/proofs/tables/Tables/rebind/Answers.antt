use Rattle.std.proofs.Common.{arith, ◌≡◌, ◌<◌, ◌∙◌, List, [], ◌∷◌, ◌++◌, ap, get_or, length, subst, sym}
use Rattle.std.proofs.lemmas.List.{get_or-set_same}
use Rattle.samoa_model.specs.Scripts.{Table, rebound}
use Rattle.samoa_model.specs.declared.script.TableDef.{TableDef}
use Rattle.samoa_bind.specs.Histories.{table_in}
use Rattle.samoa_bind.specs.Kept.{histories_of, tables_of}
use Rattle.samoa_bind.specs.declared.epochs.Epochs.{Epochs}
use Rattle.samoa_bind.specs.Bound.{Bindings, epochs_of, with_change}
use Rattle.samoa_bind.proofs.Fields.{length-epochs, node-there, rebound-at}
use Rattle.samoa_bind.proofs.tables.Tables.rebind.Goals as goal

pub rebind-requires-clause-last : goal.rebind-requires-clause-last
rebind-requires-clause-last c =
    let lt = node-there c.self.inside c.args.node.0 (subst (λ (v : Bindings). c.args.node.0 < length v.epochs) (sym c.self.view_is) c.requires.node) in
    let long = length-epochs c.self.inside c.args.node.0 c.index_mut.result.now lt c.index_mut.ensures.value in
    let few = subst (λ (v : Bindings). length (epochs_of v c.args.node) < 4294967296) (sym c.self.view_is) c.requires.few in
    omega (arith, long, few)

pub returns-clause-epoch : goal.returns-clause-epoch
returns-clause-epoch c =
    let lt = node-there c.self.inside c.args.node.0 (subst (λ (v : Bindings). c.args.node.0 < length v.epochs) (sym c.self.view_is) c.requires.node) in
    let long = length-epochs c.self.inside c.args.node.0 c.index_mut.result.now lt c.index_mut.ensures.value in
    let now : c.index.result.now ≡ c.rebind.new.self = c.index.ensures ∙ get_or-set_same c.self.inside.nodes.items c.args.node.0 c.rebind.new.self c.index.result.now lt in
    c.last.ensures ∙ (ap (λ (x : Epochs). x.last) now ∙ (c.rebind.ensures.last ∙ (sym long ∙ ap (λ (v : Bindings). length (epochs_of v c.args.node)) c.self.view_is)))

pub returns-clause-tables : goal.returns-clause-tables
returns-clause-tables c =
    let lt = node-there c.self.inside c.args.node.0 (subst (λ (v : Bindings). c.args.node.0 < length v.epochs) (sym c.self.view_is) c.requires.node) in
    let x : Epochs = c.index_mut.result.now in
    let tables = subst (λ (changes : List (List TableDef)). (first : Table) → length first ≡ length x.histories.items
    → tables_of changes first c.rebind.new.self ≡ tables_of changes first x ++ rebound (get_or changes c.args.change.0 []) (table_in changes x.last first (histories_of x)) ∷ [])
    c.as_slice.ensures.value c.rebind.ensures.tables in
    ap (λ (ts : List (List Table)). let v : Bindings = record { epochs = ts; changes = c.self.inside.changes.items; room = 0 } in v)
    (rebound-at c.self.inside c.args.node c.args.change c.index_mut.result.now c.rebind.new.self c.self.invariant lt c.index_mut.ensures.value tables)
    ∙ ap (λ (v : Bindings). let w : Bindings = record { epochs = with_change v c.args.node c.args.change; changes = v.changes; room = 0 } in w) c.self.view_is
