use Rattle.std.proofs.Common.{arith, ◌∙◌, List, ap}
use Rattle.samoa_model.specs.Scripts.{Table}
use Rattle.samoa_bind.specs.Bound.{Bindings}
use Rattle.samoa_bind.proofs.Fields.{epochs-roomier}
use Rattle.samoa_bind.proofs.tables.Tables.reserve.Goals as goal

pub returns-in_err-reserve_each-clause-err : goal.returns-in_err-reserve_each-clause-err
returns-in_err-reserve_each-clause-err c =
    let same = epochs-roomier c.self.inside.changes.items c.self.inside.first.items c.self.inside.nodes.items c.reserve_each.new.nodes.items c.reserve_each.ensures.count c.reserve_each.ensures.roomier in
    let still = ap (λ (ts : List (List Table)). let v : Bindings = record { epochs = ts; changes = c.self.inside.changes.items; room = c.self.inside.room } in v) same ∙ c.self.view_is in
    grind (arith, still)

pub returns-clause-ok : goal.returns-clause-ok
returns-clause-ok c =
    let same = epochs-roomier c.self.inside.changes.items c.self.inside.first.items c.self.inside.nodes.items c.reserve_each.new.nodes.items c.reserve_each.ensures.count c.reserve_each.ensures.roomier in
    ap (λ (ts : List (List Table)). let v : Bindings = record { epochs = ts; changes = c.self.inside.changes.items; room = 1 } in v) same
    ∙ ap (λ (v : Bindings). let w : Bindings = record { epochs = v.epochs; changes = v.changes; room = 1 } in w) c.self.view_is
