use Rattle.std.proofs.Common.{arith, ◌≡◌, ◌∙◌, ℕ, [], ◌∷◌, ap, length}
use Rattle.std.proofs.lemmas.List.{length-replicate}
use Rattle.samoa_model.specs.Scripts.{first_table}
use Rattle.samoa_model.specs.declared.ids.ChangeId.{ChangeId}
use Rattle.samoa_model.specs.declared.ids.NodeId.{NodeId}
use Rattle.samoa_model.specs.declared.script.Script.{Script}
use Rattle.samoa_bind.specs.Bound.{Bindings, first_tables, last_table, table_at, with_change}
use Rattle.samoa_bind.proofs.Fields.{length-first, length-new}
use Rattle.samoa_bind.proofs.tests.resolves.Goals as goal

pub resolve-handlers-requires-2-clause-event : goal.resolve-handlers-requires-2-clause-event
resolve-handlers-requires-2-clause-event g c =
    let script : Script = c.in_ok-script.script in
    let node : NodeId = record { 0 = 1 } in
    let change : ChangeId = record { 0 = 0 } in
    let before : Bindings = c.reserve.new.self in
    let after : Bindings = record before { epochs = with_change before node change; room = 0 } in
    let is : before ≡ record (first_tables script) { room = 1 } =
    c.in_ok-reserve.ensures.ok ∙ ap (λ (t : Bindings). let u : Bindings = record t { room = 1 } in u) c.in_ok-tables.ensures in
    let nodes = ap (λ (t : Bindings). length t.epochs) is in
    let many = length-replicate script.nodes (first_table script ∷ []) in
    let two : script.nodes ≡ 2 = c.in_ok-script.ensures.nodes in
    let one : length script.events ≡ 1 = c.in_ok-script.ensures.events in
    let table : length (table_at c.rebind-epoch.new.self node c.rebind-epoch.result) ≡ length script.events =
    ap (λ (t : Bindings). length (table_at t node c.rebind-epoch.result)) c.rebind-epoch.ensures.tables
    ∙ (ap (λ (e : ℕ). length (table_at after node e)) c.rebind-epoch.ensures.epoch
    ∙ (length-new before node change (omega (arith, nodes, many, two))
    ∙ (ap (λ (t : Bindings). length (last_table t node)) is ∙ length-first script node 1 (omega (arith, two))))) in
    omega (arith, table, one)
