use Rattle.std.proofs.Common.{arith, ◌≡◌, ◌∙◌, ℕ, List, [], ◌∷◌, ap, length, map, replicate, subst}
use Rattle.std.specs.List.{All}
use Rattle.samoa_model.specs.declared.script.TableDef.{TableDef}
use Rattle.samoa_model.specs.Scripts.{Table, first_table}
use Rattle.samoa_model.specs.declared.script.ChangeDef.{ChangeDef}
use Rattle.samoa_model.specs.declared.script.EventDef.{EventDef}
use Rattle.std.proofs.lemmas.List.{length-map}
use Rattle.samoa_bind.specs.Bound.{Bindings}
use Rattle.samoa_bind.specs.Kept.{IsFirst}
use Rattle.samoa_bind.proofs.Fields.{first-epochs, nodes-first, rows-first}
use Rattle.samoa_bind.proofs.tables.Tables.new.Goals as goal

pub invariant_of-result : goal.invariant_of-result
invariant_of-result c =
    let ok = c.in_ok-first.first.ok in
    let len = c.len.ensures in
    let many : c.len.result ≡ length c.in_ok-first.first.items = omega (arith, ok, len) in
    let each = subst (λ (n : ℕ). All (IsFirst n) c.in_ok-nodes.nodes.items) many c.in_ok-nodes.ensures.each in
    let long : length c.in_ok-first.first.items ≡ length c.args.script.now.events =
    ap (λ (ts : Table). length ts) (c.in_ok-first.ensures ∙ ap (λ (es : List EventDef). map (λ (e : EventDef). e.handlers) es) c.as_slice.ensures) ∙ length-map c.args.script.now.events (λ (e : EventDef). e.handlers) in
    let changes : c.in_ok-changes.changes.items ≡ map (λ (x : ChangeDef). x.table) c.args.script.now.changes =
    c.in_ok-changes.ensures ∙ ap (λ (xs : List ChangeDef). map (λ (x : ChangeDef). x.table) xs) c.as_slice-2.ensures in
    record { rows = rw (long, changes) (rows-first c.args.script.now c.requires); nodes = nodes-first _ _ _ each }

pub returns : goal.returns
returns c =
    let ok = c.in_ok-first.first.ok in
    let len = c.len.ensures in
    let many : c.len.result ≡ length c.in_ok-first.first.items = omega (arith, ok, len) in
    let each = subst (λ (n : ℕ). All (IsFirst n) c.in_ok-nodes.nodes.items) many c.in_ok-nodes.ensures.each in
    let epochs = first-epochs c.in_ok-changes.changes.items c.in_ok-first.first.items c.in_ok-nodes.nodes.items _ c.in_ok-nodes.ensures.count each in
    let first : c.in_ok-first.first.items ≡ first_table c.args.script.now = c.in_ok-first.ensures ∙ ap (λ (es : List EventDef). map (λ (e : EventDef). e.handlers) es) c.as_slice.ensures in
    let changes : c.in_ok-changes.changes.items ≡ map (λ (x : ChangeDef). x.table) c.args.script.now.changes =
    c.in_ok-changes.ensures ∙ ap (λ (xs : List ChangeDef). map (λ (x : ChangeDef). x.table) xs) c.as_slice-2.ensures in
    ap (λ (ts : List (List Table)). let v : Bindings = record { epochs = ts; changes = c.in_ok-changes.changes.items; room = 0 } in v) epochs
    ∙ (ap (λ (table : Table). let v : Bindings = record { epochs = replicate c.args.script.now.nodes (table ∷ []); changes = c.in_ok-changes.changes.items; room = 0 } in v) first
    ∙ ap (λ (rows : List (List TableDef)). let v : Bindings = record { epochs = replicate c.args.script.now.nodes (first_table c.args.script.now ∷ []); changes = rows; room = 0 } in v) changes)
