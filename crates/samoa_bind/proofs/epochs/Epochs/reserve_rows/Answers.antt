use Rattle.std.proofs.Common.{arith, ◌≡◌, ◌≤◌, ◌<◌, ◌∙◌, ℕ, List, get_or, length, set, take, refl, ap, subst, sym}
use Rattle.std.specs.List.{All}
use Rattle.std.proofs.lemmas.List.{get_or-set_same, take_all}
use Rattle.samoa_model.specs.declared.script.TableDef.{TableDef}
use Rattle.samoa_bind.specs.Histories.{Past, no_past}
use Rattle.samoa_model.specs.declared.ids.EventId.{EventId}
use Rattle.samoa_bind.proofs.Histories.{as-many-events, no-less-room, room-more, roomier-than, same-bindings}
use Rattle.samoa_bind.proofs.epochs.Epochs.reserve_rows.Goals as goal

pub returns-in_err-reserve-clause-roomier : goal.returns-in_err-reserve-clause-roomier
returns-in_err-reserve-clause-roomier c =
    roomier-than _ c.loop-row.self _ c.loop-row.invariant.roomier (record {
      last = refl;
      histories = same-bindings c.loop-row.self.histories.items c.event.result.0 c.index_mut.result.now c.reserve.new.self c.index_mut.ensures.value c.reserve.ensures.bindings;
      room = λ event. no-less-room c.loop-row.self.histories.items c.event.result.0 c.index_mut.result.now c.reserve.new.self event c.index_mut.ensures.value c.reserve.ensures.kept;
    })

pub returns-clause-room : goal.returns-clause-room
returns-clause-room c =
    let rows = c.args.rows.now in
    let all : take c.loop-row.row-index rows ≡ rows = take_all c.loop-row.row-index rows c.loop-row-test.false in
    subst (λ (l : List TableDef). All (λ (row : TableDef). length rows ≤ (get_or c.loop-row.self.histories.items row.event.0 no_past).room) l) all c.loop-row.invariant.room

pub loop-row-preserved : goal.loop-row-preserved
loop-row-preserved c =
    let rows = c.args.rows.now in
    let more : (event : ℕ) → (get_or c.loop-row.self.histories.items event no_past).room ≤ (get_or _ event no_past).room = λ event. no-less-room c.loop-row.self.histories.items c.event.result.0 c.index_mut.result.now c.reserve.new.self event c.index_mut.ensures.value c.reserve.ensures.kept in
    let as_many = as-many-events c.args.self.now c.loop-row.self c.loop-row.invariant.roomier in
    let event : c.row-item.result.event.0 < length c.args.self.now.histories.items =
    subst (λ (row : TableDef). row.event.0 < length c.args.self.now.histories.items) (sym c.row-item.is) (c.requires c.loop-row.row-index c.row-item.result c.loop-row-test.true) in
    let within : c.row-item.result.event.0 < length c.loop-row.self.histories.items = omega (arith, as_many, event) in
    let at : c.event.result.0 ≡ c.row-item.result.event.0 = ap (λ (e : EventId). e.0) c.event.ensures in
    let here : (get_or (set c.loop-row.self.histories.items c.event.result.0 c.reserve.new.self) c.row-item.result.event.0 no_past).room ≡ c.reserve.new.self.room =
    ap (λ (p : Past). p.room) (ap (λ (i : ℕ). get_or (set c.loop-row.self.histories.items i c.reserve.new.self) c.row-item.result.event.0 no_past) at ∙ get_or-set_same c.loop-row.self.histories.items c.row-item.result.event.0 c.reserve.new.self no_past within) in
    let enough : length rows ≤ c.reserve.new.self.room = c.in_ok-reserve.ensures.room in
    record {
      roomier = roomier-than _ c.loop-row.self _ c.loop-row.invariant.roomier (record {
        last = refl;
        histories = same-bindings c.loop-row.self.histories.items c.event.result.0 c.index_mut.result.now c.reserve.new.self c.index_mut.ensures.value c.reserve.ensures.bindings;
        room = more;
      });
      room = room-more rows c.row-item.result (length rows) c.loop-row.row-index c.loop-row.self.histories.items (set c.loop-row.self.histories.items c.event.result.0 c.reserve.new.self)
          c.loop-row-test.true c.row-item.is c.loop-row.invariant.room more
          (omega (arith, here, enough));
    }
