use Rattle.std.proofs.Common.{◌≡◌, ◌≤◌, List, get_or, length, take, subst}
use Rattle.std.specs.List.{All}
use Rattle.std.proofs.lemmas.List.{take_all}
use Rattle.std.proofs.lemmas.List.Elements.{All-more}
use Rattle.samoa_model.specs.declared.script.TableDef.{TableDef}
use Rattle.samoa_bind.specs.Histories.{no_past}
use Rattle.samoa_bind.specs.Kept.{HasRoom}
use Rattle.samoa_bind.proofs.Histories.{roomier-than, still-room}
use Rattle.samoa_bind.proofs.epochs.Epochs.reserve.Goals as goal

pub returns-clause-room : goal.returns-clause-room
returns-clause-room c =
    let changes = c.args.changes.now in
    let all : take c.loop-rows.rows-index changes ≡ changes = take_all c.loop-rows.rows-index changes c.loop-rows-test.false in
    subst (λ (l : List (List TableDef)). HasRoom l c.loop-rows.self) all c.loop-rows.invariant.room

pub loop-rows-preserved : goal.loop-rows-preserved
loop-rows-preserved c =
    let changes = c.args.changes.now in
    record {
      roomier = roomier-than _ c.loop-rows.self _ c.loop-rows.invariant.roomier c.reserve_rows.ensures.roomier;
      room = All-more (λ (rows : List TableDef). All (λ (row : TableDef). length rows ≤ (get_or c.reserve_rows.new.self.histories.items row.event.0 no_past).room) rows) changes c.loop-rows.rows-index c.rows-item.result
          c.loop-rows-test.true (still-room _ _ _ c.reserve_rows.ensures.roomier c.loop-rows.invariant.room)
          (rw (← c.rows-item.is, ← c.as_slice.ensures) c.in_ok-reserve_rows.ensures.room);
    }
