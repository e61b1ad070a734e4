use Rattle.std.proofs.Common.{◌≤◌, get_or, length, take}
use Rattle.std.specs.List.{All}
use Rattle.samoa_model.specs.declared.script.TableDef.{TableDef}
use Rattle.samoa_bind.specs.Histories.{no_past}
use Rattle.samoa_bind.specs.Kept.{IsRoomier}
use Rattle.samoa_bind.proofs.epochs.Epochs.reserve_rows.Given as goal

-- there is room at the events of the rows so far
abbrev pub invariant-loop-row : goal.invariant-loop-row
invariant-loop-row l = record {
  roomier : IsRoomier l.initial.self l.self;
  room : All (λ (row : TableDef). length l.rows ≤ (get_or l.self.histories.items row.event.0 no_past).room) (take l.row-index l.rows);
}
