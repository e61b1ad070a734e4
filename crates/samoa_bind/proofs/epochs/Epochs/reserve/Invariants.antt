use Rattle.std.proofs.Common.{take}
use Rattle.samoa_bind.specs.Kept.{HasRoom, IsRoomier}
use Rattle.samoa_bind.proofs.epochs.Epochs.reserve.Given as goal

-- there is room for the changes so far
abbrev pub invariant-loop-rows : goal.invariant-loop-rows
invariant-loop-rows l = record {
  roomier : IsRoomier l.initial.self l.self;
  room : HasRoom (take l.rows-index l.changes) l.self;
}
