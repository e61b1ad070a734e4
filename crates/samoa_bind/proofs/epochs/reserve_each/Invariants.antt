use Rattle.std.proofs.Common.{◌≡◌, ℕ, get_or, length, take}
use Rattle.std.specs.List.{All}
use Rattle.samoa_bind.specs.declared.epochs.Epochs.{Epochs}
use Rattle.samoa_bind.specs.Kept.{HasRoom, IsRoomier}
use Rattle.samoa_bind.proofs.epochs.reserve_each.Given as goal

-- there is room at the nodes so far
abbrev pub invariant-loop-node : goal.invariant-loop-node
invariant-loop-node l = record {
  count : length l.nodes.items ≡ length l.initial.nodes.items;
  roomier : (node : ℕ) (none : Epochs) → IsRoomier (get_or l.initial.nodes.items node none) (get_or l.nodes.items node none);
  room : All (HasRoom l.changes) (take l.node l.nodes.items);
}
