use Rattle.std.proofs.Common.{◌≡◌, length}
use Rattle.std.specs.List.{All}
use Rattle.samoa_bind.specs.Kept.{IsFirst}
use Rattle.samoa_bind.proofs.epochs.first_epochs.Given as goal

abbrev pub invariant-loop-node : goal.invariant-loop-node
invariant-loop-node l = record {
  count : length l.epochs.items ≡ l._node;
  each : All (IsFirst l.events) l.epochs.items;
}
