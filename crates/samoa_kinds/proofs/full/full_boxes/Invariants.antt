use Rattle.std.proofs.Common.{◌≡◌, true, map}
use Rattle.std.specs.List.{All}
use Rattle.samoa_micro.specs.Stocks.{rounds}
use Rattle.samoa_kinds.specs.contracts.any.AnyKindMicro.TheImpl.{ghosts}
use Rattle.samoa_kinds.proofs.full.full_boxes.Given as goal

-- so many of each kind were added
abbrev pub invariant-loop-round : goal.invariant-loop-round
invariant-loop-round l = record {
  fresh : All (λ b. (ghosts.seen b).fresh ≡ true) l.boxes.items;
  kinds : map (λ b. (ghosts.seen b).kind) l.boxes.items ≡ rounds l._round;
}
