use Rattle.std.proofs.Common.{◌≡◌, true, map, ◌++◌, take}
use Rattle.std.specs.List.{All}
use Rattle.samoa_micro.specs.Stocks.{all_kinds}
use Rattle.samoa_kinds.specs.contracts.any.AnyKindMicro.TheImpl.{ghosts}
use Rattle.samoa_kinds.proofs.full.add_each.Given as goal

-- the first kinds were added
abbrev pub invariant-loop-kind : goal.invariant-loop-kind
invariant-loop-kind l = record {
  fresh : All (λ b. (ghosts.seen b).fresh ≡ true) l.boxes.items;
  kinds : map (λ b. (ghosts.seen b).kind) l.boxes.items ≡ map (λ b. (ghosts.seen b).kind) l.initial.boxes.items ++ take l.kind-index all_kinds;
}
