use Rattle.std.proofs.Common.{◌≡◌, ◌++◌, true, map}
use Rattle.std.specs.List.{All}
use Rattle.samoa_kinds.specs.contracts.any.AnyKindMicro.TheImpl.{ghosts as any}
use Rattle.samoa.specs.contracts.tests.FaintMicro.TheImpl.{ghosts as faint}
use Rattle.samoa.proofs.tests.boxes.Given as goal

-- each of those that were taken is held, of the same kind
abbrev pub invariant-loop-micro : goal.invariant-loop-micro
invariant-loop-micro l = record {
  fresh : All (λ b. (faint.seen b).fresh ≡ true) l.faint.items;
  rest : All (λ b. (any.seen b).fresh ≡ true) l.micro-iterator.rest.items;
  kinds : map (λ b. (faint.seen b).kind) l.faint.items ++ map (λ b. (any.seen b).kind) l.micro-iterator.rest.items
      ≡ map (λ b. (any.seen b).kind) l.initial.micro-iterator.rest.items;
}
