use Rattle.std.proofs.Common.{◌≡◌, ℕ, map, take}
use Rattle.samoa_laws.specs.trace.Group.{handler}
use Rattle.samoa_generate.proofs.group.handlers_of.Given as goal

abbrev pub invariant-loop-micro : goal.invariant-loop-micro
invariant-loop-micro l = l.handlers.items ≡ map (λ (h : ℕ × ℕ). handler h.0 h.1) (take l.micro-index l.numbers)
