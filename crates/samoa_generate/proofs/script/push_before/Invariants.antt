use Rattle.std.proofs.Common.{◌≡◌, ◌+◌, ◌*◌, ◌%◌, ◌++◌, ℕ, map}
use Rattle.std.specs.List.{range_with_len}
use Rattle.samoa_generate.specs.Generated.{cast_at}
use Rattle.samoa_generate.proofs.script.push_before.Given as goal

abbrev pub invariant-loop-j : goal.invariant-loop-j
invariant-loop-j l = l.does.items ≡ l.initial.does.items ++ map (λ (j : ℕ). cast_at (1 + 8 * j) (j % 8) 0 j) (range_with_len 0 l.j)
