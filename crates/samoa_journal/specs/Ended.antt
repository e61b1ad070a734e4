-- Whether all that were admitted have ended.
use Rattle.std.specs.Prelude.{ℕ, zero, suc, Bool, true, ◌&&◌}
use Rattle.samoa_invariant.specs.State.{Core}

-- whether each of the first n passes
abbrev pub all_to : (ℕ → Bool) → ℕ → Bool
all_to f zero = true
all_to f (suc n) = all_to f n && f n

abbrev pub all_ended : Core → Bool
all_ended core = all_to core.ended core.count
