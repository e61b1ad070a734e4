use Rattle.std.proofs.Common.{◌+◌, ◌*◌, ◌%◌, ℕ}
use Rattle.samoa_generate.specs.Generated.{cast_at}
use Rattle.samoa_generate.proofs.Casts.{one_more}
use Rattle.samoa_generate.proofs.script.push_after.Goals as goal

pub loop-j-preserved : goal.loop-j-preserved
loop-j-preserved c = one_more (λ (j : ℕ). cast_at (9 + 8 * c.args.n + j) (j % 8) 0 (c.args.n + j)) _ _ _ _ c.loop-j.j c.in_ok-push.ensures.items c.loop-j.invariant (cc)
