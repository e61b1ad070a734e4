use Rattle.std.proofs.Math.Path.{subst₂}
use Rattle.turnstile_turns.specs.Workers.{HasWorked, HasReached}
use Rattle.turnstile_turns.proofs.workers.work_all.Goals as goal

pub returns : goal.returns
returns g c = λ i d h. let t = (c.for_each_mut.ensures i d h).1 in subst₂ (λ old new. HasWorked old new × HasReached new) t.argument_is t.left t.call
