use Rattle.std.proofs.Common.{◌∙◌, ap}
use Rattle.samoa_invariant.specs.Runs.{Trace, state}
use Rattle.samoa_kernel.proofs.tests.small_core.Goals as goal

pub new-requires-2-clause-covers : goal.new-requires-2-clause-covers
new-requires-2-clause-covers g c = c.covers.ensures.0 c.if-not-covers.false

pub returns-clause-home : goal.returns-clause-home
returns-clause-home g c v p = c.settle.ensures.still.out v p ∙ (c.in_ok-admit.ensures.still.out v p ∙ ap (λ (x : Trace). (state x).out v p) c.in_ok-core.ensures)
