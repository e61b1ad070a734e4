use Rattle.std.proofs.Common.{arith, ◌∙◌}
use Rattle.samoa_calls.proofs.Made.{entries_step}
use Rattle.samoa_calls.proofs.attempt.enter.Goals as goal

pub loop-handler-preserved : goal.loop-handler-preserved
loop-handler-preserved c = record {
  entries = c.push.ensures.entries
      ∙ entries_step _ _ _ _ _ _ _ c.loop-handler-test.true c.loop-handler.invariant.number _ _ c.loop-handler.invariant.entries;
  number = omega arith;
  room = omega arith;
}
