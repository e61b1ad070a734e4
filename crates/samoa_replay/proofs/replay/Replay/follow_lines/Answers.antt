use Rattle.std.proofs.Common.{arith, refl}
use Rattle.samoa_replay.proofs.Replaying.{fault_by, take_next}
use Rattle.samoa_replay.proofs.replay.Replay.follow_lines.Goals as goal

pub returns-in-Err-clause-fault : goal.returns-in-Err-clause-fault
returns-in-Err-clause-fault g c =
    fault_by c.args.script.now c.args.steps.now c.loop-line.line _ _ c.in-Err.fault c.loop-line.self.core.journal (omega (arith, c.loop-line-test.true)) refl c.loop-line.invariant.journal
    c.in-Err.ensures.fault (take_next c.loop-line.line c.args.steps.now _ (omega (arith, c.loop-line-test.true)))
