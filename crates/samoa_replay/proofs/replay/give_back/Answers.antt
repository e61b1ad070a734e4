use Rattle.samoa_replay.proofs.Replaying.{popped_away, popped_out}
use Rattle.samoa_replay.proofs.replay.give_back.Goals as goal

pub abandon-requires : goal.abandon-requires
abandon-requires g c = record { away = popped_away _ _ _ _ c.admitted-before.ensures.run c.in-Some.ensures.items c.loop-turn.invariant }

pub loop-turn-preserved : goal.loop-turn-preserved
loop-turn-preserved g c = popped_out _ _ _ _ c.admitted-before.ensures.run c.in-Some.ensures.items c.loop-turn.invariant _ c.abandon.ensures.step
