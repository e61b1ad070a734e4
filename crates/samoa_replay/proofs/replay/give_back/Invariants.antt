use Rattle.std.proofs.Common.{length}
use Rattle.samoa_replay.specs.Following.{AreOut}
use Rattle.samoa_replay.proofs.replay.give_back.Given as goal

abbrev pub invariant-loop-turn : goal.invariant-loop-turn
invariant-loop-turn g l = AreOut l.core l.turns.items

abbrev pub decreases-loop-turn : goal.decreases-loop-turn
decreases-loop-turn g l = length l.turns.items
