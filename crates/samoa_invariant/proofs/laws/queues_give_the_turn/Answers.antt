use Rattle.samoa_invariant.proofs.refinement.Ends.{reached_keeps}
use Rattle.samoa_invariant.proofs.indexing.Queues.{head_turns, turn_heads}
use Rattle.samoa_invariant.proofs.indexing.Stepping.{release_hands_on}
use Rattle.samoa_invariant.proofs.laws.queues_give_the_turn.Goals as goal

pub returns : goal.returns
returns c = record {
  head = λ play core k p r. (turn_heads play core k p (reached_keeps play core r), head_turns play core k p (reached_keeps play core r));
  next = λ play core k p next r. release_hands_on play core k p next (reached_keeps play core r);
}
