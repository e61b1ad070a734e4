use Rattle.samoa_invariant.proofs.refinement.Ends.{reached_keeps}
use Rattle.samoa_invariant.proofs.measure.Lefts.{all_can_end, step_fewer}
use Rattle.samoa_invariant.proofs.laws.what_goes_on_ends.Goals as goal

pub returns : goal.returns
returns c = record {
  fewer = λ play core step r. step_fewer play core step (reached_keeps play core r);
  ends = λ play core r. all_can_end play core (reached_keeps play core r);
}
