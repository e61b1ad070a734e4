use Rattle.samoa_invariant.proofs.refinement.Ends.{reached_keeps}
use Rattle.samoa_invariant.proofs.progress.Progress.{ended_or_goes_on}
use Rattle.samoa_invariant.proofs.laws.something_goes_on.Goals as goal

pub returns : goal.returns
returns c = record { goes_on = λ play core r. ended_or_goes_on play core (reached_keeps play core r) }
