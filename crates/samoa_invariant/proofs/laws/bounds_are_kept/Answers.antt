use Rattle.samoa_invariant.proofs.preservation.Bounds.{within}
use Rattle.samoa_invariant.proofs.refinement.Ends.{reached_keeps}
use Rattle.samoa_invariant.proofs.laws.bounds_are_kept.Goals as goal

pub returns : goal.returns
returns c = record { within = λ P core k p reached lt bound. within P core k p (reached_keeps P core reached) lt bound }
