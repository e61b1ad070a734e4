use Rattle.samoa_invariant.proofs.preservation.Forms.{enabled_keeps}
use Rattle.samoa_invariant.proofs.refinement.Ends.{reached_keeps}
use Rattle.samoa_invariant.proofs.laws.each_step_keeps_the_invariant.Goals as goal

pub returns : goal.returns
returns c = record { kept = enabled_keeps; reached = reached_keeps }
