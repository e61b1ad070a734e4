use Rattle.samoa_invariant.proofs.preservation.Forms.{meets}
use Rattle.samoa_invariant.proofs.laws.declarations_meet_the_interface.Goals as goal

pub returns : goal.returns
returns c = record { meets = meets }
