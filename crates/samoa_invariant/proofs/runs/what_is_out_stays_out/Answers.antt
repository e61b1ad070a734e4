use Rattle.samoa_invariant.proofs.representation.Standing.{enters_once, stays_out}
use Rattle.samoa_invariant.proofs.runs.what_is_out_stays_out.Goals as goal

pub returns : goal.returns
returns c = record { stays = stays_out; once = enters_once }
