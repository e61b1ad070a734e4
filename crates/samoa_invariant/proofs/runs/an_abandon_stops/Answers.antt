use Rattle.samoa_invariant.proofs.representation.Standing.{stopped_is}
use Rattle.samoa_invariant.proofs.runs.an_abandon_stops.Goals as goal

pub returns : goal.returns
returns c = stopped_is
