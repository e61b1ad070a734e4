use Rattle.samoa_invariant.proofs.representation.Agrees.{invariant-agree}
use Rattle.samoa_invariant.proofs.laws.later_events_do_not_matter.Goals as goal

pub returns : goal.returns
returns c = record { kept = invariant-agree }
