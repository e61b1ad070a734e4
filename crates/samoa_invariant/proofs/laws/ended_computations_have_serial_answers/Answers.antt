use Rattle.samoa_invariant.proofs.refinement.Ends.{reached_keeps, ended_answers}
use Rattle.samoa_invariant.proofs.laws.ended_computations_have_serial_answers.Goals as goal

pub returns : goal.returns
returns c = record { serial = λ play core k r. ended_answers play core k (reached_keeps play core r) }
