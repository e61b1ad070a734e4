use Rattle.samoa_invariant.proofs.refinement.Ends.{reached_keeps}
use Rattle.samoa_invariant.proofs.refinement.Serials.{script_answers, script_states}
use Rattle.samoa_invariant.proofs.laws.the_serial_run_is_that_of_the_script.Goals as goal

pub returns : goal.returns
returns c = record {
  answers = λ play script xs core plays r. script_answers play script xs plays core (reached_keeps play core r);
  states = λ play script xs core plays r. script_states play script xs plays core (reached_keeps play core r);
}
