use Rattle.samoa_invariant.proofs.refinement.Ends.{reached_keeps, final_states, all_home}
use Rattle.samoa_invariant.proofs.laws.final_states_are_serial.Goals as goal

pub returns : goal.returns
returns c = record {
  states = λ play core r. final_states play core (reached_keeps play core r);
  home = λ play core r. all_home play core (reached_keeps play core r);
}
