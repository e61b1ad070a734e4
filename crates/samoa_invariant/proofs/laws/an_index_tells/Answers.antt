use Rattle.samoa_invariant.proofs.refinement.Ends.{reached_keeps}
use Rattle.samoa_invariant.proofs.indexing.Clearing.{ended_heads, ended_ready, enters_running, head_enters, head_tells, running_enters}
use Rattle.samoa_invariant.proofs.laws.an_index_tells.Goals as goal

pub returns : goal.returns
returns c = record {
  turn = λ play first core index k p r. head_tells play first core index k p (reached_keeps play core r);
  enters = λ play first core index k p r. head_enters play first core index k p (reached_keeps play core r);
  running = λ play core k e. (λ may. (may.0, running_enters play core k may.0 e may.1), λ may. (may.0, enters_running play core k may.0 may.1));
  ended = λ play first core index r all is. (ended_heads play first core index (reached_keeps play core r) all is, ended_ready play first core index (reached_keeps play core r) all is);
}
