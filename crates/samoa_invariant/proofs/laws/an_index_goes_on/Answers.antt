use Rattle.samoa_invariant.proofs.refinement.Ends.{reached_keeps}
use Rattle.samoa_invariant.proofs.indexing.Admitting.{admitted_indexed}
use Rattle.samoa_invariant.proofs.indexing.Calm.{released_restless}
use Rattle.samoa_invariant.proofs.indexing.Clearing.{cleared_indexed, opening_indexed}
use Rattle.samoa_invariant.proofs.indexing.Handling.{abandoned_indexed, ended_indexed, entered_indexed}
use Rattle.samoa_invariant.proofs.indexing.Leaving.{left_kept, left_passed}
use Rattle.samoa_invariant.proofs.indexing.Stepping.{released_indexed}
use Rattle.samoa_invariant.proofs.laws.an_index_goes_on.Goals as goal

pub returns : goal.returns
returns c = record {
  opening = opening_indexed;
  admitted = λ play first core index named notes r is. admitted_indexed play first core index named notes (reached_keeps play core r) is;
  entered = λ play first core index k p r is can. entered_indexed play first core k p index (reached_keeps play core r) can is;
  left = λ play first core index k p notes r is out. left_kept play first core k p index notes (reached_keeps play core r) out is;
  passed_on = λ play first core index k p notes next_enters r is out. left_passed play first core k p index notes next_enters (reached_keeps play core r) out is;
  abandoned = λ play first core index k p enters r is out. abandoned_indexed play first core k p index enters (reached_keeps play core r) out is;
  released = λ play first core index k p enters r is can. released_indexed play first core k p index enters (reached_keeps play core r) can is;
  later = λ play first core index k p j enters r is can. released_restless play first core k p index enters j (reached_keeps play core r) can is;
  ended = λ play first core index k is can. ended_indexed play first core k index can is;
  cleared = λ play core r. cleared_indexed play core (reached_keeps play core r);
}
