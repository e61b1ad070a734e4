use Rattle.samoa_invariant.proofs.refinement.Ends.{reached_keeps}
use Rattle.samoa_invariant.proofs.preservation.Forms.{past_never, released_never}
use Rattle.samoa_invariant.proofs.laws.what_is_handed_on_stays_so.Goals as goal

pub returns : goal.returns
returns c = record {
  released = λ P core k p reached can. released_never P core k p (reached_keeps P core reached) can;
  past = λ P core k p reached lt some past. past_never P core k p (reached_keeps P core reached) lt some past;
}
