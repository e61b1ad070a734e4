use Rattle.samoa_laws.proofs.broadcasts.Agree.{called_at_end, callers, handed_on, is_ahead}
use Rattle.samoa_laws.proofs.broadcasts.Both.{abcast_box, seqcast_box}
use Rattle.samoa_laws.proofs.broadcasts.deliveries_are_calls.Goals as goal

pub returns : goal.returns
returns c = record {
  abcast = λ script exts v history. called_at_end abcast_box script exts history v;
  seqcast = λ script exts v history. called_at_end seqcast_box script exts history v;
  abcast_within = λ script exts past v history part. is_ahead abcast_box script exts history v past part;
  seqcast_within = λ script exts past v history part. is_ahead seqcast_box script exts history v past part;
  at_once = λ script exts past x arg history part is moment. handed_on script exts past x history part is 1 arg moment;
  callers = λ script exts past v p m history part there. callers script exts history past part v p m there;
}
