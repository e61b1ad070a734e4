use Rattle.samoa_laws.proofs.streams.Order as laws
use Rattle.samoa_laws.proofs.streams.one_stream_begins_the_other.Goals as goal

pub returns : goal.returns
returns c = record {
  comparable = λ script exts v u history keeps submitted. laws.comparable script exts history keeps submitted v u;
  earlier = λ script exts now more past later v u history keeps submitted is also. laws.comparable_then script exts history keeps submitted now more past later is also v u;
}
