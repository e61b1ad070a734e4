use Rattle.samoa_laws.proofs.text.Laws.{full_streams, written_apart, written_comparable}
use Rattle.samoa_laws.proofs.written.written_streams_agree.Goals as goal

pub returns : goal.returns
returns c = record {
  told = λ script calls v group range. full_streams script group range calls v;
  order = λ script calls others first second v u group range p q. written_comparable script group range calls others first second v u p q;
  apart = λ script calls first v group range p. written_apart script group range calls first v p;
}
