use Rattle.samoa_laws.proofs.broadcasts.AbcastHistories as abcast
use Rattle.samoa_laws.proofs.broadcasts.NumbersKeep as numbering
use Rattle.samoa_laws.proofs.broadcasts.SeqcastHistories as seqcast
use Rattle.samoa_laws.proofs.broadcasts.counters.Goals as goal

pub returns : goal.returns
returns c = record {
  abcast = abcast.next_is_low;
  seqcast = λ sequencer setup numbering steps box history short small. seqcast.next_is_low sequencer numbering box short setup steps history small;
  numbered = numbering.number_is_low;
  told = numbering.told_is;
}
