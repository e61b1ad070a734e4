use Rattle.samoa_laws.proofs.broadcasts.SeqcastHistories as laws
use Rattle.samoa_laws.proofs.broadcasts.NumbersKeep.{elsewhere_nothing}
use Rattle.samoa_laws.specs.broadcasts.Seqcast.{told}
use Rattle.samoa_laws.proofs.broadcasts.seqcast_order.Goals as goal

pub returns : goal.returns
returns c = record {
  numbered = λ sequencer setup numbering steps box history short small. laws.order_is sequencer numbering box short setup steps history small;
  prefix = λ sequencer setup other numbering steps more box history history' short small small'. laws.orders_agree sequencer numbering box short setup other steps more history history' small small';
  own = λ sequencer setup numbering steps own history short small.
      laws.orders_agree sequencer numbering (laws.is_box sequencer (told numbering) numbering own) short sequencer setup numbering steps own history short small;
  valid = λ sequencer setup numbering steps box history short small. laws.called_was_submitted sequencer numbering box short setup steps history small;
  elsewhere = elsewhere_nothing;
}
