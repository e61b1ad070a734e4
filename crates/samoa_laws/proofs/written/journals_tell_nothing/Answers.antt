use Rattle.samoa_laws.proofs.text.Journals.{mute_journal}
use Rattle.samoa_laws.proofs.written.journals_tell_nothing.Goals as goal

pub returns : goal.returns
returns c = record { mute = mute_journal }
