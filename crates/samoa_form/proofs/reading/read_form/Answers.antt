use Rattle.samoa_form.proofs.Whole.{reads_form}
use Rattle.samoa_form.proofs.reading.read_form.Goals as goal

pub returns : goal.returns
returns c = record { reads = reads_form _ _ _ c.draft.ensures }
