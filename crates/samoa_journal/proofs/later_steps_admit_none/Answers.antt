use Rattle.samoa_journal.proofs.Opens.{admit_none}
use Rattle.samoa_journal.proofs.later_steps_admit_none.Goals as goal

pub returns : goal.returns
returns c = admit_none
