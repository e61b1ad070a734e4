use Rattle.samoa_journal.proofs.Opens.{parts_open}
use Rattle.samoa_journal.proofs.parts_open_ticks.Goals as goal

pub returns : goal.returns
returns c = parts_open
