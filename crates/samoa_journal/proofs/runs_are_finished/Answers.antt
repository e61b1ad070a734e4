use Rattle.samoa_journal.proofs.Roomier.{finished_run}
use Rattle.samoa_journal.proofs.runs_are_finished.Goals as goal

pub returns : goal.returns
returns c = finished_run
