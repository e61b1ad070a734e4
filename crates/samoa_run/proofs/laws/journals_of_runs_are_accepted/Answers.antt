use Rattle.samoa_run.proofs.Accepted.{accepted}
use Rattle.samoa_run.proofs.laws.journals_of_runs_are_accepted.Goals as goal

pub returns : goal.returns
returns c = accepted
