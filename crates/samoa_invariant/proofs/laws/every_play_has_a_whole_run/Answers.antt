use Rattle.samoa_invariant.proofs.progress.WholeRuns.{whole_run}
use Rattle.samoa_invariant.proofs.laws.every_play_has_a_whole_run.Goals as goal

pub returns : goal.returns
returns c = record { run = whole_run }
