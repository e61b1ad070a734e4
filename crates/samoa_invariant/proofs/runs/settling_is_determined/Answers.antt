use Rattle.samoa_invariant.proofs.settling.Releasing.{ends-same, releases-same, settles-same}
use Rattle.samoa_invariant.proofs.runs.settling_is_determined.Goals as goal

pub returns : goal.returns
returns c = record { releases = releases-same; ends = ends-same; settles = settles-same }
