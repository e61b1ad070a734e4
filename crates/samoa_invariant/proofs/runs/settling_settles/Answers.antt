use Rattle.samoa_invariant.proofs.settling.Releasing.{ends-leave, releases-leave, settles-leave, settles-settled}
use Rattle.samoa_invariant.proofs.runs.settling_settles.Goals as goal

pub returns : goal.returns
returns c = record { settled = settles-settled; settles = settles-leave; releases = releases-leave; ends = ends-leave }
