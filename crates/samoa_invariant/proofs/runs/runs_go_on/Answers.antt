use Rattle.samoa_invariant.proofs.representation.Traces.{fewer, onward}
use Rattle.samoa_invariant.proofs.runs.runs_go_on.Goals as goal

pub returns : goal.returns
returns c = record { onward = onward; fewer = fewer }
