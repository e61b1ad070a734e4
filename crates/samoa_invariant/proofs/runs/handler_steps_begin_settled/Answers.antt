use Rattle.samoa_invariant.proofs.settling.Releasing.{abandon-settled, enter-settled}
use Rattle.samoa_invariant.proofs.runs.handler_steps_begin_settled.Goals as goal

pub returns : goal.returns
returns c = record { enter = enter-settled; abandon = abandon-settled }
