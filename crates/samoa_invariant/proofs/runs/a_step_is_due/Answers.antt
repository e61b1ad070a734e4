use Rattle.samoa_invariant.proofs.progress.Onward.{least-goes_on, leave-due, unended}
use Rattle.samoa_invariant.proofs.runs.a_step_is_due.Goals as goal

pub returns : goal.returns
returns c = record { leave = leave-due; unended = unended; goes_on = least-goes_on }
