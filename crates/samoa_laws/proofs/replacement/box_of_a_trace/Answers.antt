use Rattle.samoa_laws.proofs.replacement.Traces as laws
use Rattle.samoa_laws.proofs.replacement.box_of_a_trace.Goals as goal

pub returns : goal.returns
returns c = record { history = laws.trace_history; goes_on = laws.trace_goes_on; rests = laws.trace_rests }
