use Rattle.samoa_laws.proofs.replacement.Traces as laws
use Rattle.samoa_laws.proofs.replacement.rebound_in_a_trace.Goals as goal

pub returns : goal.returns
returns c = record { rebound = laws.trace_rebound }
