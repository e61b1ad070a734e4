use Rattle.samoa_laws.proofs.transport.Accepted.{begins_next}
use Rattle.samoa_laws.proofs.transport.no_call_is_refused.Goals as goal

pub returns : goal.returns
returns c = record { begins = begins_next }
