use Rattle.samoa_laws.proofs.transport.Accepted.{group_length}
use Rattle.samoa_laws.proofs.transport.group_histories_are_short.Goals as goal

pub returns : goal.returns
returns c = record { few = group_length }
