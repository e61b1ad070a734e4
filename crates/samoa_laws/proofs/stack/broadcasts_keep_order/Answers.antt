use Rattle.samoa_laws.proofs.streams.Owed.{are_submitted, keeps_order}
use Rattle.samoa_laws.proofs.stack.broadcasts_keep_order.Goals as goal

pub returns : goal.returns
returns c = record { order = keeps_order; given = are_submitted }
