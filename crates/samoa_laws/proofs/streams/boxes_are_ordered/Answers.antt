use Rattle.samoa_laws.proofs.streams.Order as laws
use Rattle.samoa_laws.proofs.streams.boxes_are_ordered.Goals as goal

pub returns : goal.returns
returns c = record { ordered = laws.ordered }
