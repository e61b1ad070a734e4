use Rattle.samoa_laws.proofs.replacement.Histories as laws
use Rattle.samoa_laws.proofs.replacement.settled_marks.Goals as goal

pub returns : goal.returns
returns c = record { settled = laws.settled }
