use Rattle.samoa_laws.proofs.replacement.Histories as laws
use Rattle.samoa_laws.proofs.replacement.marks_what_was_handed_on.Goals as goal

pub returns : goal.returns
returns c = record { marked = laws.mark_follows }
