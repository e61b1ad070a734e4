use Rattle.samoa_laws.proofs.replacement.Histories as laws
use Rattle.samoa_laws.proofs.replacement.marks_what_began.Goals as goal

pub returns : goal.returns
returns c = record { began = laws.marks_begun }
