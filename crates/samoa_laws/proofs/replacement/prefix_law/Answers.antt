use Rattle.samoa_laws.proofs.replacement.Groups as laws
use Rattle.samoa_laws.proofs.replacement.prefix_law.Goals as goal

pub returns : goal.returns
returns c = record { agree = laws.agree; marks = laws.marks_comparable; streams = laws.streams_comparable }
