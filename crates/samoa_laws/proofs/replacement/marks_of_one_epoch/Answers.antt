use Rattle.samoa_laws.proofs.replacement.Histories as laws
use Rattle.samoa_laws.proofs.replacement.marks_of_one_epoch.Goals as goal

pub returns : goal.returns
returns c = record { comparable = laws.epochs_alike }
