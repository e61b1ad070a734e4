use Rattle.samoa_laws.proofs.consensus.ConsAnswers as laws
use Rattle.samoa_laws.proofs.consensus.outcomes_by_port.Goals as goal

pub returns : goal.returns
returns c = record { letter = laws.letter_read; announced = laws.announced_read; decided = laws.decided_read }
