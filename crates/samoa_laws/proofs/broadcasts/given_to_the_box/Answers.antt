use Rattle.samoa_laws.proofs.broadcasts.BoxSubmitted as laws
use Rattle.samoa_laws.proofs.broadcasts.given_to_the_box.Goals as goal

pub returns : goal.returns
returns c = record { proposed = laws.proposes_heard; broadcast = laws.broadcasts_cast; submitted = laws.submits_cast }
