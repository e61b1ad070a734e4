use Rattle.samoa_laws.proofs.replacement.Rows as laws
use Rattle.samoa_laws.proofs.replacement.hands_on.Goals as goal

pub returns : goal.returns
returns c = record { ready = λ setup s moment. (laws.step_gives setup s moment).ready }
