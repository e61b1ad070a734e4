use Rattle.samoa_laws.proofs.consensus.ConsHistories as laws
use Rattle.samoa_laws.proofs.consensus.Passed.{passed_on}
use Rattle.samoa_laws.proofs.consensus.agreement.Goals as goal

pub returns : goal.returns
returns c = record { equal = laws.agreement; function = laws.is_decision; standing = laws.standing; valid = laws.validity; passed = passed_on }
