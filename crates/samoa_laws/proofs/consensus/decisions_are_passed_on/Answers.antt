use Rattle.samoa_laws.proofs.consensus.Agreed.{given_decision, valid}
use Rattle.samoa_laws.proofs.consensus.decisions_are_passed_on.Goals as goal

pub returns : goal.returns
returns c = record { given = λ script exts past node arg history b. given_decision script exts history past node arg b; valid = λ script exts i m history is. valid script exts history i m is }
