use Rattle.samoa_laws.proofs.consensus.Agreed.{given-past}
use Rattle.samoa_laws.proofs.consensus.ConsTrace.{cons_history}
use Rattle.samoa_laws.proofs.consensus.consensus_steps_are_a_history.Goals as goal

pub returns : goal.returns
returns c = record { history = cons_history; given = λ script exts past node arg history b. given-past script exts history past node arg b }
