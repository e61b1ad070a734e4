use Rattle.samoa_laws.proofs.trace.Admitted.{admitted_is_group_history}
use Rattle.samoa_laws.proofs.histories.what_group_scripts_admit.Goals as goal

pub returns : goal.returns
returns c = record { allowed = admitted_is_group_history }
