use Rattle.samoa_replay.proofs.Causes.{no_fault}
use Rattle.samoa_replay.proofs.laws.complete_journals_have_no_fault.Goals as goal

pub returns : goal.returns
returns c = no_fault
