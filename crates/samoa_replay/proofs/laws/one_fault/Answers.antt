use Rattle.samoa_replay.proofs.Causes.{only_fault}
use Rattle.samoa_replay.proofs.laws.one_fault.Goals as goal

pub returns : goal.returns
returns c = only_fault
