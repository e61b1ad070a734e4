use Rattle.samoa_naming.proofs.Valid.{script_valid}
use Rattle.samoa_naming.proofs.laws.passed_is_valid.Goals as goal

pub returns : goal.returns
returns c = script_valid
