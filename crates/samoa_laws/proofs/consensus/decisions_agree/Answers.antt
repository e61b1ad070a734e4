use Rattle.samoa_laws.proofs.consensus.Agreed.{agree, standing}
use Rattle.samoa_laws.proofs.consensus.decisions_agree.Goals as goal

pub returns : goal.returns
returns c = record { equal = agree; standing = λ script exts before history part v i m d. standing script exts history before part v i m d }
