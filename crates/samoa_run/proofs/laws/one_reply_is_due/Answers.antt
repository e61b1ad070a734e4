use Rattle.samoa_run.proofs.Replays.{one_is_due}
use Rattle.samoa_run.proofs.laws.one_reply_is_due.Goals as goal

pub returns-clause-status : goal.returns-clause-status
returns-clause-status c = λ input a b x y one other. (one_is_due input a b x y one other).status

pub returns-clause-text : goal.returns-clause-text
returns-clause-text c = λ input a b x y one other. (one_is_due input a b x y one other).text
