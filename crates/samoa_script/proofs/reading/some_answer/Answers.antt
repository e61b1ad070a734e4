use Rattle.samoa_script.proofs.Answered as answered
use Rattle.samoa_script.proofs.reading.some_answer.Goals as goal

pub returns : goal.returns
returns c = answered.some_answer
