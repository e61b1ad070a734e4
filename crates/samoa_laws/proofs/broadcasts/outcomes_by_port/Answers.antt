use Rattle.samoa_laws.proofs.broadcasts.AnswersByPort as laws
use Rattle.samoa_laws.proofs.broadcasts.outcomes_by_port.Goals as goal

pub returns : goal.returns
returns c = record {
  abcast = laws.abcast_read;
  abcast_back = laws.abcast_read_back;
  seqcast = laws.seqcast_read;
  seqcast_back = laws.seqcast_read_back;
  told = laws.told_read;
  told_back = laws.told_read_back;
}
