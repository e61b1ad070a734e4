use Rattle.samoa_laws.proofs.streams.Words as laws
use Rattle.samoa_laws.proofs.streams.no_message_comes_twice.Goals as goal

pub returns : goal.returns
returns c = record { apart = laws.apart }
