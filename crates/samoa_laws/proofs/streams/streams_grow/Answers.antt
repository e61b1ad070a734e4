use Rattle.samoa_laws.proofs.streams.Settled as laws
use Rattle.samoa_laws.proofs.streams.streams_grow.Goals as goal

pub returns : goal.returns
returns c = record { grown = laws.stream_extends }
