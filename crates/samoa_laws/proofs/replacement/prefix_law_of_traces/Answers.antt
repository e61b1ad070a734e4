use Rattle.samoa_laws.proofs.replacement.Groups as laws
use Rattle.samoa_laws.proofs.replacement.prefix_law_of_traces.Goals as goal

pub returns : goal.returns
returns c = record { streams = laws.streams_of_traces }
