use Rattle.samoa_laws.proofs.replacement.Histories as laws
use Rattle.samoa_laws.proofs.replacement.stream_of_a_box.Goals as goal

pub returns : goal.returns
returns c = record { words = laws.stream_marked; apart = laws.stream_apart; grows = laws.stream_grows }
