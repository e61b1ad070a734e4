use Rattle.samoa_laws.proofs.replacement.Casts as laws
use Rattle.samoa_laws.proofs.replacement.casts_of_a_box.Goals as goal

pub returns : goal.returns
returns c = record { rebound = laws.switches_count; down = laws.casts_down }
