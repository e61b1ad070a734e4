use Rattle.samoa_laws.proofs.replacement.Histories as laws
use Rattle.samoa_laws.proofs.replacement.change_messages.Goals as goal

pub returns : goal.returns
returns c = record { left = laws.last_is_turn; present = laws.none_is_turn }
