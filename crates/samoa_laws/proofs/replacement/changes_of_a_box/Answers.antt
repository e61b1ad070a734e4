use Rattle.samoa_laws.proofs.replacement.Histories as laws
use Rattle.samoa_laws.proofs.replacement.changes_of_a_box.Goals as goal

pub returns : goal.returns
returns c = record { asked = laws.asked_marked; each = laws.asked_each; epochs = laws.turns_in_order }
