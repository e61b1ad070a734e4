use Rattle.samoa_laws.proofs.streams.Order.{ordered}
use Rattle.samoa_laws.proofs.streams.Owed.{are_submitted, keeps_order}
use Rattle.samoa_laws.proofs.stack.replacement_layers_are_ordered.Goals as goal

pub returns : goal.returns
returns c = record { ordered = λ script exts history. ordered script exts history (keeps_order script exts history) (are_submitted script exts history) }
