use Rattle.samoa_laws.proofs.transport.Received.{heard}
use Rattle.samoa_laws.proofs.transport.what_is_received_was_told.Goals as goal

pub returns : goal.returns
returns c = record { heard = λ script exts past chan node arg history le b. heard script exts history past chan node arg le b }
