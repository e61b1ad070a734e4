use Rattle.samoa_laws.proofs.transport.Received.{upward}
use Rattle.samoa_laws.proofs.transport.what_is_handed_up_was_cast.Goals as goal

pub returns : goal.returns
returns c = record { cast = λ script exts past node h arg history is b. upward script exts history past node h arg is b }
