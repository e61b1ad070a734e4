use Rattle.samoa_laws.proofs.text.Tells.{told_prefix}
use Rattle.samoa_laws.proofs.written.texts_tell_more_and_more.Goals as goal

pub returns : goal.returns
returns c = record { begins = told_prefix }
