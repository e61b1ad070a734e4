use Rattle.samoa_laws.proofs.text.Valid.{valid_names}
use Rattle.samoa_laws.proofs.written.valid_scripts_have_names.Goals as goal

pub returns : goal.returns
returns c = record { names = valid_names }
