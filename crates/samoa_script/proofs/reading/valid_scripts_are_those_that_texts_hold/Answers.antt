use Rattle.samoa_script.proofs.Held.{held_valid, valid_meant}
use Rattle.samoa_script.proofs.reading.valid_scripts_are_those_that_texts_hold.Goals as goal

pub returns-clause-meant : goal.returns-clause-meant
returns-clause-meant c = valid_meant

pub returns-clause-held : goal.returns-clause-held
returns-clause-held c = held_valid
