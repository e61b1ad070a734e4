use Rattle.samoa_laws.proofs.trace.Firsts.{first_part}
use Rattle.samoa_laws.proofs.histories.first_parts_are_histories.Goals as goal

pub returns : goal.returns
returns c = record { history = first_part }
