use Rattle.samoa_replay.proofs.Numbers.{finished_fit}
use Rattle.samoa_replay.proofs.laws.finished_journals_have_lines.Goals as goal

pub returns : goal.returns
returns c = finished_fit
