use Rattle.samoa_core.proofs.Stepped.{ended}
use Rattle.samoa_core.proofs.keeping.end.Goals as goal

pub returns-clause-indexed : goal.returns-clause-indexed
returns-clause-indexed g c = rw c.end.ensures.step (ended c.args.control.now c.args.index.now c.args.comp c.recall.ensures.run c.requires.indexed c.requires.due)
