use Rattle.std.proofs.Common.{◌-◌}
use Rattle.samoa_control.proofs.Facts.{moments-within}
use Rattle.samoa_control.proofs.control.Control.next.Goals as goal

pub returns-clause-within : goal.returns-clause-within
returns-clause-within g c = rw (c.next.ensures.next, c.running.ensures.comp) (moments-within c.args.self.now (c.args.comp - 1) c.recall.ensures c.running.ensures.admitted)
