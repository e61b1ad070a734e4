use Rattle.samoa_control.proofs.Later.{later-trans}
use Rattle.samoa_ticks.proofs.Kept.{held-later}
use Rattle.samoa_ticks.proofs.running.run_to_end.Goals as goal

pub returns-clause-held : goal.returns-clause-held
returns-clause-held g c = held-later _ _ c.admitted-admitted.ensures.run (later-trans _ _ _ c.settle.ensures.later c.drain.ensures.later)
