use Rattle.samoa_ticks.proofs.Opened.{opened_one, opened_holds}
use Rattle.samoa_ticks.proofs.running.admit.Goals as goal

pub returns-in-Ok-clause-opened : goal.returns-in-Ok-clause-opened
returns-in-Ok-clause-opened g c = opened_one _ _ _ c.admitted-admitted.ensures.run c.admitted-admitted.ensures.all c.in-Ok.ensures.step

pub returns-in-Ok-clause-held : goal.returns-in-Ok-clause-held
returns-in-Ok-clause-held g c = opened_holds _ _ _ c.admitted-admitted.ensures.run c.in-Ok.ensures.step
