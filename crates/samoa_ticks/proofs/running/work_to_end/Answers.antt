use Rattle.std.proofs.lemmas.Result.{on_ok_weaker}
use Rattle.samoa_control.proofs.Later.{later-trans}
use Rattle.samoa_ticks.proofs.Kept.{held-later}
use Rattle.samoa_ticks.proofs.running.work_to_end.Goals as goal

pub returns-then-workers-eq1-clause-all : goal.returns-then-workers-eq1-clause-all
returns-then-workers-eq1-clause-all g c = on_ok_weaker c.ended.result (λ done. c.drain_behind-batch.ensures.done.0 done) c.ended.ensures

pub returns-then-workers-eq1-clause-held : goal.returns-then-workers-eq1-clause-held
returns-then-workers-eq1-clause-held g c =
    held-later _ _ c.admitted-admitted.ensures.run (later-trans _ _ _ c.settle.ensures.later c.drain_behind-batch.ensures.later)

pub returns-clause-all : goal.returns-clause-all
returns-clause-all g c = on_ok_weaker c.ended-2.result (λ done. c.run_batch-core.ensures.done.0 done) c.ended-2.ensures

pub returns-clause-later : goal.returns-clause-later
returns-clause-later g c = later-trans _ _ _ c.settle.ensures.later c.run_batch-core.ensures.later

pub returns-clause-held : goal.returns-clause-held
returns-clause-held g c = held-later _ _ c.admitted-admitted.ensures.run (later-trans _ _ _ c.settle.ensures.later c.run_batch-core.ensures.later)
