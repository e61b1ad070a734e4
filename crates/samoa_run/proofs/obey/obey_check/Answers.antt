use Rattle.std.proofs.Common.{subst}
use Rattle.samoa_run.specs.declared.words.Order.TheVariants.{Check}
use Rattle.samoa_run.specs.Serving.{Treats}
use Rattle.samoa_run.proofs.Obeying.{treated}
use Rattle.samoa_run.proofs.Treating.{check_treats}
use Rattle.samoa_run.proofs.obey.obey_check.Goals as goal

pub returns-in-Ok : goal.returns-in-Ok
returns-in-Ok g c =
    treated Check c.in-Ok.script _ c.write_canonical.result c.in-Ok.ensures.held c.in-Ok.ensures.at_end
    (subst (λ sink. Treats Check c.in-Ok.script (g.K.Sink.written sink) (g.K.Sink.written c.write_canonical.new.sink) (g.K.Sink.faults sink) (g.K.Sink.faults c.write_canonical.new.sink) c.write_canonical.result) c.in-Ok.ensures.unwritten
    (check_treats c.in-Ok.script _ _ _ _ c.write_canonical.result c.write_canonical.ensures.written c.write_canonical.ensures.statuses c.write_canonical.ensures.sink_failed))

pub returns-in-Err : goal.returns-in-Err
returns-in-Err g c = c.in-Err.ensures.refused Check
