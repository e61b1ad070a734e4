use Rattle.std.proofs.Common.{subst}
use Rattle.samoa_run.specs.declared.words.Order.{Order}
use Rattle.samoa_run.specs.declared.words.Order.TheVariants.{Serial}
use Rattle.samoa_run.specs.Serving.{Treats}
use Rattle.samoa_run.proofs.Obeying.{treated}
use Rattle.samoa_run.proofs.obey.obey_serial.Goals as goal

pub returns-in-Ok : goal.returns-in-Ok
returns-in-Ok g c =
    let order : Order = Serial c.args.calls in
    treated order c.in-Ok.script _ c.write_report.result c.in-Ok.ensures.held c.in-Ok.ensures.at_end
    (subst (λ sink. Treats order c.in-Ok.script (g.K.Sink.written sink) (g.K.Sink.written c.write_report.new.sink) (g.K.Sink.faults sink) (g.K.Sink.faults c.write_report.new.sink) c.write_report.result) c.in-Ok.ensures.unwritten c.write_report.ensures)

pub returns-in-Err : goal.returns-in-Err
returns-in-Err g c = c.in-Err.ensures.refused (Serial c.args.calls)
