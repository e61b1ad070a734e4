use Rattle.std.proofs.Common.{subst}
use Rattle.samoa_run.specs.declared.words.Order.{Order}
use Rattle.samoa_run.specs.declared.words.Order.TheVariants.{Run}
use Rattle.samoa_run.specs.Serving.{Treats}
use Rattle.samoa_run.proofs.Obeying.{treated}
use Rattle.samoa_run.proofs.obey.obey_run.Goals as goal

pub returns-in-Ok : goal.returns-in-Ok
returns-in-Ok g c =
    let order : Order = Run c.args.asked.workers c.args.asked.cells c.args.asked.calls c.args.asked.journal in
    treated order c.in-Ok.script _ c.write_run.result c.in-Ok.ensures.held c.in-Ok.ensures.at_end
    (subst (λ sink. Treats order c.in-Ok.script (g.K.Sink.written sink) (g.K.Sink.written c.write_run.new.sink) (g.K.Sink.faults sink) (g.K.Sink.faults c.write_run.new.sink) c.write_run.result) c.in-Ok.ensures.unwritten c.write_run.ensures)

pub returns-in-Err : goal.returns-in-Err
returns-in-Err g c = c.in-Err.ensures.refused (Run c.args.asked.workers c.args.asked.cells c.args.asked.calls c.args.asked.journal)
