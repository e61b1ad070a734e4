use Rattle.std.proofs.Common.{◌-◌, ap}
use Rattle.samoa_model.specs.declared.handler.Moment.{Moment}
use Rattle.samoa_model.specs.declared.ids.MicroId.{MicroId}
use Rattle.samoa_model.specs.declared.record.Step.{Step}
use Rattle.samoa_invariant.specs.Runs.{state}
use Rattle.samoa_invariant.proofs.representation.Traces.{fewer}
use Rattle.samoa_control.proofs.Facts.{IsCallOf, away-entered, call_of, due-since}
use Rattle.samoa_control.proofs.Later.{later-step}
use Rattle.samoa_control.proofs.control.Control.enter.Goals as goal

pub go_out-held-requires-clause-kept : goal.go_out-held-requires-clause-kept
go_out-held-requires-clause-kept g c = due-since c.args.self.now c.args.comp c.due-moment.result.0.0 c.recall.ensures c.due-moment.ensures.due

pub returns-clause-later : goal.returns-clause-later
returns-clause-later g c = later-step c.args.self.now _ (Step.Enter c.args.comp c.due-moment.result.0.0) c.recall.ensures.run c.go_out-held.ensures.step

pub returns-clause-away : goal.returns-clause-away
returns-clause-away g c =
    let step : MicroId × Moment = (c.due-moment.result.0, c.due-moment.result.1) in
    let is : IsCallOf ((state c.args.self.now).comp (c.args.comp - 1)) step = call_of ((state c.args.self.now).comp (c.args.comp - 1)) step c.due-moment.ensures.next in
    rw (c.go_out-held.ensures.step, c.new.ensures)
    (away-entered c.args.self.now (record { comp = c.args.comp; micro = step.0.0; moment = step.1; before = c.go_out-held.result }) is.call c.recall.ensures.run c.due-moment.ensures.due.number is.next
    (ap (λ (x : MicroId). x.0) is.is_at) c.go_out-held.ensures.held)

pub returns-clause-fewer : goal.returns-clause-fewer
returns-clause-fewer g c = rw c.go_out-held.ensures.step (fewer c.args.self.now (Step.Enter c.args.comp c.due-moment.result.0.0) c.recall.ensures.run tt c.due-moment.ensures.due)
