use Rattle.std.proofs.Common.{◌≤◌, arith, subst, sym}
use Rattle.samoa_model.specs.Cells.{need}
use Rattle.samoa_invariant.specs.Runs.{Trace}
use Rattle.samoa_micro.proofs.Enough.{covers-valid}
use Rattle.samoa_replay.proofs.Runnable.{few_needed}
use Rattle.samoa_run.proofs.Treating.{serial_treats, sink_cause}
use Rattle.samoa_run.proofs.answer.write_report.Goals as goal

pub new-requires-clause-covers : goal.new-requires-clause-covers
new-requires-clause-covers g c = covers-valid c.args.script.now c.args.stock c.requires.valid c.requires.stock

pub new-requires-clause-cells : goal.new-requires-clause-cells
new-requires-clause-cells g c = omega (arith, few_needed c.args.script.now c.requires.valid.in_range)

pub run_one_by_one-ended-requires-clause-room : goal.run_one_by_one-ended-requires-clause-room
run_one_by_one-ended-requires-clause-room g c =
    subst (λ (t : Trace). need c.args.script.now ≤ t.cells) (sym c.in-Ok.ensures) (omega (arith, few_needed c.args.script.now c.requires.valid.in_range))

pub returns : goal.returns
returns g c =
    serial_treats c.args.script.now c.args.calls c.run_one_by_one-ended.result _ _ _ _ c.status_of.result c.status_of.ensures c.run_one_by_one-ended.ensures.all c.run_one_by_one-ended.ensures.part
    c.run_one_by_one-ended.ensures.limited (sink_cause c.run_one_by_one-ended.result c.status_of.result c.status_of.ensures c.run_one_by_one-ended.ensures.cause.failed)
