use Rattle.std.proofs.Common.{◌≤◌, arith, subst, sym}
use Rattle.samoa_model.specs.Cells.{need}
use Rattle.samoa_invariant.specs.Runs.{Trace}
use Rattle.samoa_micro.proofs.Enough.{covers-valid}
use Rattle.samoa_replay.proofs.Runnable.{few_needed}
use Rattle.samoa_run.proofs.making.totals_of.Goals as goal

pub new-requires-clause-covers : goal.new-requires-clause-covers
new-requires-clause-covers g c = covers-valid c.args.script.now c.args.stock c.requires.valid c.requires.stock

pub new-requires-clause-cells : goal.new-requires-clause-cells
new-requires-clause-cells g c = omega (arith, few_needed c.args.script.now c.requires.valid.in_range)

pub run_on_workers-core-requires-clause-room : goal.run_on_workers-core-requires-clause-room
run_on_workers-core-requires-clause-room g c κs within =
    subst (λ (t : Trace). need c.args.script.now ≤ t.cells) (sym c.in_ok-core.ensures) (omega (arith, few_needed c.args.script.now c.requires.valid.in_range))
