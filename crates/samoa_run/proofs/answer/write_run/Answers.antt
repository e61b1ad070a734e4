use Rattle.std.proofs.Common.{◌≤◌, arith}
use Rattle.std.proofs.lemmas.Bool.{le-leb}
use Rattle.samoa_model.specs.Cells.{need}
use Rattle.samoa_micro.proofs.Enough.{covers-valid}
use Rattle.samoa_run.specs.declared.words.Order.TheVariants.{Run}
use Rattle.samoa_run.proofs.Runs.{run_treats}
use Rattle.samoa_run.proofs.Treating.{memory_treats}
use Rattle.samoa_run.proofs.answer.write_run.Goals as goal

pub new-requires-clause-covers : goal.new-requires-clause-covers
new-requires-clause-covers g c = covers-valid c.args.script.now c.args.stock c.requires.valid c.requires.stock

pub returns-in_default : goal.returns-in_default
returns-in_default g c = memory_treats (Run c.args.asked.workers c.args.asked.cells c.args.asked.calls c.args.asked.journal) c.args.script.now _ _ _

pub returns : goal.returns
returns g c =
    let enough : need c.args.script.now ≤ c.args.asked.cells = omega (arith, c.if-asked-needed.false, c.need-needed.ensures) in
    run_treats c.args.script.now c.args.asked.workers c.args.asked.cells c.args.asked.calls c.args.asked.journal _ _ _ _ _ _ _
    (le-leb (need c.args.script.now) c.args.asked.cells enough) c.run_to_status-core.ensures.run c.run_to_status-core.ensures.sink_failed
