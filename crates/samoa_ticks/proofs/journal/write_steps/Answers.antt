use Rattle.samoa_ticks.proofs.Journals.{all_lines, step_part}
use Rattle.samoa_ticks.proofs.Parts.{on_err}
use Rattle.samoa_ticks.proofs.journal.write_steps.Goals as goal

pub returns-in_err-write_step-clause-part : goal.returns-in_err-write_step-clause-part
returns-in_err-write_step-clause-part g c =
    on_err c.from_residual.result (step_part c.args.steps.now c.loop-step.step-index _ _ _ _ c.loop-step-test.true c.loop-step.invariant.written c.in_err-write_step.ensures.part)

pub returns-clause-all : goal.returns-clause-all
returns-clause-all g c = all_lines c.args.steps.now c.loop-step.step-index _ _ c.loop-step-test.false c.loop-step.invariant.written
