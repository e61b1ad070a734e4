use Rattle.samoa_ticks.proofs.Journals.{head_part, steps_part, whole}
use Rattle.samoa_ticks.proofs.Parts.{on_err}
use Rattle.samoa_ticks.proofs.journal.write_journal.Goals as goal

pub returns-in_err-write_head-clause-part : goal.returns-in_err-write_head-clause-part
returns-in_err-write_head-clause-part g c = on_err c.from_residual.result (head_part c.args.steps.now _ _ c.in_err-write_head.ensures.part)

pub returns-in_err-write_steps-clause-part : goal.returns-in_err-write_steps-clause-part
returns-in_err-write_steps-clause-part g c =
    on_err c.from_residual-in_err-write_steps.result (steps_part c.args.steps.now _ _ _ c.in_ok-write_head.ensures.all c.in_err-write_steps.ensures.part)

pub returns-clause-all : goal.returns-clause-all
returns-clause-all g c = whole c.args.steps.now _ _ _ c.in_ok-write_head.ensures.all c.in_ok-write_steps.ensures.all
