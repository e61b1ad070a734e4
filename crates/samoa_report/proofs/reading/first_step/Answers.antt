use Rattle.std.proofs.Common.{◌∙◌}
use Rattle.samoa_report.specs.StepFields.{step_fields}
use Rattle.samoa_report.proofs.Cuts.{first_cut, if_none, nowhere_cut}
use Rattle.samoa_report.proofs.StepLines.{fields_lack, line_is}
use Rattle.samoa_report.proofs.reading.first_step.Goals as goal

-- a text without a line feed
pub returns-in_err-at-clause-none : goal.returns-in_err-at-clause-none
returns-in_err-at-clause-none c =
    if_none c.from_residual.result (λ b. nowhere_cut 10 c.args.text.now (step_fields b.step) b.after c.in_err-at.ensures (b.is ∙ line_is b.step b.after))

-- the line of a step would end at the first line feed
pub returns-in_err-step-clause-none : goal.returns-in_err-step-clause-none
returns-in_err-step-clause-none c =
    if_none c.from_residual-in_err-step.result (λ b.
    let cut = first_cut 10 c.in_ok-at.at c.args.text.now (step_fields b.step) b.after c.in_ok-at.ensures (fields_lack b.step b.fits) (b.is ∙ line_is b.step b.after) in
    c.in_err-step.ensures.none b.step b.fits cut.0)
