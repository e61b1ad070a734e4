use Rattle.std.proofs.Common.{◌≡◌, sym, ◌∙◌, length, ap, arith}
use Rattle.samoa_report.proofs.StepLines.{same_steps}
use Rattle.samoa_report.proofs.laws.one_bad_line.Goals as goal

pub returns : goal.returns
returns c = λ text m n one two.
    let same : one.steps ≡ two.steps = (same_steps one.steps two.steps one.rest two.rest one.fit two.fit one.bad two.bad (sym one.is ∙ two.is)).0 in
    omega (arith, one.number, two.number, ap length same)
