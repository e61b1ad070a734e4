use Rattle.std.proofs.Common.{◌≡◌, [], ◌∙◌, append-nil, length, ap, arith}
use Rattle.samoa_report.specs.Steps.{steps_text}
use Rattle.samoa_report.proofs.StepLines.{nothing_begins, same_steps}
use Rattle.samoa_report.proofs.laws.no_steps_beside_a_bad_line.Goals as goal

pub returns : goal.returns
returns c = λ text line steps bad fit e.
    let none : [] ≡ bad.rest = (same_steps steps bad.steps [] bad.rest fit bad.fit nothing_begins bad.bad (append-nil (steps_text steps) ∙ e ∙ bad.is)).1 in
    omega (arith, bad.some, ap length none)
