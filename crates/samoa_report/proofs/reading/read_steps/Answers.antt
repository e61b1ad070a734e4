use Rattle.std.proofs.Common.{◌≡◌, ◌++◌, [], ◌∷◌, ◌∙◌, All, length, ap, sym, subst, arith, rules, length-append}
use Rattle.std.proofs.lemmas.List.Elements.{All-push}
use Rattle.samoa_model.specs.declared.record.Step.{Step}
use Rattle.samoa_report.specs.Steps.{steps_text}
use Rattle.samoa_report.specs.StepFields.{FitsStep}
use Rattle.samoa_report.proofs.StepLines.{more_steps}
use Rattle.samoa_report.proofs.reading.read_steps.Goals as goal

pub loop-rest-preserved : goal.loop-rest-preserved
loop-rest-preserved c =
    let pushed : c.push.new.self.items ≡ c.loop-rest.steps.items ++ c.in-Some.step ∷ [] = search rules in
    record {
      is =
          c.loop-rest.invariant.is ∙ ap (λ r. steps_text c.loop-rest.steps.items ++ r) c.in-Some.ensures.some
          ∙ sym (ap (λ steps. steps_text steps ++ c.in-Some.after.now) pushed ∙ more_steps c.loop-rest.steps.items c.in-Some.step c.in-Some.after.now);
      fit = subst (All FitsStep) (sym pushed) (All-push FitsStep c.loop-rest.steps.items c.in-Some.step c.loop-rest.invariant.fit c.in-Some.ensures.fits);
      number = omega (arith, c.loop-rest.invariant.number, length-append {A = Step}, ap length pushed);
      room = omega (arith, c.loop-rest.invariant.room, c.in-Some.ensures.shorter, length-append {A = Step}, ap length pushed);
    }

pub returns-in_default-clause-fault : goal.returns-in_default-clause-fault
returns-in_default-clause-fault c = record {
  steps = c.loop-rest.steps.items;
  fit = c.loop-rest.invariant.fit;
  rest = c.loop-rest.rest.now;
  is = c.loop-rest.invariant.is;
  some = search rules;
  bad = c.in_default.ensures.none;
  number = c.loop-rest.invariant.number;
}
