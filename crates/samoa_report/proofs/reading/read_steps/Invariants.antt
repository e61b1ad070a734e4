use Rattle.std.proofs.Common.{◌≡◌, ◌++◌, ◌+◌, ◌*◌, ◌≤◌, All, length}
use Rattle.samoa_report.specs.Steps.{steps_text}
use Rattle.samoa_report.specs.StepFields.{FitsStep}
use Rattle.samoa_report.proofs.reading.read_steps.Given as goal

abbrev pub invariant-loop-rest : goal.invariant-loop-rest
invariant-loop-rest l = record {
  is : l.fn.text ≡ steps_text l.steps.items ++ l.rest;
  fit : All FitsStep l.steps.items;
  number : l.line ≡ length l.steps.items + 1;
  room : 2 * length l.steps.items + length l.rest ≤ length l.fn.text;
}

abbrev pub decreases-loop-rest : goal.decreases-loop-rest
decreases-loop-rest l = length l.rest
