-- The first line of a text that is the line of no step.
use Rattle.std.specs.Prelude.{ℕ, List, ◌≡◌, ◌++◌, ◌+◌, ◌<◌, All, length}
use Rattle.samoa_model.specs.declared.record.Step.{Step}
use Rattle.samoa_report.specs.Steps.{step_text, steps_text}
use Rattle.samoa_report.specs.StepFields.{FitsStep}
use Rattle.samoa_report.specs.declared.fault.StepsFault.{StepsFault}
use Rattle.samoa_report.specs.declared.fault.StepsFault.TheVariants.{BadLine, Memory}

-- the text begins with the line of a step whose numbers have 32 bits
pub record BeginsWithStep (text : List ℕ) : Type 0 where
  pub step : Step
  pub fits : FitsStep step
  pub after : List ℕ
  pub is : text ≡ step_text step ++ after

-- The text is the lines of steps, and then a rest that isn't empty and that begins with the line of no step. The line
-- where the rest begins has this number, counted from 1.
pub record IsBadLine (text : List ℕ) (line : ℕ) : Type 0 where
  pub steps : List Step
  pub fit : All FitsStep steps
  pub rest : List ℕ
  pub is : text ≡ steps_text steps ++ rest
  pub some : 0 < length rest
  pub bad : ¬ BeginsWithStep rest
  pub number : line ≡ length steps + 1

-- why the text is read as no steps: its first bad line, or want of memory, which says nothing of the text
abbrev pub Fails : List ℕ → StepsFault → Type 0
Fails text (BadLine line) = IsBadLine text line
Fails text Memory = Unit {0}
