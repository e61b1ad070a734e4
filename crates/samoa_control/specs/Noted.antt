-- The journal, as contracts see it.
use Rattle.std.specs.Prelude.{ℕ, List}
use Rattle.samoa_model.specs.declared.record.Step.{Step}

-- the steps that were made, and for how many more there is room
pub record Noted : Type 0 where
  pub steps : List Step
  pub promised : ℕ
