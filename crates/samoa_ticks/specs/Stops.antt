-- How a part of the work stops.
use Rattle.std.specs.Prelude.{ℕ, ◌≤◌, Result, IsErrOf}
use Rattle.samoa_ends.specs.Causes.{Rose}
use Rattle.samoa_ticks.specs.declared.stop.Stop.{Stop}
use Rattle.samoa_ticks.specs.declared.stop.Stop.TheVariants.{Failed}

-- the count has not fallen, and at `Failed` it rose
pub record StopsFor {T : Type 0} (before now : ℕ) (result : Result T Stop) : Type 0 where
  pub later : before ≤ now
  pub failed : IsErrOf result Failed → Rose before now
