-- What stays as it was while a core goes on.
use Rattle.std.specs.Prelude.{◌≡◌, ℕ, List, ◌++◌}
use Rattle.samoa_model.specs.declared.record.Step.{Step}
use Rattle.samoa_invariant.specs.State as model
use Rattle.samoa_invariant.specs.Runs.{Trace, state}
use Rattle.samoa_control.specs.Since.{cleared_comps}

-- nothing is out or stopped that wasn't
pub record IsStill (base : model.Core) (t : Trace) : Type 0 where
  pub out : (v p : ℕ) → (state t).out v p ≡ base.out v p
  pub stopped : (state t).stopped ≡ base.stopped

-- the same script, cells, admissions and clears, and the journal goes on. As many are cleared away as before
pub record IsLater (t u : Trace) : Type 0 where
  pub script : u.script ≡ t.script
  pub cells : u.cells ≡ t.cells
  pub exts : u.exts ≡ t.exts
  pub clears : u.clears ≡ t.clears
  pub steps : List Step
  pub journal : u.journal ≡ t.journal ++ steps
  pub cleared : cleared_comps u ≡ cleared_comps t
