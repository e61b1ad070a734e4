-- What holds of every core.
use Rattle.std.specs.Prelude.{◌≡◌, ◌↔◌, ℕ, ◌-◌, ◌<◌, ◌≤◌, length, true}
use Rattle.std.specs.Int.{bit_at}
use Rattle.samoa_model.specs.Allowed.{weight}
use Rattle.samoa_model.specs.Range.{IsExtOf, IsInRange}
use Rattle.samoa_invariant.specs.Play.{Play}
use Rattle.samoa_invariant.specs.State as model
use Rattle.samoa_invariant.specs.Runs.{IsRun, Trace, ext_at, play, state}
use Rattle.samoa_control.specs.Since.{cleared_comps}

-- its journal is a run of a script in range, in which all that came were admitted, and what was cleared away has ended
pub record IsSound (t : Trace) : Type 0 where
  pub run : IsRun t
  pub all : (state t).count ≡ length t.exts
  pub in_range : IsInRange t.script
  pub known : (k : ℕ) → k < length t.exts → IsExtOf t.script (ext_at t.exts k)
  pub cleared : cleared_comps t ≤ length t.exts
  pub past : (k : ℕ) → k < cleared_comps t → (state t).ended k ≡ true

-- a microprotocol is past, if the computation declares it
abbrev pub IsPast : Play → model.Core → ℕ → ℕ → Type 0
IsPast P core k p = 0 < weight (P.decl k) p → core.private k (P.node k) p ≤ core.local (P.node k) p

-- a bit is a zero exactly where the computation may be done with the microprotocol
pub record StillNeeds (t : Trace) (comp needed : ℕ) : Type 0 where
  pub bits : (p : ℕ) → p < 32 → (bit_at needed p ≡ 0)
      ↔ model.Quiet ((play t).decl (comp - 1)) ((state t).table (comp - 1)) ((state t).comp (comp - 1)) p
