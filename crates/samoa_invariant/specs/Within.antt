-- The calls of a computation under a bound.
use Rattle.std.specs.Prelude.{ℕ, zero, suc, ◌+◌, ◌≤◌, List, [], ◌∷◌, ◌==◌, if◌then◌else◌}
use Rattle.samoa_model.specs.declared.ids.HandlerId.{HandlerId}
use Rattle.samoa_model.specs.Allowed.{weight}
use Rattle.samoa_model.specs.Entries.{calls_at}
use Rattle.samoa_serial.specs.declared.call.Active.{Active}
use Rattle.samoa_invariant.specs.Play.{Play, done, point}
use Rattle.samoa_invariant.specs.State.{Core}

abbrev pub one_at : HandlerId → ℕ → ℕ
one_at g p = if g.micro.0 == p then suc zero else zero

-- how many of the active calls are at p
abbrev pub active_at : List Active → ℕ → ℕ
active_at [] p = zero
active_at (a ∷ rest) p = one_at a.call.handler p + active_at rest p

-- the completed and the active calls at p are among those made there, and these are within the bound
pub record IsWithin (P : Play) (core : Core) (k p : ℕ) : Type 0 where
  pub made : done (point P k (core.made k)).turns p + active_at (core.comp k).active p ≤ calls_at (core.comp k).entries p
  pub most : calls_at (core.comp k).entries p ≤ weight (P.decl k) p
