use Rattle.std.proofs.Common.{◌≡◌, ◌<◌, ◌↔◌, ◌-◌, ℕ, length}
use Rattle.std.specs.Int.{bit_at}
use Rattle.samoa_model.specs.Paths.{IsSafe}
use Rattle.samoa_vca_route.proofs.Masking.{AreFirst}
use Rattle.samoa_vca_route.proofs.masks.Masks.active_need.Given as goal

abbrev pub invariant-loop-handler : goal.invariant-loop-handler
invariant-loop-handler g l =
    (p : ℕ) → p < 32 → (bit_at l.needed p ≡ 0) ↔ AreFirst (IsSafe l.vertices l.edges p) (g.T.Standing.active_handlers l.standing) l.at

abbrev pub decreases-loop-handler : goal.decreases-loop-handler
decreases-loop-handler g l = length (g.T.Standing.active_handlers l.standing) - l.at
