-- Masks of nodes.
use Rattle.std.proofs.Common.{ℕ, zero, suc, ◌^◌, ◌<◌, ◌≤◌, Bool, true, false, List, [], ◌∷◌, length, arith, if◌then◌else◌}
use Rattle.samoa_serial.specs.FdTable.{fd_mask}
use Rattle.samoa_serial.specs.declared.message.Watch.{Watch}

-- a bit is at most 1
bit_le : (b : Bool) → (if b then 1 else 0) ≤ 1
bit_le true = omega arith
bit_le false = omega arith

-- a mask has a bit for each node
pub mask_small : (ws : List Watch) (n : ℕ) → length ws ≤ n → fd_mask ws < 2 ^ n
mask_small [] zero few = omega arith
mask_small [] (suc n) few = omega (arith, mask_small [] n (omega arith))
mask_small (w ∷ ws) zero few = absurd (omega arith)
mask_small (w ∷ ws) (suc n) few = omega (arith, mask_small ws n (omega arith), bit_le w.suspected)
