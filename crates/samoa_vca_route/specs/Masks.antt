-- Words whose bits are microprotocols: where a route leads.
use Rattle.std.specs.Prelude.{◌≡◌, ◌<◌, ◌↔◌, ◌/◌, ◌%◌, ℕ, List, Some, slice_get}
use Rattle.std.specs.Int.{bit_at}
use Rattle.samoa_model.specs.declared.ids.HandlerId.{HandlerId}
use Rattle.samoa_model.specs.Paths.{IsSafe}

-- a bit is a zero exactly where all that edges lead to from the handler, itself among it, is elsewhere
pub record IsMaskOf (vertices : List HandlerId) (edges : List (ℕ × ℕ)) (handler : HandlerId) (mask : ℕ) : Type 0 where
  pub bits : (p : ℕ) → p < 32 → (bit_at mask p ≡ 0) ↔ IsSafe vertices edges p handler

-- the handler whose mask stands at a place: first come those of index 0 at 24 microprotocols, then those of index 1
abbrev pub handler_at : ℕ → HandlerId
handler_at place = record { micro = record { 0 = place % 24 }; index = place / 24 }

-- each word is the mask of the handler of its place
pub record AreMasksOf (vertices : List HandlerId) (edges : List (ℕ × ℕ)) (masks : List ℕ) : Type 0 where
  pub each : (place mask : ℕ) → slice_get masks place ≡ Some mask → IsMaskOf vertices edges (handler_at place) mask
