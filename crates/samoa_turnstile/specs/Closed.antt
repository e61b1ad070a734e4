-- The open places of a value that has none, with the two laws of `Kept`.
use Rattle.std.specs.Prelude.{◌≡◌, ◌<◌, ◌++◌, ℕ, List, length, Bool, true, false}
use Rattle.std.proofs.Common.{true≢false, sym}

module _ {I : Type 0} where
  abbrev pub none_open : List I → ℕ → Bool
  none_open xs k = false

  pub none_open_below : (xs : List I) (k : ℕ) → none_open xs k ≡ true → k < length xs
  none_open_below xs k e = absurd (true≢false (sym e))

  pub none_open_before : (xs ys : List I) (k : ℕ) → k < length xs → none_open (xs ++ ys) k ≡ true → none_open xs k ≡ true
  none_open_before xs ys k h e = e
