-- Lists that hold the values of functions.
use Rattle.std.specs.Prelude.{◌≡◌, ℕ, ◌+◌, ◌*◌, ◌<◌, List, length, Some, slice_get}

-- one row after another
pub record Grid {A : Type 0} (rows columns : ℕ) (items : List A) (f : ℕ → ℕ → A) : Type 0 where
  pub size : length items ≡ rows * columns
  pub value : (i j : ℕ) → i < rows → j < columns → slice_get items (i * columns + j) ≡ Some (f i j)

-- one row
pub record Row {A : Type 0} (columns : ℕ) (items : List A) (f : ℕ → A) : Type 0 where
  pub size : length items ≡ columns
  pub value : (i : ℕ) → i < columns → slice_get items i ≡ Some (f i)
