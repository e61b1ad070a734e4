-- The entries of a computation, as contracts see them.
use Rattle.std.specs.Prelude.{ℕ, List}
use Rattle.samoa_model.specs.declared.record.Entry.{Entry}

-- the entries so far, and how many more there is room for
pub record Written : Type 0 where
  pub entries : List Entry
  pub room : ℕ
