-- The list of a counter: one item for each turn.
use Rattle.std.specs.Prelude.{ℕ, List, replicate}

abbrev pub turns : ℕ → List (Unit {0})
turns n = replicate n (tt {0})
