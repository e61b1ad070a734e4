-- What is written for a script of the group stack, whatever the status.
use Rattle.std.specs.Prelude.{◌≡◌, ℕ, false, List, Option, bytes_eq, codes}
use Rattle.std.specs.Io.KnownBytes.{Appends}
use Rattle.samoa_laws.specs.lists.Lists.{Comparable, IsApart}
use Rattle.samoa_serial.specs.Lists.{Each}
use Rattle.samoa_laws.specs.text.Text.{fields, lines}
use Rattle.samoa_laws.specs.text.Told.{alike, field, heads, told_at}

-- the stream that a text tells of a node: what it tells of the deliveries by `repl`
abbrev pub stream_in : List ℕ → ℕ → List (List (List ℕ))
stream_in text v = told_at v (codes "repl") text

-- of the streams that a text tells of any two nodes one begins the other, and no two messages of a stream have the same origin and number
pub record TellsOneOrder (text : List ℕ) : Type 0 where
  pub order : (v u : ℕ) → Comparable (stream_in text v) (stream_in text u)
  pub apart : (v : ℕ) → IsApart alike (stream_in text v)

-- what was appended to a sink tells one order
pub record AppendsOneOrder (old new : Option (List ℕ)) : Type 0 where
  pub piece : List ℕ
  pub appended : Appends old new piece
  pub told : TellsOneOrder piece

-- no line of a text heads a computation or tells a delivery
abbrev pub IsMuteLine : List ℕ → Type 0
IsMuteLine line = (heads (fields line) ≡ false) × (bytes_eq (field (fields line) 0) (codes "D") ≡ false)

abbrev pub IsMute : List ℕ → Type 0
IsMute text = Each IsMuteLine (lines text)
