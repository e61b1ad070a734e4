-- What a report tells of the deliveries at a node. All of it is said of the text alone.
use Rattle.std.specs.Prelude.{ℕ, ◌==◌, Bool, false, ◌&&◌, ◌||◌, if◌then◌else◌, List, [], ◌∷◌, map, drop, get_or, bytes_eq, codes}
use Rattle.std.specs.Str.Parse.{digits_value}
use Rattle.samoa_laws.specs.text.Text.{lines, fields}

-- the field at a place, from 0; empty where there is none
abbrev pub field : List (List ℕ) → ℕ → List ℕ
field line i = get_or line i []

-- `E k tick node ..` and `B k tick node ..` head a computation at the node
abbrev pub heads : List (List ℕ) → Bool
heads line = bytes_eq (field line 0) (codes "E") || bytes_eq (field line 0) (codes "B")

abbrev pub is_at : ℕ → List (List ℕ) → Bool
is_at v line = digits_value 10 (field line 3) == v

-- `D k name words` tells what a microprotocol delivered
abbrev pub delivers : List ℕ → List (List ℕ) → Bool
delivers name line = bytes_eq (field line 0) (codes "D") && bytes_eq (field line 2) name

-- what these lines tell of the deliveries by a microprotocol in the computations at node v: `here` says whether the lines
-- that come first are of such a computation. Of each delivery the words, each as its text
abbrev pub told_in : ℕ → List ℕ → Bool → List (List (List ℕ)) → List (List (List ℕ))
told_in v name here [] = []
told_in v name here (line ∷ later) =
    if heads line then told_in v name (is_at v line) later
    else (if delivers name line && here then drop 3 line ∷ told_in v name here later else told_in v name here later)

-- what a text tells of the deliveries by the microprotocol of this name at node v, in order
abbrev pub told_at : ℕ → List ℕ → List ℕ → List (List (List ℕ))
told_at v name text = told_in v name false (map fields (lines text))

-- two deliveries with the same first two words
abbrev pub alike : List (List ℕ) → List (List ℕ) → Bool
alike x y = bytes_eq (field x 0) (field y 0) && bytes_eq (field x 1) (field y 1)
