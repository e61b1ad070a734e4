-- Texts that are appended, of trees that their texts are read as.
use Rattle.std.specs.Prelude.{◌≡◌, ℕ, List, ◌++◌, Some}
use Rattle.json.specs.Tree.{HasNumbers}
use Rattle.serde_json.specs.Data.{Data}
use Rattle.serde_json.specs.Read.{of_json}
use Rattle.serde_json.specs.Written.{outline, compact_text}

-- the numbers have texts, and what is written is the tree again
abbrev pub IsSound : Data → Type 0
IsSound d = HasNumbers (outline d) × (of_json (outline d) ≡ Some d)

-- the text of a sound tree was appended, behind these bytes
abbrev pub AddsAfter : List ℕ → Data → List ℕ → List ℕ → Type 0
AddsAfter begin d old new = (new ≡ old ++ (begin ++ compact_text d)) × IsSound d

abbrev pub Adds : Data → List ℕ → List ℕ → Type 0
Adds d old new = (new ≡ old ++ compact_text d) × IsSound d
