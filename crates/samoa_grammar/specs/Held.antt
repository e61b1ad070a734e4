-- Which script a list of bytes holds, and else its one fault.
use Rattle.std.specs.Prelude.{◌≡◌, ◌≤◌, ◌<◌, ℕ, List, length, Option, Some, None}
use Rattle.serde_json.specs.Data.{Data}
use Rattle.samoa_model.specs.declared.script.Script.{Script}
use Rattle.samoa_grammar.specs.declared.fault.WalkFault.{WalkFault}
use Rattle.samoa_grammar.specs.Tree.{IsJson}
use Rattle.samoa_grammar.specs.Walks.{◌then◌}
use Rattle.samoa_grammar.specs.Forms.{form_of_all, draft_of}
use Rattle.samoa_grammar.specs.Passes.{twice_fault, unknown_fault, totals_fault}
use Rattle.samoa_grammar.specs.Meaning.{script_of}

-- the walk: each pass over the whole tree before the next
unfoldable pub walk_fault : Data → Option WalkFault
walk_fault d = form_of_all d then twice_fault (draft_of d) then unknown_fault (draft_of d) then totals_fault (draft_of d)

-- what a tree means that passes
unfoldable pub script_meant : Data → Script
script_meant d = script_of (draft_of d)

-- the bytes hold this script
pub record Holds (bytes : List ℕ) (script : Script) : Type 0 where
  pub short : length bytes ≤ 1048576
  pub tree : Data
  pub json : IsJson bytes tree
  pub passes : walk_fault tree ≡ None
  pub means : script ≡ script_meant tree

-- the bytes are too long
abbrev pub IsTooLong : List ℕ → Type 0
IsTooLong bytes = 1048576 < length bytes

-- the bytes are no JSON text
pub record IsNoJson (bytes : List ℕ) : Type 0 where
  pub short : length bytes ≤ 1048576
  pub none : (d : Data) → IsJson bytes d → ⊥

-- the bytes are a JSON text whose first fault in the walk is this one
pub record WalkFails (bytes : List ℕ) (fault : WalkFault) : Type 0 where
  pub short : length bytes ≤ 1048576
  pub tree : Data
  pub json : IsJson bytes tree
  pub fails : walk_fault tree ≡ Some fault
