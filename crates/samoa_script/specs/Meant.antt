-- Scripts that a text can hold.
use Rattle.std.specs.Prelude.{◌≡◌, None}
use Rattle.serde_json.specs.Data.{Data}
use Rattle.samoa_model.specs.declared.script.Script.{Script}
use Rattle.samoa_grammar.specs.Held.{walk_fault, script_meant}

-- a script that some tree means which passes the walk
pub record IsMeant (script : Script) : Type 0 where
  pub tree : Data
  pub passes : walk_fault tree ≡ None
  pub means : script ≡ script_meant tree
