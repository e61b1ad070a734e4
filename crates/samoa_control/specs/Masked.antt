-- The masks of a script's routes.
use Rattle.std.specs.Prelude.{◌≡◌, ℕ, List, Option, Some, length, slice_get}
use Rattle.samoa_model.specs.declared.script.Script.{Script}
use Rattle.samoa_model.specs.Scripts.{decl_at}
use Rattle.samoa_control.specs.Forms.{IsMasked}

-- for each declaration its masks, by its number
pub record AreMasked (script : Script) (all : List (Option (List ℕ))) : Type 0 where
  pub size : length all ≡ length script.decls
  pub each : (number : ℕ) (masks : Option (List ℕ)) → slice_get all number ≡ Some masks → IsMasked (decl_at script number).decl masks
