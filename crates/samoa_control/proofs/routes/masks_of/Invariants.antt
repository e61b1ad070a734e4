use Rattle.std.proofs.Common.{◌≡◌, ℕ, List, Option, Some, length}
use Rattle.std.specs.Prelude.{slice_get}
use Rattle.samoa_model.specs.Scripts.{decl_at}
use Rattle.samoa_control.specs.Forms.{IsMasked}
use Rattle.samoa_control.proofs.routes.masks_of.Given as goal

abbrev pub invariant-loop-decl : goal.invariant-loop-decl
invariant-loop-decl l = record {
  many : length l.all.items ≡ l.decl-index;
  each : (number : ℕ) (masks : Option (List ℕ)) → slice_get l.all.items number ≡ Some masks → IsMasked (decl_at l.script number).decl masks;
}
