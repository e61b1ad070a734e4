use Rattle.std.proofs.Common.{◌≡◌, length}
use Rattle.samoa_vca_route.specs.Masks.{AreMasksOf}
use Rattle.samoa_vca_route.proofs.masks.masks_of.Given as goal

abbrev pub invariant-loop-place : goal.invariant-loop-place
invariant-loop-place l = record {
  many : length l.words.items ≡ l.place;
  exact : AreMasksOf l.vertices l.edges l.words.items;
}
