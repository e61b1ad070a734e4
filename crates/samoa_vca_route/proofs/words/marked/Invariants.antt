use Rattle.std.proofs.Common.{◌≡◌, ◌<◌, ◌↔◌, ℕ}
use Rattle.std.specs.Int.{bit_at}
use Rattle.samoa_vca_route.specs.Marks.{AreElsewhere}
use Rattle.samoa_vca_route.proofs.words.marked.Given as goal

abbrev pub invariant-loop-place : goal.invariant-loop-place
invariant-loop-place l = (p : ℕ) → p < 32 → (bit_at l.word p ≡ 0) ↔ AreElsewhere l.vertices l.marks l.place p
