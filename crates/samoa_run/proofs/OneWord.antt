-- Words of which there is one.
use Rattle.std.proofs.Common.{◌≡◌, ℕ, List, [], ◌∷◌, length, map, get_or, sym, ap, arith}

pub the_word : {X : Type 0} (f : X → List ℕ) (ws : List X) (w : X) → length ws ≡ 1 → w ≡ get_or ws 0 w → map f ws ≡ f w ∷ []
the_word f [] w one is = absurd (omega arith)
the_word f (x ∷ []) w one is = ap (λ y. f y ∷ []) (sym is)
the_word f (x ∷ y ∷ ws) w one is = absurd (omega arith)
