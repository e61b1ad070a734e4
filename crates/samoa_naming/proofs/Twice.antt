-- One more name in the search for one that stands twice.
use Rattle.std.proofs.Common.{◌≡◌, ℕ, ◌+◌, ◌<◌, true, false, cond, List, [], ◌∷◌, ◌++◌, length, get_or, map, take, drop, bytes_eq, Some, sym, ap, ◌∙◌}
use Rattle.std.specs.List.{list_any}
use Rattle.std.proofs.lemmas.List.{take_more, drop_more, map-append}
use Rattle.samoa_grammar.specs.declared.fault.WalkFault.TheVariants.{Twice}
use Rattle.samoa_grammar.specs.Passes.{twice_after}
use Rattle.samoa_grammar.proofs.Lists.{list_any-map}

module _ {X : Type 0} (f : X → List ℕ) (xs : List X) (i : ℕ) (x : X) (below : i < length xs) (here : x ≡ get_or xs i x) where
  rest : map f (drop i xs) ≡ f x ∷ map f (drop (i + 1) xs)
  rest = ap (map f) (drop_more xs i x below ∙ ap (λ y. y ∷ drop (i + 1) xs) (sym here))

  more : map f (take (i + 1) xs) ≡ map f (take i xs) ++ f x ∷ []
  more = ap (map f) (take_more xs i x below ∙ ap (λ y. take i xs ++ y ∷ []) (sym here)) ∙ map-append f (take i xs) (x ∷ [])

  pub twice_here : list_any (λ y. bytes_eq (f x) (f y)) (take i xs) ≡ true → twice_after (map f (take i xs)) (map f (drop i xs)) ≡ Some (Twice (f x))
  twice_here h =
      ap (twice_after (map f (take i xs))) rest ∙ ap (λ b. cond b (Some (Twice (f x))) (twice_after (map f (take i xs) ++ f x ∷ []) (map f (drop (i + 1) xs)))) (list_any-map (bytes_eq (f x)) f (take i xs) ∙ h)

  pub twice_more : list_any (λ y. bytes_eq (f x) (f y)) (take i xs) ≡ false
      → twice_after (map f (take (i + 1) xs)) (map f (drop (i + 1) xs)) ≡ twice_after (map f (take i xs)) (map f (drop i xs))
  twice_more h =
      ap (λ before. twice_after before (map f (drop (i + 1) xs))) more
      ∙ sym (ap (twice_after (map f (take i xs))) rest ∙ ap (λ b. cond b (Some (Twice (f x))) (twice_after (map f (take i xs) ++ f x ∷ []) (map f (drop (i + 1) xs)))) (list_any-map (bytes_eq (f x)) f (take i xs) ∙ h))
