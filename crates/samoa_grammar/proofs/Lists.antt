-- Lists of names that are seen through a function.
use Rattle.std.proofs.Common.{◌≡◌, ℕ, zero, suc, Bool, List, [], ◌∷◌, get_or, map, refl, ap}
use Rattle.std.specs.Prelude.{◌||◌}
use Rattle.std.specs.List.{list_any}

pub list_any-map : {X Y : Type 0} (p : Y → Bool) (f : X → Y) (xs : List X) → list_any p (map f xs) ≡ list_any (λ x. p (f x)) xs
list_any-map p f [] = refl
list_any-map p f (x ∷ xs) = ap (λ b. p (f x) || b) (list_any-map p f xs)

pub map_map : {X Y Z : Type 0} (g : Y → Z) (f : X → Y) (xs : List X) → map g (map f xs) ≡ map (λ x. g (f x)) xs
map_map g f [] = refl
map_map g f (x ∷ xs) = ap (λ ys. g (f x) ∷ ys) (map_map g f xs)

-- the name at a number
pub name_at : {Y : Type 0} (g : Y → List ℕ) (d : Y) → g d ≡ [] → (ys : List Y) (i : ℕ) → g (get_or ys i d) ≡ get_or (map g ys) i []
name_at g d none [] i = none
name_at g d none (y ∷ ys) zero = refl
name_at g d none (y ∷ ys) (suc i) = name_at g d none ys i
