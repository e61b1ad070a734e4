-- Lists of boxes, and what is seen of them.
use Rattle.std.proofs.Common.{◌≡◌, ℕ, ◌+◌, zero, suc, List, [], ◌∷◌, Bool, cond, Some, refl, ap, sym, ◌∙◌, map, add_assoc, add_comm}
use Rattle.std.specs.List.{remove, count_by, slice_get}
use Rattle.std.proofs.lemmas.List.Sums.{sum_by-cons}

-- what is seen, when one was taken out
pub map-remove : {A B : Type 0} (f : A → B) → (xs : List A) (i : ℕ) → map f (remove xs i) ≡ remove (map f xs) i
map-remove f [] zero = refl
map-remove f [] (suc i) = refl
map-remove f (x ∷ xs) zero = refl
map-remove f (x ∷ xs) (suc i) = ap (λ l. f x ∷ l) (map-remove f xs i)

-- one more in front
pub count_by-cons : {X : Type 0} (p : X → Bool) → (x : X) (xs : List X) → count_by p (x ∷ xs) ≡ cond (p x) 1 0 + count_by p xs
count_by-cons p x xs = sum_by-cons (λ z. cond (p z) 1 0) x xs

-- how many pass is a matter of what is seen
pub count_by-map : {A B : Type 0} (f : A → B) (p : B → Bool) → (xs : List A) → count_by p (map f xs) ≡ count_by (λ x. p (f x)) xs
count_by-map f p [] = refl
count_by-map f p (x ∷ xs) =
    count_by-cons p (f x) (map f xs) ∙ ap (λ n. cond (p (f x)) 1 0 + n) (count_by-map f p xs) ∙ sym (count_by-cons (λ z. p (f z)) x xs)

-- one that was taken out counts no longer, and the others do
pub count_by-remove : {X : Type 0} (p : X → Bool) → (xs : List X) (i : ℕ) (x : X) → slice_get xs i ≡ Some x
    → count_by p xs ≡ count_by p (remove xs i) + cond (p x) 1 0
count_by-remove p [] zero x h = cc
count_by-remove p [] (suc i) x h = cc
count_by-remove p (y ∷ ys) zero x h =
    let same : y ≡ x = cc in
    count_by-cons p y ys ∙ ap (λ z. cond (p z) 1 0 + count_by p ys) same ∙ add_comm (cond (p x) 1 0) (count_by p ys)
count_by-remove p (y ∷ ys) (suc i) x h =
    count_by-cons p y ys
    ∙ ap (λ n. cond (p y) 1 0 + n) (count_by-remove p ys i x h)
    ∙ sym (add_assoc (cond (p y) 1 0) (count_by p (remove ys i)) (cond (p x) 1 0))
    ∙ ap (λ n. n + cond (p x) 1 0) (sym (count_by-cons p y (remove ys i)))

-- the count, of what is seen, when one was taken out
pub count_by-map-remove : {A B : Type 0} (f : A → B) (p : B → Bool) → (xs : List A) (i : ℕ) (x : A) → slice_get xs i ≡ Some x
    → count_by p (map f xs) ≡ count_by p (map f (remove xs i)) + cond (p (f x)) 1 0
count_by-map-remove f p xs i x h =
    count_by-map f p xs
    ∙ count_by-remove (λ z. p (f z)) xs i x h
    ∙ ap (λ n. n + cond (p (f x)) 1 0) (sym (count_by-map f p (remove xs i)))
