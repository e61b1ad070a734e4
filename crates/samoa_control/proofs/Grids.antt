-- Lists that hold the values of functions, and lists of which one item is changed.
use Rattle.std.proofs.Common.{◌≡◌, ◌≢◌, ◌⊎◌, inl, inr, ℕ, zero, suc, ◌+◌, ◌*◌, ◌<◌, refl, sym, ap, subst, ◌∙◌, List, [], ◌∷◌, ◌++◌, length, length-set, set, Some, length-append, replicate, arith}
use Rattle.std.specs.Prelude.{slice_get}
use Rattle.std.proofs.lemmas.Nat.{mul-add-lt, same_from_place}
use Rattle.std.proofs.lemmas.Bool.{cases_eq}
use Rattle.std.proofs.lemmas.List.{length-replicate}
use Rattle.samoa_invariant.specs.Slots.{At, put_at}
use Rattle.samoa_invariant.proofs.preservation.Slots.{put_at-else, put_at-here, slot_or_not}
use Rattle.samoa_serial.proofs.SerialLaws.{slice_get_left}
use Rattle.samoa_control.specs.Grids.{Grid}

pub set-same : {A : Type 0} (xs : List A) (i : ℕ) (x : A) → i < length xs → slice_get (set xs i x) i ≡ Some x
set-same [] i x lt = absurd (omega (arith, lt))
set-same (y ∷ ys) zero x lt = refl
set-same (y ∷ ys) (suc i) x lt = set-same ys i x (omega (arith, lt))

pub set-other : {A : Type 0} (xs : List A) (i j : ℕ) (x : A) → j ≢ i → slice_get (set xs i x) j ≡ slice_get xs j
set-other [] i j x ne = refl
set-other (y ∷ ys) zero zero x ne = absurd (ne refl)
set-other (y ∷ ys) zero (suc j) x ne = refl
set-other (y ∷ ys) (suc i) zero x ne = refl
set-other (y ∷ ys) (suc i) (suc j) x ne = set-other ys i j x (λ e. ne (ap suc e))

pub grid-within : (rows columns v p : ℕ) → v < rows → p < columns → v * columns + p < rows * columns
grid-within rows columns v p lt below = omega (arith, mul-add-lt v columns p rows lt below)

-- one cell is written
pub grid-set : {A : Type 0} (rows columns : ℕ) (items : List A) (f g : ℕ → ℕ → A) (v p : ℕ) (x : A) → v < rows → p < columns → Grid rows columns items f
    → g v p ≡ x → ((i j : ℕ) → (i ≢ v) ⊎ (j ≢ p) → g i j ≡ f i j) → Grid rows columns (set items (v * columns + p) x) g
grid-set {A = A} rows columns items f g v p x lt below grid here others =
    record { size = length-set items (v * columns + p) x ∙ grid.size; value = λ i j ri cj. go i j ri cj (slot_or_not i v j p) }
  where
    go : (i j : ℕ) → i < rows → j < columns → ((i ≡ v) × (j ≡ p)) ⊎ ((i ≢ v) ⊎ (j ≢ p)) → slice_get (set items (v * columns + p) x) (i * columns + j) ≡ Some (g i j)
    go i j ri cj (inl e) =
        let size : length items ≡ rows * columns = grid.size in
        let within : v * columns + p < rows * columns = grid-within rows columns v p lt below in
        let place : i * columns + j ≡ v * columns + p = ap (λ (a : ℕ). a * columns + j) e.0 ∙ ap (λ (b : ℕ). v * columns + b) e.1 in
        ap (λ (a : ℕ). slice_get (set items (v * columns + p) x) a) place
        ∙ (set-same {A = A} items (v * columns + p) x (omega (arith, within, size))
        ∙ sym (ap (λ (a : ℕ). Some (g a j)) e.0 ∙ (ap (λ (b : ℕ). Some (g v b)) e.1 ∙ ap (λ (y : A). Some y) here)))
    go i j ri cj (inr ne) =
        set-other {A = A} items (v * columns + p) (i * columns + j) x (apart ne) ∙ (grid.value i j ri cj ∙ ap (λ (y : A). Some y) (sym (others i j ne)))
      where
        apart : (i ≢ v) ⊎ (j ≢ p) → i * columns + j ≢ v * columns + p
        apart (inl n) e = n (same_from_place i j v p columns cj below e).0
        apart (inr n) e = n (same_from_place i j v p columns cj below e).1

pub grid-same : {A : Type 0} (rows columns : ℕ) (items : List A) (f g : ℕ → ℕ → A) → ((i j : ℕ) → g i j ≡ f i j) → Grid rows columns items f
    → Grid rows columns items g
grid-same {A = A} rows columns items f g e grid =
    record { size = grid.size; value = λ i j ri cj. grid.value i j ri cj ∙ ap (λ (y : A). Some y) (sym (e i j)) }

pub slice_get-right : {A : Type 0} (xs ys : List A) (k : ℕ) → slice_get (xs ++ ys) (length xs + k) ≡ slice_get ys k
slice_get-right [] ys k = ap (λ (n : ℕ). slice_get ys n) (omega arith)
slice_get-right (x ∷ xs) ys k =
    let place : suc (length xs) + k ≡ suc (length xs + k) = omega arith in
    ap (λ (n : ℕ). slice_get (x ∷ (xs ++ ys)) n) place ∙ slice_get-right xs ys k

-- no row
pub grid-none : {A : Type 0} (columns : ℕ) (f : ℕ → ℕ → A) → Grid 0 columns [] f
grid-none columns f = record { size = omega arith; value = λ i j ri cj. absurd (omega (arith, ri)) }

-- one more row
pub grid-row : {A : Type 0} (rows columns : ℕ) (items row : List A) (f : ℕ → ℕ → A) → Grid rows columns items f → length row ≡ columns
    → ((j : ℕ) → j < columns → slice_get row j ≡ Some (f rows j)) → Grid (suc rows) columns (items ++ row) f
grid-row {A = A} rows columns items row f grid as_long each =
    record {
      size = (let e : length items ≡ rows * columns = grid.size in let l = length-append items row in grind arith);
      value = λ i j ri cj. go i j ri cj (cases_eq i rows);
    }
  where
    go : (i j : ℕ) → i < suc rows → j < columns → (i ≡ rows) ⊎ (i ≢ rows) → slice_get (items ++ row) (i * columns + j) ≡ Some (f i j)
    go i j ri cj (inl e) =
        ap (λ (a : ℕ). slice_get (items ++ row) (a * columns + j)) e
        ∙ (ap (λ (n : ℕ). slice_get (items ++ row) (n + j)) (sym grid.size)
        ∙ (slice_get-right {A = A} items row j ∙ (each j cj ∙ ap (λ (a : ℕ). Some (f a j)) (sym e))))
    go i j ri cj (inr ne) =
        let before : i < rows = omega (arith, ri, ne) in
        let size : length items ≡ rows * columns = grid.size in
        let within : i * columns + j < rows * columns = grid-within rows columns i j before cj in
        slice_get_left items row (i * columns + j) (omega (arith, within, size)) ∙ grid.value i j before cj

pub slice_get-replicate : {A : Type 0} (n : ℕ) (x : A) (k : ℕ) → k < n → slice_get (replicate n x) k ≡ Some x
slice_get-replicate zero x k lt = absurd (omega (arith, lt))
slice_get-replicate (suc n) x zero lt = refl
slice_get-replicate (suc n) x (suc k) lt = slice_get-replicate n x k (omega (arith, lt))

-- all are the same
abbrev pub none_yet : ℕ → ℕ → ℕ
none_yet v p = zero

pub grid-zeros : (rows columns : ℕ) → Grid {A = ℕ} rows columns (replicate (rows * columns) 0) none_yet
grid-zeros rows columns = record {
  size = length-replicate (rows * columns) 0;
  value = λ i j ri cj. slice_get-replicate (rows * columns) 0 (i * columns + j) (grid-within rows columns i j ri cj);
}

-- one cell of a table of numbers is put
pub grid-put : {A : Type 0} (rows columns : ℕ) (items : List A) (f : At A) (v p : ℕ) (x : A) → v < rows → p < columns → Grid rows columns items f
    → Grid rows columns (set items (v * columns + p) x) (put_at f v p x)
grid-put {A = A} rows columns items f v p x lt below grid =
    grid-set rows columns items f (put_at f v p x) v p x lt below grid (put_at-here {A = A} f v p v p x refl refl)
    (λ i j ne. put_at-else {A = A} f v p i j x ne)

-- what holds of each item of a list, once one of them is another
pub each-set : {A : Type 0} (xs : List A) (at : ℕ) (new : A) (P : ℕ → A → Type 0) → P at new → ((i : ℕ) (x : A) → i ≢ at → slice_get xs i ≡ Some x → P i x)
    → (i : ℕ) (x : A) → slice_get (set xs at new) i ≡ Some x → P i x
each-set [] at new P here old i x e = cc
each-set (y ∷ ys) zero new P here old zero x e = let is : new ≡ x = cc in subst (P zero) is here
each-set (y ∷ ys) zero new P here old (suc i) x e = old (suc i) x (λ is. omega (arith, is)) e
each-set (y ∷ ys) (suc at) new P here old zero x e = old zero x (λ is. omega (arith, is)) e
each-set (y ∷ ys) (suc at) new P here old (suc i) x e =
    each-set ys at new (λ j z. P (suc j) z) here (λ j z ne is. old (suc j) z (λ same. ne (omega (arith, same))) is) i x e

-- and with one more
pub each-push : {A : Type 0} (xs : List A) (new : A) (P : ℕ → A → Type 0) → P (length xs) new → ((i : ℕ) (x : A) → i < length xs → slice_get xs i ≡ Some x → P i x)
    → (i : ℕ) (x : A) → slice_get (xs ++ new ∷ []) i ≡ Some x → P i x
each-push [] new P here old zero x e = let is : new ≡ x = cc in subst (P zero) is here
each-push [] new P here old (suc i) x e = cc
each-push (y ∷ ys) new P here old zero x e = old zero x (omega arith) e
each-push (y ∷ ys) new P here old (suc i) x e = each-push ys new (λ j z. P (suc j) z) here (λ j z lt is. old (suc j) z (omega (arith, lt)) is) i x e

pub item_at : {A : Type 0} (xs : List A) (i : ℕ) → i < length xs → (x : A) × (slice_get xs i ≡ Some x)
item_at [] i lt = absurd (omega (arith, lt))
item_at (x ∷ xs) zero lt = (x, refl)
item_at (x ∷ xs) (suc i) lt = item_at xs i (omega (arith, lt))
