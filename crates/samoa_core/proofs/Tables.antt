-- Tables of which one item is changed, or that have one more row.
use Rattle.std.proofs.Common.{arith, ◌≡◌, ◌≢◌, ◌⊎◌, inl, inr, ℕ, suc, ◌+◌, ◌*◌, ◌<◌, ◌≤◌, sym, ap, subst, ◌∙◌, List, ◌++◌, length, length-append, length-set, set, replicate, Option, Some, None}
use Rattle.std.specs.Prelude.{slice_get}
use Rattle.std.proofs.lemmas.Nat.{same_from_place}
use Rattle.std.proofs.lemmas.Bool.{cases_eq}
use Rattle.std.proofs.lemmas.List.{length-replicate}
use Rattle.samoa_serial.proofs.SerialLaws.{slice_get_left}
use Rattle.samoa_invariant.proofs.preservation.Slots.{slot_or_not}
use Rattle.samoa_control.specs.Grids.{Grid}
use Rattle.samoa_control.proofs.Grids.{grid-within, set-other, set-same, slice_get-replicate}
use Rattle.samoa_core.specs.Indexed.{Table}
use Rattle.samoa_core.specs.Rows.{IsBlank}

-- an item of the table is in its list
pub table-within : {A : Type 0} (rows columns : ℕ) (items : List A) (f : ℕ → ℕ → A) (i j : ℕ) → Table rows columns items f → i < rows → j < columns → i * columns + j < length items
table-within rows columns items f i j table lt below =
    let within : i * columns + j < rows * columns = grid-within rows columns i j lt below in
    let long : rows * columns ≤ length items = table.long in
    omega (arith, within, long)

-- one item is written
pub table-set : {A : Type 0} (rows columns : ℕ) (items : List A) (f g : ℕ → ℕ → A) (v p : ℕ) (x : A) → v < rows → p < columns → Table rows columns items f
    → g v p ≡ x → ((i j : ℕ) → i < rows → (i ≢ v) ⊎ (j ≢ p) → g i j ≡ f i j) → Table rows columns (set items (v * columns + p) x) g
table-set {A = A} rows columns items f g v p x lt below table here others = record {
  long = subst (λ (n : ℕ). rows * columns ≤ n) (sym (length-set items (v * columns + p) x)) table.long;
  value = λ i j ri cj. go i j ri cj (slot_or_not i v j p);
}
  where
    go : (i j : ℕ) → i < rows → j < columns → ((i ≡ v) × (j ≡ p)) ⊎ ((i ≢ v) ⊎ (j ≢ p)) → slice_get (set items (v * columns + p) x) (i * columns + j) ≡ Some (g i j)
    go i j ri cj (inl e) =
        let place : i * columns + j ≡ v * columns + p = ap (λ (a : ℕ). a * columns + j) e.0 ∙ ap (λ (b : ℕ). v * columns + b) e.1 in
        ap (λ (a : ℕ). slice_get (set items (v * columns + p) x) a) place
        ∙ (set-same {A = A} items (v * columns + p) x (table-within rows columns items f v p table lt below)
        ∙ sym (ap (λ (a : ℕ). Some (g a j)) e.0 ∙ (ap (λ (b : ℕ). Some (g v b)) e.1 ∙ ap (λ (y : A). Some y) here)))
    go i j ri cj (inr ne) =
        set-other {A = A} items (v * columns + p) (i * columns + j) x (apart ne) ∙ (table.value i j ri cj ∙ ap (λ (y : A). Some y) (sym (others i j ri ne)))
      where
        apart : (i ≢ v) ⊎ (j ≢ p) → i * columns + j ≢ v * columns + p
        apart (inl n) e = n (same_from_place i j v p columns cj below e).0
        apart (inr n) e = n (same_from_place i j v p columns cj below e).1

pub table-same : {A : Type 0} (rows columns : ℕ) (items : List A) (f g : ℕ → ℕ → A) → ((i j : ℕ) → i < rows → g i j ≡ f i j) → Table rows columns items f → Table rows columns items g
table-same {A = A} rows columns items f g e table =
    record { long = table.long; value = λ i j ri cj. table.value i j ri cj ∙ ap (λ (y : A). Some y) (sym (e i j ri)) }

-- more items follow
pub table-append : {A : Type 0} (rows columns : ℕ) (items more : List A) (f : ℕ → ℕ → A) → Table rows columns items f → Table rows columns (items ++ more) f
table-append rows columns items more f table = record {
  long = (let long : rows * columns ≤ length items = table.long in let l = length-append items more in omega (arith, long, l));
  value = λ i j ri cj. slice_get_left items more (i * columns + j) (table-within rows columns items f i j table ri cj) ∙ table.value i j ri cj;
}

pub table-none : {A : Type 0} (columns : ℕ) (items : List A) (f : ℕ → ℕ → A) → Table 0 columns items f
table-none columns items f = record { long = omega arith; value = λ i j ri cj. absurd (omega (arith, ri)) }

-- one more row, in which no one comes next
pub table-blank : (rows columns : ℕ) (items new : List (Option ℕ)) (f g : ℕ → ℕ → Option ℕ) → Table rows columns items f → IsBlank columns rows items new
    → suc rows * columns ≤ length items → ((p : ℕ) → g rows p ≡ None) → ((i p : ℕ) → i < rows → g i p ≡ f i p) → Table (suc rows) columns new g
table-blank rows columns items new f g table is long last before = record {
  long = subst (λ (n : ℕ). suc rows * columns ≤ n) (sym is.size) long;
  value = λ i j ri cj. go i j ri cj (cases_eq i rows);
}
  where
    go : (i j : ℕ) → i < suc rows → j < columns → (i ≡ rows) ⊎ (i ≢ rows) → slice_get new (i * columns + j) ≡ Some (g i j)
    go i j ri cj (inl e) =
        ap (λ (a : ℕ). slice_get new (a * columns + j)) e ∙ (is.blank j cj ∙ ap (λ (y : Option ℕ). Some y) (sym (ap (λ (a : ℕ). g a j) e ∙ last j)))
    go i j ri cj (inr ne) =
        let lt : i < rows = omega (arith, ri, ne) in
        is.before (i * columns + j) (grid-within rows columns i j lt cj) ∙ (table.value i j lt cj ∙ ap (λ (y : Option ℕ). Some y) (sym (before i j lt)))

-- a grid in which all are the same
pub grid-of : {A : Type 0} (rows columns : ℕ) (size : ℕ) (x : A) (f : ℕ → ℕ → A) → size ≡ rows * columns → ((i j : ℕ) → f i j ≡ x) → Grid rows columns (replicate size x) f
grid-of {A = A} rows columns size x f e all = record {
  size = length-replicate size x ∙ e;
  value = λ i j ri cj.
      (let within : i * columns + j < rows * columns = grid-within rows columns i j ri cj in
      slice_get-replicate size x (i * columns + j) (subst (λ (n : ℕ). i * columns + j < n) (sym e) within) ∙ ap (λ (y : A). Some y) (sym (all i j)));
}
