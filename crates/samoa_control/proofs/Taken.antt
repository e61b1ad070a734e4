-- The versions that an admission takes.
use Rattle.std.proofs.Common.{arith, ◌≡◌, ◌≢◌, ◌⊎◌, inl, inr, ℕ, zero, suc, ◌+◌, ◌*◌, ◌<◌, ◌≤◌, refl, sym, ap, subst, ◌∙◌, List, [], ◌∷◌, ◌++◌, length, length-append, get_or, set, Some}
use Rattle.std.specs.Prelude.{slice_get}
use Rattle.samoa_model.specs.Allowed.{weight}
use Rattle.samoa_model.specs.declared.script.Decl.{Decl}
use Rattle.samoa_invariant.specs.Slots.{At, put_at}
use Rattle.samoa_invariant.proofs.representation.Scripted.{get_is}
use Rattle.samoa_invariant.proofs.preservation.Slots.{put_at-else, put_at-here}
use Rattle.std.proofs.lemmas.Bool.{cases_eq}
use Rattle.samoa_control.specs.Admission.{raised, turns_taken, version_after}
use Rattle.samoa_control.specs.Grids.{Grid}
use Rattle.samoa_control.specs.declared.running.Interval.{Interval}
use Rattle.samoa_control.proofs.Grids.{grid-put, slice_get-right}
use Rattle.std.proofs.lemmas.List.{get_or-set_other}
use Rattle.std.proofs.lemmas.List.{length-set}
use Rattle.samoa_serial.proofs.SerialLaws.{slice_get_left}

-- the versions, risen at the first n microprotocols of a node
risen : At ℕ → Decl → ℕ → ℕ → At ℕ
risen f decl v zero = f
risen f decl v (suc n) = put_at (risen f decl v n) v n (risen f decl v n v n + weight decl n)

risen-above : (f : At ℕ) (decl : Decl) (v n p : ℕ) → n ≤ p → risen f decl v n v p ≡ f v p
unfolding risen
risen-above f decl v zero p le = refl
risen-above f decl v (suc n) p le =
    put_at-else {A = ℕ} (risen f decl v n) v n v p (risen f decl v n v n + weight decl n) (inr (λ e. omega arith)) ∙ risen-above f decl v n p (omega arith)

risen-below : (f : At ℕ) (decl : Decl) (v n p : ℕ) → p < n → risen f decl v n v p ≡ f v p + weight decl p
unfolding risen
risen-below f decl v zero p lt = absurd (omega arith)
risen-below f decl v (suc n) p lt = go (cases_eq p n) (λ below. risen-below f decl v n p below)
  where
    go : (p ≡ n) ⊎ (p ≢ n) → (p < n → risen f decl v n v p ≡ f v p + weight decl p)
        → put_at (risen f decl v n) v n (risen f decl v n v n + weight decl n) v p ≡ f v p + weight decl p
    go (inl e) before =
        put_at-here {A = ℕ} (risen f decl v n) v n v p (risen f decl v n v n + weight decl n) refl e
        ∙ (ap (λ (x : ℕ). x + weight decl n) (risen-above f decl v n n (omega arith)) ∙ ap (λ (q : ℕ). f v q + weight decl q) (sym e))
    go (inr ne) before = put_at-else {A = ℕ} (risen f decl v n) v n v p (risen f decl v n v n + weight decl n) (inr ne) ∙ before (omega arith)

risen-other : (f : At ℕ) (decl : Decl) (v n i p : ℕ) → i ≢ v → risen f decl v n i p ≡ f i p
unfolding risen
risen-other f decl v zero i p ne = refl
risen-other f decl v (suc n) i p ne =
    put_at-else {A = ℕ} (risen f decl v n) v n i p (risen f decl v n v n + weight decl n) (inl ne) ∙ risen-other f decl v n i p ne

-- what is read of the versions so far
here : (rows columns v p : ℕ) (items : List ℕ) (f : At ℕ) → Grid rows columns items f → v < rows → p < columns → get_or items (v * columns + p) 0 ≡ f v p
here rows columns v p items f grid lt below = get_is {A = ℕ} items (v * columns + p) (f v p) 0 (grid.value v p lt below)

grid-risen : (rows columns v n : ℕ) (items : List ℕ) (f : At ℕ) (decl : Decl) → v < rows → n ≤ columns → Grid rows columns items f
    → Grid rows columns (raised decl columns v items n) (risen f decl v n)
unfolding risen
grid-risen rows columns v zero items f decl lt le grid = grid
grid-risen rows columns v (suc n) items f decl lt le grid =
    let before : Grid rows columns (raised decl columns v items n) (risen f decl v n) = grid-risen rows columns v n items f decl lt (omega arith) grid in
    let is : version_after decl columns v (raised decl columns v items n) n ≡ risen f decl v n v n + weight decl n =
    ap (λ (x : ℕ). x + weight decl n) (here rows columns v n (raised decl columns v items n) (risen f decl v n) before lt (omega arith)) in
    subst (λ (x : ℕ). Grid rows columns (set (raised decl columns v items n) (v * columns + n) x) (put_at (risen f decl v n) v n (risen f decl v n v n + weight decl n))) (sym is)
    (grid-put rows columns (raised decl columns v items n) (risen f decl v n) v n (risen f decl v n v n + weight decl n) lt (omega arith) before)

-- the versions after all of them rose
pub grid-raised : (rows columns v : ℕ) (items : List ℕ) (f g : At ℕ) (decl : Decl) → v < rows → Grid rows columns items f
    → ((p : ℕ) → g v p ≡ f v p + weight decl p) → ((i p : ℕ) → i ≢ v → g i p ≡ f i p)
    → Grid rows columns (raised decl columns v items columns) g
grid-raised rows columns v items f g decl lt grid mine others =
    let all : Grid rows columns (raised decl columns v items columns) (risen f decl v columns) = grid-risen rows columns v columns items f decl lt (omega arith) grid in
    record { size = all.size; value = λ i p ri cp. all.value i p ri cp ∙ ap (λ (x : ℕ). Some x) (is i p cp (cases_eq i v)) }
  where
    is : (i p : ℕ) → p < columns → (i ≡ v) ⊎ (i ≢ v) → risen f decl v columns i p ≡ g i p
    is i p cp (inl e) =
        ap (λ (n : ℕ). risen f decl v columns n p) e ∙ (risen-below f decl v columns p cp ∙ (sym (mine p) ∙ ap (λ (n : ℕ). g n p) (sym e)))
    is i p cp (inr ne) = risen-other f decl v columns i p ne ∙ sym (others i p ne)

-- the turn that an admission takes at a microprotocol
last_turn : Decl → ℕ → ℕ → List ℕ → ℕ → Interval
last_turn decl columns v items n = record {
  from = get_or (raised decl columns v items n) (v * columns + n) 0;
  to = version_after decl columns v (raised decl columns v items n) n;
}

pub length-taken : (decl : Decl) (columns v : ℕ) (items : List ℕ) (n : ℕ) → length (turns_taken decl columns v items n) ≡ n
unfolding last_turn
length-taken decl columns v items zero = refl
length-taken decl columns v items (suc n) =
    let rest : length (turns_taken decl columns v items n) ≡ n = length-taken decl columns v items n in
    let more = length-append (turns_taken decl columns v items n) (last_turn decl columns v items n ∷ []) in
    omega (arith, rest, more)

-- what a version and its weight make
risen_turn : ℕ → ℕ → Interval
risen_turn low weight = record { from = low; to = low + weight }

pub taken-at : (rows columns v n p : ℕ) (items : List ℕ) (f : At ℕ) (decl : Decl) → v < rows → n ≤ columns → Grid rows columns items f → p < n
    → slice_get (turns_taken decl columns v items n) p ≡ Some (record { from = f v p; to = f v p + weight decl p })
unfolding last_turn risen_turn
taken-at rows columns v zero p items f decl lt le grid below = absurd (omega arith)
taken-at rows columns v (suc n) p items f decl lt le grid below = go (cases_eq p n) (λ less. taken-at rows columns v n p items f decl lt (omega arith) grid less)
  where
    long : length (turns_taken decl columns v items n) ≡ n
    long = length-taken decl columns v items n

    go : (p ≡ n) ⊎ (p ≢ n) → (p < n → slice_get (turns_taken decl columns v items n) p ≡ Some (risen_turn (f v p) (weight decl p)))
        → slice_get (turns_taken decl columns v items n ++ last_turn decl columns v items n ∷ []) p ≡ Some (risen_turn (f v p) (weight decl p))
    go (inl e) before =
        let at : p ≡ length (turns_taken decl columns v items n) + 0 = omega (arith, e, long) in
        let grid_n : Grid rows columns (raised decl columns v items n) (risen f decl v n) = grid-risen rows columns v n items f decl lt (omega arith) grid in
        ap (λ (q : ℕ). slice_get (turns_taken decl columns v items n ++ last_turn decl columns v items n ∷ []) q) at
        ∙ (slice_get-right {A = Interval} (turns_taken decl columns v items n) (last_turn decl columns v items n ∷ []) 0
        ∙ (ap (λ (x : ℕ). Some (risen_turn x (weight decl n))) (here rows columns v n (raised decl columns v items n) (risen f decl v n) grid_n lt (omega arith) ∙ risen-above f decl v n n (omega arith))
        ∙ ap (λ (q : ℕ). Some (risen_turn (f v q) (weight decl q))) (sym e)))
    go (inr ne) before =
        slice_get_left (turns_taken decl columns v items n) (last_turn decl columns v items n ∷ []) p (omega (arith, long, ne)) ∙ before (omega arith)

-- a version that hasn't risen yet
pub length-raised : (decl : Decl) (columns v : ℕ) (items : List ℕ) (n : ℕ) → length (raised decl columns v items n) ≡ length items
length-raised decl columns v items zero = refl
length-raised decl columns v items (suc n) =
    length-set (raised decl columns v items n) (v * columns + n) (version_after decl columns v (raised decl columns v items n) n) ∙ length-raised decl columns v items n

pub raised-else : (decl : Decl) (columns v : ℕ) (items : List ℕ) (n p : ℕ) → n ≤ p → get_or (raised decl columns v items n) (v * columns + p) 0 ≡ get_or items (v * columns + p) 0
raised-else decl columns v items zero p le = refl
raised-else decl columns v items (suc n) p le =
    get_or-set_other {A = ℕ} (raised decl columns v items n) (v * columns + n) (v * columns + p) (version_after decl columns v (raised decl columns v items n) n) 0 (λ e. omega arith)
    ∙ raised-else decl columns v items n p (omega arith)
