-- The intervals of the computations at a slot.
use Rattle.std.proofs.Common.{arith, ◌≡◌, ◌≢◌, ℕ, zero, suc, ◌+◌, ◌-◌, ◌*◌, ◌≤◌, ◌<◌, ◌⊎◌, inl, inr, refl, ap, eq-eqb, ne_eqb, ◌==◌, if◌then◌else◌}
use Rattle.std.proofs.lemmas.Bool.{cases_eq}
use Rattle.samoa_model.specs.Allowed.{weight}
use Rattle.samoa_invariant.specs.Play.{Play, weight_at, version}
use Rattle.samoa_invariant.specs.Inv.{Owns}

-- the place of the computation with the next number
pub place_of : (k : ℕ) → k ≡ suc k - 1
place_of k = omega arith

pub if_here : {A : Type 0} (a b : ℕ) (x y : A) → a ≡ b → (if a == b then x else y) ≡ x
if_here a b x y e = rw (eq-eqb a b e) refl

pub if_else : {A : Type 0} (a b : ℕ) (x y : A) → a ≢ b → (if a == b then x else y) ≡ y
if_else a b x y ne = rw (ne_eqb a b ne) refl

pub in_order : (a b : ℕ) → (a < b) ⊎ ((a ≡ b) ⊎ (b < a))
in_order a b = grind arith

pub version-mono : (P : Play) (j k v p : ℕ) → j ≤ k → version P j v p ≤ version P k v p
version-mono P j zero v p le = let e : j ≡ zero = omega arith in omega (arith, ap (λ (i : ℕ). version P i v p) e)
version-mono P j (suc k) v p le = go (λ h. version-mono P j k v p h) (cases_eq j (suc k))
  where
    go : (j ≤ k → version P j v p ≤ version P k v p) → (j ≡ suc k) ⊎ (j ≢ suc k) → version P j v p ≤ version P k v p + weight_at P k v p
    go ih (inl e) = omega (arith, ap (λ (i : ℕ). version P i v p) e)
    go ih (inr ne) = omega (arith, ih (omega arith))

pub weight_at-own : (P : Play) (k p : ℕ) → weight_at P k (P.node k) p ≡ weight (P.decl k) p
weight_at-own P k p = rw (eq-eqb (P.node k) (P.node k) refl) refl

pub weight_at-is : (P : Play) (k v p : ℕ) → v ≡ P.node k → weight_at P k v p ≡ weight (P.decl k) p
weight_at-is P k v p e = rw (eq-eqb v (P.node k) e) refl

pub weight_at-else : (P : Play) (k v p : ℕ) → v ≢ P.node k → weight_at P k v p ≡ zero
weight_at-else P k v p ne = rw (ne_eqb v (P.node k) ne) refl

pub version-own : (P : Play) (k p : ℕ) → version P (suc k) (P.node k) p ≡ version P k (P.node k) p + weight (P.decl k) p
version-own P k p = ap (λ (w : ℕ). version P k (P.node k) p + w) (weight_at-own P k p)

-- at most one computation has its turn
pub owns_single : (P : Play) (x j k v p : ℕ) → Owns P x j v p → Owns P x k v p → j ≡ k
owns_single P x j k v p a b = go (in_order j k)
  where
    go : (j < k) ⊎ ((j ≡ k) ⊎ (k < j)) → j ≡ k
    go (inl lt) = omega (arith, version-mono P (suc j) k v p (omega arith), a.below, b.from)
    go (inr (inl e)) = e
    go (inr (inr lt)) = omega (arith, version-mono P (suc k) j v p (omega arith), b.below, a.from)

-- below the sum some computation has its turn
pub some_owner : (P : Play) (x n v p : ℕ) → x < version P n v p → (k : ℕ) × (k < n) × Owns P x k v p
some_owner P x zero v p lt = absurd (omega arith)
some_owner P x (suc n) v p lt = go (λ h. some_owner P x n v p h) (in_order x (version P n v p))
  where
    go : (x < version P n v p → (k : ℕ) × (k < n) × Owns P x k v p) → (x < version P n v p) ⊎ ((x ≡ version P n v p) ⊎ (version P n v p < x))
        → (k : ℕ) × (k < suc n) × Owns P x k v p
    go ih (inl below) = let o : (k : ℕ) × (k < n) × Owns P x k v p = ih below in (o.0, omega (arith, o.1), o.2)
    go ih (inr (inl e)) = (n, omega arith, record { from = omega arith; below = lt })
    go ih (inr (inr above)) = (n, omega arith, record { from = omega arith; below = lt })

-- whoever has its turn declares the microprotocol, at its node
pub owns_declares : (P : Play) (x k p : ℕ) → Owns P x k (P.node k) p → 0 < weight (P.decl k) p
owns_declares P x k p o = omega (arith, version-own P k p, o.from, o.below)

-- where every earlier computation is past, the slot has come to k
pub all_before_past : (P : Play) (x k v p : ℕ) → ((j : ℕ) → j < k → v ≡ P.node j → 0 < weight (P.decl j) p → version P (suc j) v p ≤ x)
    → version P k v p ≤ x
all_before_past P x zero v p h = omega arith
all_before_past P x (suc k) v p h = go (all_before_past P x k v p (λ j lt. h j (omega arith))) (cases_eq v (P.node k)) (cases_eq (weight (P.decl k) p) zero)
  where
    go : version P k v p ≤ x → (v ≡ P.node k) ⊎ (v ≢ P.node k) → (weight (P.decl k) p ≡ zero) ⊎ (weight (P.decl k) p ≢ zero) → version P (suc k) v p ≤ x
    go before (inr ne) w = omega (arith, weight_at-else P k v p ne)
    go before (inl e) (inl none) = omega (arith, weight_at-is P k v p e)
    go before (inl e) (inr some) = h k (omega arith) e (omega arith)

-- the versions stay in range
pub version-most : (P : Play) (most n v p : ℕ) → ((k : ℕ) → k < n → weight (P.decl k) p ≤ most) → version P n v p ≤ n * most
version-most P most zero v p h = omega arith
version-most P most (suc n) v p h = go (version-most P most n v p (λ k lt. h k (omega arith))) (h n (omega arith)) (cases_eq v (P.node n))
  where
    go : version P n v p ≤ n * most → weight (P.decl n) p ≤ most → (v ≡ P.node n) ⊎ (v ≢ P.node n) → version P (suc n) v p ≤ suc n * most
    go ih w (inl e) = let is : weight_at P n v p ≡ weight (P.decl n) p = weight_at-is P n v p e in
        let m : suc n * most ≡ n * most + most = omega arith in omega arith
    go ih w (inr ne) = let is : weight_at P n v p ≡ zero = weight_at-else P n v p ne in
        let m : suc n * most ≡ n * most + most = omega arith in omega arith
