-- What the invariant says of one computation at one slot.
use Rattle.std.proofs.Common.{arith, ◌≡◌, ◌≢◌, ℕ, suc, ◌+◌, ◌≤◌, ◌<◌, ◌⊎◌, inl, inr, refl, subst, Bool, true, false, ◌&&◌, eq-eqb, ne_eqb, ◌==◌}
use Rattle.samoa_serial.specs.State.{State}
use Rattle.samoa_invariant.specs.Slots.{At, put_at}
use Rattle.samoa_model.specs.Allowed.{weight}
use Rattle.samoa_invariant.specs.Play.{Play, version, is_bound, attempts, point, Never, NotYet, done}
use Rattle.samoa_invariant.specs.State.{Core, put, HasTurn}
use Rattle.samoa_invariant.specs.Inv.{Owns, Invariant}
use Rattle.std.proofs.lemmas.Bool.{cases_eq}
use Rattle.samoa_invariant.proofs.preservation.Versions.{owns_declares}

and_false : (b : Bool) → (b && false) ≡ false
and_false true = refl
and_false false = refl

pub put_at-here : {A : Type 0} (f : At A) (node p n q : ℕ) (new : A) → n ≡ node → q ≡ p → put_at f node p new n q ≡ new
put_at-here f node p n q new e g = rw (eq-eqb n node e, eq-eqb q p g) refl

pub put_at-else : {A : Type 0} (f : At A) (node p n q : ℕ) (new : A) → (n ≢ node) ⊎ (q ≢ p) → put_at f node p new n q ≡ f n q
put_at-else f node p n q new (inl ne) = rw (ne_eqb n node ne) refl
put_at-else f node p n q new (inr ne) = rw (ne_eqb q p ne, and_false (n == node)) refl

pub put-here : {A : Type 0} (f : ℕ → A) (k j : ℕ) (new : A) → j ≡ k → put f k new j ≡ new
put-here f k j new e = rw (eq-eqb j k e) refl

pub put-else : {A : Type 0} (f : ℕ → A) (k j : ℕ) (new : A) → j ≢ k → put f k new j ≡ f j
put-else f k j new ne = rw (ne_eqb j k ne) refl

pub slot_or_not : (n node q p : ℕ) → ((n ≡ node) × (q ≡ p)) ⊎ ((n ≢ node) ⊎ (q ≢ p))
slot_or_not n node q p = go (cases_eq n node) (cases_eq q p)
  where
    go : (n ≡ node) ⊎ (n ≢ node) → (q ≡ p) ⊎ (q ≢ p) → ((n ≡ node) × (q ≡ p)) ⊎ ((n ≢ node) ⊎ (q ≢ p))
    go (inl e) (inl g) = inl (e, g)
    go (inl e) (inr ne) = inr (inr ne)
    go (inr ne) h = inr (inl ne)

-- x is the local version of the slot, n the steps that were left, s the state there
pub record AtSlot (P : Play) (j q x n : ℕ) (s : State) : Type 0 where
  pub counted : is_bound (P.decl j) ≡ true → Owns P x j (P.node j) q → x ≡ version P j (P.node j) q + done (point P j n).turns q
  pub not_yet : 0 < weight (P.decl j) q → x < version P j (P.node j) q → NotYet P j n q
  pub no_more : 0 < weight (P.decl j) q → version P (suc j) (P.node j) q ≤ x → Never (attempts P j) (point P j n).comp q
  pub box : Owns P x j (P.node j) q → s ≡ (point P j n).states q

abbrev pub AllAtSlots : Play → Core → Type 0
AllAtSlots P core = (j q : ℕ) → j < core.count → AtSlot P j q (core.local (P.node j) q) (core.made j) (core.boxes (P.node j) q)

pub at_slots : (P : Play) (core : Core) → Invariant P core → AllAtSlots P core
at_slots P core i j q lt = record {
  counted = λ b o. i.versions.counted j q lt b o;
  not_yet = λ w below. i.not_yet j q lt w below;
  no_more = λ w past. i.no_more j q lt w past;
  box = λ o. i.boxes.owned j q lt o;
}

pub at_slot-same : (P : Play) (j q x y n m : ℕ) (s t : State) → x ≡ y → n ≡ m → s ≡ t → AtSlot P j q x n s → AtSlot P j q y m t
at_slot-same P j q x y n m s t e f g h =
    subst (λ (a : ℕ). AtSlot P j q a m t) e (subst (λ (b : ℕ). AtSlot P j q x b t) f (subst (λ (u : State). AtSlot P j q x n u) g h))

-- a turn is that of the interval
pub turn_owns : (P : Play) (core : Core) (k p : ℕ) → Invariant P core → HasTurn P core k p → Owns P (core.local (P.node k) p) k (P.node k) p
turn_owns P core k p i t =
    let low = i.booked.from k (P.node k) p t.admitted in
    let high = i.booked.private k (P.node k) p t.admitted in
    record { from = omega (arith, t.from); below = omega (arith, t.below) }

pub owns_turn : (P : Play) (core : Core) (k p : ℕ) → Invariant P core → k < core.count → Owns P (core.local (P.node k) p) k (P.node k) p → HasTurn P core k p
owns_turn P core k p i lt o =
    let low = i.booked.from k (P.node k) p lt in
    let high = i.booked.private k (P.node k) p lt in
    record { admitted = lt; turn = record { from = omega (arith, o.from); below = omega (arith, o.below) } }

-- who has its turn declares the microprotocol
pub turn_declares : (P : Play) (core : Core) (k p : ℕ) → Invariant P core → HasTurn P core k p → 0 < weight (P.decl k) p
turn_declares P core k p i t = owns_declares P (core.local (P.node k) p) k p (turn_owns P core k p i t)
