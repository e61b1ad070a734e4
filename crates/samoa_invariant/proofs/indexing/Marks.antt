-- Marking a computation and passing a queue on.
use Rattle.std.proofs.Common.{arith, ◌≡◌, ◌≢◌, ◌↔◌, ℕ, ◌≤◌, ◌<◌, ◌⊎◌, inl, inr, refl, sym, ap, ◌∙◌, subst, Bool, true, false, Option, Some, None}
use Rattle.std.proofs.lemmas.Bool.{cases_eq}
use Rattle.samoa_invariant.specs.Play.{Play}
use Rattle.samoa_invariant.specs.State.{CanEnd, CanRelease, Core, put}
use Rattle.samoa_invariant.specs.Index.{Index, IsHeadOf, IsNextOf, IsUnmarked, MayEnter, TellsEntry, TellsNext, passed_on}
use Rattle.samoa_invariant.proofs.preservation.Slots.{put-else, put-here, put_at-else, put_at-here}
use Rattle.samoa_invariant.proofs.preservation.Steps.{some_injective}
use Rattle.samoa_invariant.proofs.indexing.Moves.{Moves}

-- the index tells what is due of k after the step, and of others what it did
pub record Marks (P : Play) (new : Core) (k : ℕ) (index mid : Index) : Type 0 where
  pub head : (v q : ℕ) → mid.head v q ≡ index.head v q
  pub tail : (v q : ℕ) → mid.tail v q ≡ index.tail v q
  pub next : (j q : ℕ) → mid.next j q ≡ index.next j q
  pub ready : (j : ℕ) → j ≢ k → mid.ready j ≡ index.ready j
  pub restless : (j : ℕ) → j ≢ k → index.restless j ≡ true → mid.restless j ≡ true
  pub closing : (j : ℕ) → j ≢ k → index.closing j ≡ true → mid.closing j ≡ true
  pub unmarked : (j : ℕ) → new.count ≤ j → IsUnmarked index j → IsUnmarked mid j
  pub own_ready : TellsEntry P new k (mid.ready k)
  pub own_restless : (q : ℕ) → CanRelease P new k q → mid.restless k ≡ true
  pub own_closing : CanEnd P new k → mid.closing k ≡ true

pub put_true : (f : ℕ → Bool) (k j : ℕ) → f j ≡ true → put f k true j ≡ true
put_true f k j e = go (cases_eq j k)
  where
    go : (j ≡ k) ⊎ (j ≢ k) → put f k true j ≡ true
    go (inl same) = put-here f k j true same
    go (inr ne) = put-else f k j true ne ∙ e

pub put_false : (f : ℕ → Bool) (k j : ℕ) → f j ≡ false → put f k false j ≡ false
put_false f k j e = go (cases_eq j k)
  where
    go : (j ≡ k) ⊎ (j ≢ k) → put f k false j ≡ false
    go (inl same) = put-here f k j false same
    go (inr ne) = put-else f k j false ne ∙ e

pub kept_moves : (P : Play) (new : Core) (k p : ℕ) (index mid : Index) → Marks P new k index mid → IsHeadOf P new (P.node k) p (index.head (P.node k) p)
    → Moves P new k p None index mid
kept_moves P new k p index mid m head = record {
  head = rw (m.head (P.node k) p) head;
  head_else = λ v q apart. m.head v q;
  tail = m.tail;
  next = m.next;
  ready = λ j ne isnt. m.ready j ne;
  restless = m.restless;
  closing = m.closing;
  unmarked = m.unmarked;
  next_ready = λ j (e : None ≡ Some j). absurd cc;
  next_restless = λ j (e : None ≡ Some j). absurd cc;
  own_ready = m.own_ready;
  own_restless = m.own_restless;
  own_closing = m.own_closing;
}

pub passed_moves : (P : Play) (new : Core) (k p : ℕ) (x : Option ℕ) (index mid : Index) (enters : Bool) → Marks P new k index mid → k < new.count
    → IsNextOf P new.count k p x → IsHeadOf P new (P.node k) p x → TellsNext P new x enters
    → Moves P new k p x index (passed_on mid (P.node k) p x enters)
passed_moves P new k p None index mid enters m lt next head may = record {
  head = rw (put_at-here {A = Option ℕ} mid.head (P.node k) p (P.node k) p None refl refl) head;
  head_else = λ v q apart. put_at-else {A = Option ℕ} mid.head (P.node k) p v q None apart ∙ m.head v q;
  tail = m.tail;
  next = m.next;
  ready = λ j ne isnt. m.ready j ne;
  restless = m.restless;
  closing = m.closing;
  unmarked = λ j le old. let u : IsUnmarked mid j = m.unmarked j le old in record { ready = u.ready; restless = u.restless; closing = u.closing };
  next_ready = λ j (e : None ≡ Some j). absurd cc;
  next_restless = λ j (e : None ≡ Some j). absurd cc;
  own_ready = m.own_ready;
  own_restless = m.own_restless;
  own_closing = m.own_closing;
}
passed_moves P new k p (Some i) index mid enters m lt after head may = record {
  head = rw (put_at-here {A = Option ℕ} mid.head (P.node k) p (P.node k) p (Some i) refl refl) head;
  head_else = λ v q apart. put_at-else {A = Option ℕ} mid.head (P.node k) p v q (Some i) apart ∙ m.head v q;
  tail = m.tail;
  next = m.next;
  ready = λ j ne isnt. put-else {A = Bool} mid.ready i j enters (λ (e : j ≡ i). isnt (ap (λ (n : ℕ). Some n) (sym e))) ∙ m.ready j ne;
  restless = λ j ne e. put_true mid.restless i j (m.restless j ne e);
  closing = m.closing;
  unmarked = λ j le old. unmarked j (λ (e : j ≡ i). omega (arith, after.admitted)) (m.unmarked j le old);
  next_ready = λ j e. subst (λ (n : ℕ). put mid.ready i enters n ≡ true ↔ MayEnter P new n) (some_injective i j e) there;
  next_restless = λ j e. put-here {A = Bool} mid.restless i j true (sym (some_injective i j e));
  own_ready = subst (λ (b : Bool). b ≡ true ↔ MayEnter P new k) (sym (put-else {A = Bool} mid.ready i k enters other)) m.own_ready;
  own_restless = λ q can. put_true mid.restless i k (m.own_restless q can);
  own_closing = m.own_closing;
}
  where
    other : k ≢ i
    other e = omega (arith, after.later)

    there : put mid.ready i enters i ≡ true ↔ MayEnter P new i
    there = subst (λ (b : Bool). b ≡ true ↔ MayEnter P new i) (sym (put-here {A = Bool} mid.ready i i enters refl)) (may i refl)

    unmarked : (j : ℕ) → j ≢ i → IsUnmarked mid j → IsUnmarked (passed_on mid (P.node k) p (Some i) enters) j
    unmarked j ne u = record {
      ready = put-else {A = Bool} mid.ready i j enters ne ∙ u.ready;
      restless = put-else {A = Bool} mid.restless i j true ne ∙ u.restless;
      closing = u.closing;
    }
