-- Where all have ended in a run.
use Rattle.std.proofs.Common.{◌≡◌, ◌⊎◌, inl, inr, refl, sym, ap, subst, ◌∙◌, arith, ℕ, zero, suc, ◌+◌, ◌<◌, ◌≤◌, ◌==◌, Bool, true, false, if◌then◌else◌, List, [], ◌∷◌, length, take, eqb-true, eq-eqb}
use Rattle.std.proofs.lemmas.Bool.{false≢true}
use Rattle.samoa_model.specs.declared.record.Step.{Step}
use Rattle.samoa_invariant.specs.Play.{Play}
use Rattle.samoa_invariant.specs.State.{AllEnded, Core}
use Rattle.samoa_journal.specs.Ended.{all_ended, all_to}
use Rattle.samoa_invariant.specs.Runs.{IsRising, after_step, clear_at, cleared, is_clear, run_from}
use Rattle.std.proofs.lemmas.Bool.{and_parts}

-- ---- whether all have ended
all_tells : (f : ℕ → Bool) (n : ℕ) → all_to f n ≡ true → (k : ℕ) → k < n → f k ≡ true
all_tells f zero all k less = absurd (omega arith)
all_tells f (suc n) all k less = go (λ below. all_tells f n (and_parts (all_to f n) (f n) all).0 k below) (eqb-cases k n)
  where
    eqb-cases : (a b : ℕ) → (a ≡ b) ⊎ ((a == b) ≡ false)
    eqb-cases a b = at (a == b) refl
      where
        at : (c : Bool) → (a == b) ≡ c → (a ≡ b) ⊎ ((a == b) ≡ false)
        at true e = inl (eqb-true a b e)
        at false e = inr e

    go : (k < n → f k ≡ true) → (k ≡ n) ⊎ ((k == n) ≡ false) → f k ≡ true
    go before (inl is) = ap f is ∙ (and_parts (all_to f n) (f n) all).1
    go before (inr other) = before (omega (arith, apart, less))
      where
        apart : k ≡ n → ⊥
        apart is = false≢true (sym other ∙ eq-eqb k n is)

tells_all : (f : ℕ → Bool) (n : ℕ) → ((k : ℕ) → k < n → f k ≡ true) → all_to f n ≡ true
tells_all f zero all = refl
tells_all f (suc n) all = rw (tells_all f n (λ k less. all k (omega (arith, less)))) (all n (omega arith))

pub ended_all : (core : Core) → all_ended core ≡ true → AllEnded core
ended_all core all = all_tells core.ended core.count all

pub all-ended : (core : Core) → AllEnded core → all_ended core ≡ true
all-ended core all = tells_all core.ended core.count all

pub cleared_ended : (b : Bool) (core : Core) → all_ended (if b then cleared core else core) ≡ all_ended core
cleared_ended true core = refl
cleared_ended false core = refl

-- ---- the places in a run where all have ended
module _ (P : Play) (clears : List ℕ) where
  abbrev with_place : Bool → ℕ → List ℕ → List ℕ
  with_place b made rest = if b then made ∷ rest else rest

  abbrev pub ends : ℕ → Core → List Step → List ℕ
  ends made core [] = with_place (all_ended core) made []
  ends made core (step ∷ later) = with_place (all_ended core) made (ends (suc made) (after_step P (clear_at clears made core) step) later)

  -- none is before the first
  not_before : (b : Bool) (made n : ℕ) (rest : List ℕ) → n < made → is_clear rest n ≡ false → is_clear (with_place b made rest) n ≡ false
  not_before true made n rest less none = rw (differs made n less) none
    where
      differs : (a b : ℕ) → b < a → (a == b) ≡ false
      differs a b less = at (a == b) refl
        where
          at : (c : Bool) → (a == b) ≡ c → (a == b) ≡ false
          at true e = absurd (omega (arith, eqb-true a b e, less))
          at false e = e
  not_before false made n rest less none = none

  pub ends_before : (made n : ℕ) (core : Core) (steps : List Step) → n < made → is_clear (ends made core steps) n ≡ false
  ends_before made n core [] less = not_before (all_ended core) made n [] less refl
  ends_before made n core (step ∷ later) less =
      not_before (all_ended core) made n (ends (suc made) (after_step P (clear_at clears made core) step) later) less
      (ends_before (suc made) n (after_step P (clear_at clears made core) step) later (omega (arith, less)))

  -- the first is there where all have ended
  first_place : (b : Bool) (made : ℕ) (rest : List ℕ) → is_clear rest made ≡ false → is_clear (with_place b made rest) made ≡ b
  first_place true made rest none = rw (eq-eqb made made refl) refl
  first_place false made rest none = none

  pub ends_here : (made : ℕ) (core : Core) (steps : List Step) → is_clear (ends made core steps) made ≡ all_ended core
  ends_here made core [] = first_place (all_ended core) made [] refl
  ends_here made core (step ∷ later) =
      first_place (all_ended core) made (ends (suc made) (after_step P (clear_at clears made core) step) later)
      (ends_before (suc made) made (after_step P (clear_at clears made core) step) later (omega arith))

  -- the later ones are those of the later steps
  not_here : (b : Bool) (made n : ℕ) (rest : List ℕ) → made < n → is_clear (with_place b made rest) n ≡ is_clear rest n
  not_here true made n rest less = rw (differs made n less) refl
    where
      differs : (a b : ℕ) → a < b → (a == b) ≡ false
      differs a b less = at (a == b) refl
        where
          at : (c : Bool) → (a == b) ≡ c → (a == b) ≡ false
          at true e = absurd (omega (arith, eqb-true a b e, less))
          at false e = e
  not_here false made n rest less = refl

  pub ends_later : (made n : ℕ) (core : Core) (step : Step) (later : List Step) → made < n
      → is_clear (ends made core (step ∷ later)) n ≡ is_clear (ends (suc made) (after_step P (clear_at clears made core) step) later) n
  ends_later made n core step later less =
      not_here (all_ended core) made n (ends (suc made) (after_step P (clear_at clears made core) step) later) less

  -- a place of the list is one where all have ended
  pub ends_at : (made : ℕ) (core : Core) (steps : List Step) (n : ℕ) → n ≤ length steps
      → is_clear (ends made core steps) (made + n) ≡ all_ended (run_from P clears made core (take n steps))
  ends_at made core steps zero within =
      ap (λ (k : ℕ). is_clear (ends made core steps) k) (omega arith)
      ∙ (ends_here made core steps ∙ sym (cleared_ended (is_clear clears made) core))
  ends_at made core [] (suc n) within = absurd (omega (arith, within))
  ends_at made core (step ∷ later) (suc n) within =
      let next : Core = after_step P (clear_at clears made core) step in
      ends_later made (made + suc n) core step later (omega arith)
      ∙ (ap (λ (k : ℕ). is_clear (ends (suc made) next later) k) (omega arith)
      ∙ ends_at (suc made) next later n (omega (arith, within)))

  -- they rise
  rising_from : (least : ℕ) (cs : List ℕ) (most : ℕ) → IsRising (suc least) cs most → IsRising least cs most
  rising_from least [] most rises = tt
  rising_from least (c ∷ cs) most rises = (omega (arith, rises.0), rises.1, rises.2)

  with_rising : (b : Bool) (made : ℕ) (rest : List ℕ) (most : ℕ) → made ≤ most → IsRising (suc made) rest most → IsRising made (with_place b made rest) most
  with_rising true made rest most within rises = (omega arith, within, rises)
  with_rising false made rest most within rises = rising_from made rest most rises

  pub ends_rise : (made : ℕ) (core : Core) (steps : List Step) → IsRising made (ends made core steps) (made + length steps)
  ends_rise made core [] = with_rising (all_ended core) made [] (made + 0) (omega arith) tt
  ends_rise made core (step ∷ later) =
      let next : Core = after_step P (clear_at clears made core) step in
      let same : suc made + length later ≡ made + suc (length later) = omega arith in
      with_rising (all_ended core) made (ends (suc made) next later) (made + suc (length later)) (omega arith)
      (subst (λ (most : ℕ). IsRising (suc made) (ends (suc made) next later) most) same (ends_rise (suc made) next later))
