-- A journal that grows by a step or by a clear.
use Rattle.std.proofs.Common.{arith, ◌≡◌, ◌≢◌, ℕ, suc, ◌+◌, ◌≤◌, ◌<◌, ◌⊎◌, inl, inr, refl, sym, ap, subst, ◌∙◌, List, [], ◌∷◌, ◌++◌, length, Bool, true, false, ◌||◌, ◌==◌, if◌then◌else◌, eq-eqb, ne_eqb}
use Rattle.samoa_model.specs.declared.record.Step.{Step}
use Rattle.samoa_invariant.specs.Play.{Play}
use Rattle.samoa_invariant.specs.State as model
use Rattle.samoa_invariant.specs.State.{AllEnded, Core}
use Rattle.samoa_invariant.specs.Runs.{CanMake, IsRising, IsRunFrom, after_step, clear_at, cleared, is_clear, run_from}
use Rattle.std.proofs.lemmas.Bool.{cases_eq}

-- no clear is made after more steps than the last
pub no_clear : (least : ℕ) (clears : List ℕ) (most made : ℕ) → IsRising least clears most → most < made → is_clear clears made ≡ false
no_clear least [] most made rising lt = refl
no_clear least (c ∷ cs) most made rising lt =
    let ne : c ≢ made = (λ e. let le : c ≤ most = rising.1 in omega arith) in
    rw (ne_eqb c made ne) (no_clear (suc c) cs most made rising.2 lt)

pub rising-more : (least : ℕ) (clears : List ℕ) (most more : ℕ) → IsRising least clears most → most ≤ more → IsRising least clears more
rising-more least [] most more rising le = tt
rising-more least (c ∷ cs) most more rising le =
    let below : c ≤ most = rising.1 in
    (rising.0, omega arith, rising-more (suc c) cs most more rising.2 le)

-- one more clear, after more steps than the last
pub rising-append : (least : ℕ) (clears : List ℕ) (most made : ℕ) → IsRising least clears most → most ≤ made → least ≤ made → is_clear clears made ≡ false
    → IsRising least (clears ++ made ∷ []) made
rising-append least [] most made rising le from none = (from, omega arith, tt)
rising-append least (c ∷ cs) most made rising le from none =
    let below : c ≤ most = rising.1 in
    (rising.0, omega arith, go (λ at e. rising-append (suc c) cs most made rising.2 le at e) (cases_eq c made))
  where
    go : (suc c ≤ made → is_clear cs made ≡ false → IsRising (suc c) (cs ++ made ∷ []) made) → (c ≡ made) ⊎ (c ≢ made) → IsRising (suc c) (cs ++ made ∷ []) made
    go ih (inl e) = absurd (let yes : is_clear (c ∷ cs) made ≡ true = rw (eq-eqb c made e) refl in let no : true ≡ false = sym yes ∙ none in cc)
    go ih (inr ne) =
        let below : c ≤ most = rising.1 in
        ih (omega arith) (sym (ap (λ (b : Bool). b || is_clear cs made) (ne_eqb c made ne)) ∙ none)

pub clear-last : (clears : List ℕ) (made : ℕ) → is_clear (clears ++ made ∷ []) made ≡ true
clear-last [] made = rw (eq-eqb made made refl) refl
clear-last (c ∷ cs) made = go (c == made) (clear-last cs made)
  where
    go : (b : Bool) → is_clear (cs ++ made ∷ []) made ≡ true → (b || is_clear (cs ++ made ∷ []) made) ≡ true
    go true e = refl
    go false e = e

pub clear-other : (clears : List ℕ) (made now : ℕ) → now < made → is_clear (clears ++ made ∷ []) now ≡ is_clear clears now
clear-other [] made now lt = let ne : made ≢ now = (λ e. omega arith) in rw (ne_eqb made now ne) refl
clear-other (c ∷ cs) made now lt = ap (λ (b : Bool). (c == now) || b) (clear-other cs made now lt)

pub not_cleared : (clears : List ℕ) (made : ℕ) (core : Core) → is_clear clears made ≡ false → clear_at clears made core ≡ core
not_cleared clears made core none = ap (λ (b : Bool). if b then cleared core else core) none

-- the core after one more step
pub run-step : (P : Play) (clears : List ℕ) (made : ℕ) (core : Core) (xs : List Step) (step : Step) → is_clear clears (suc (made + length xs)) ≡ false
    → run_from P clears made core (xs ++ step ∷ []) ≡ after_step P (run_from P clears made core xs) step
run-step P clears made core [] step none =
    let here : made + 0 ≡ made = omega arith in
    not_cleared clears (suc made) (after_step P (clear_at clears made core) step) (ap (λ (n : ℕ). is_clear clears (suc n)) (sym here) ∙ none)
run-step P clears made core (x ∷ xs) step none =
    let there : suc made + length xs ≡ made + suc (length xs) = omega arith in
    run-step P clears (suc made) (after_step P (clear_at clears made core) x) xs step (ap (λ (n : ℕ). is_clear clears (suc n)) there ∙ none)

cleared_twice : (core : Core) (b : Bool) → cleared (if b then cleared core else core) ≡ cleared core
cleared_twice core true = refl
cleared_twice core false = refl

-- the core after one more clear
pub run-clear : (P : Play) (clears : List ℕ) (made : ℕ) (core : Core) (xs : List Step) (at : ℕ) → at ≡ made + length xs
    → run_from P (clears ++ at ∷ []) made core xs ≡ cleared (run_from P clears made core xs)
run-clear P clears made core [] at e =
    let here : at ≡ made = omega arith in
    let yes : is_clear (clears ++ at ∷ []) made ≡ true = ap (λ (n : ℕ). is_clear (clears ++ at ∷ []) n) (sym here) ∙ clear-last clears at in
    ap (λ (b : Bool). if b then cleared core else core) yes ∙ sym (cleared_twice core (is_clear clears made))
run-clear P clears made core (x ∷ xs) at e =
    let before : made < at = omega arith in
    let there : at ≡ suc made + length xs = omega arith in
    let same : clear_at (clears ++ at ∷ []) made core ≡ clear_at clears made core = ap (λ (b : Bool). if b then cleared core else core) (clear-other clears at made before) in
    ap (λ (c : Core). run_from P (clears ++ at ∷ []) (suc made) (after_step P c x) xs) same
    ∙ run-clear P clears (suc made) (after_step P (clear_at clears made core) x) xs at there

-- a run with one more step that is enabled
pub is_run-step : (P : Play) (clears : List ℕ) (made : ℕ) (core : Core) (xs : List Step) (step : Step) → is_clear clears (suc (made + length xs)) ≡ false
    → IsRunFrom P clears made core xs → CanMake P (run_from P clears made core xs) step → IsRunFrom P clears made core (xs ++ step ∷ [])
is_run-step P clears made core [] step none run can =
    let here : made + 0 ≡ made = omega arith in
    let no : is_clear clears (suc made) ≡ false = ap (λ (n : ℕ). is_clear clears (suc n)) (sym here) ∙ none in
    (run, can, (λ yes. absurd (let both : true ≡ false = sym yes ∙ no in cc)))
is_run-step P clears made core (x ∷ xs) step none run can =
    let there : suc made + length xs ≡ made + suc (length xs) = omega arith in
    (run.0, run.1, is_run-step P clears (suc made) (after_step P (clear_at clears made core) x) xs step (ap (λ (n : ℕ). is_clear clears (suc n)) there ∙ none) run.2 can)

ended_before : (core : Core) (b : Bool) → AllEnded (if b then cleared core else core) → AllEnded core
ended_before core true all = all
ended_before core false all = all

-- a run with one more clear, where all have ended
pub is_run-clear : (P : Play) (clears : List ℕ) (made : ℕ) (core : Core) (xs : List Step) (at : ℕ) → at ≡ made + length xs
    → IsRunFrom P clears made core xs → AllEnded (run_from P clears made core xs) → IsRunFrom P (clears ++ at ∷ []) made core xs
is_run-clear P clears made core [] at e run all = λ yes. ended_before core (is_clear clears made) all
is_run-clear P clears made core (x ∷ xs) at e run all =
    let before : made < at = omega arith in
    let there : at ≡ suc made + length xs = omega arith in
    let other : is_clear (clears ++ at ∷ []) made ≡ is_clear clears made = clear-other clears at made before in
    let same : clear_at clears made core ≡ clear_at (clears ++ at ∷ []) made core = ap (λ (b : Bool). if b then cleared core else core) (sym other) in (
      (λ yes. run.0 (sym other ∙ yes)),
      subst (λ (c : Core). CanMake P c x) same run.1,
      subst (λ (c : Core). IsRunFrom P (clears ++ at ∷ []) (suc made) (after_step P c x) xs) same
          (is_run-clear P clears (suc made) (after_step P (clear_at clears made core) x) xs at there run.2 all),
    )

cleared_reached : (P : Play) (core : Core) (b : Bool) → (b ≡ true → AllEnded core) → model.Reached P core → model.Reached P (if b then cleared core else core)
cleared_reached P core true all reached = model.Reached.Later core model.Step.Clear reached (record { all = all refl })
cleared_reached P core false all reached = reached

-- a run reaches its state by enabled steps
pub run_reached : (P : Play) (clears : List ℕ) (made : ℕ) (core : Core) (xs : List Step) → IsRunFrom P clears made core xs → model.Reached P core
    → model.Reached P (run_from P clears made core xs)
run_reached P clears made core [] run reached = cleared_reached P core (is_clear clears made) run reached
run_reached P clears made core (x ∷ xs) run reached =
    run_reached P clears (suc made) (after_step P (clear_at clears made core) x) xs run.2
    (model.Reached.Later (clear_at clears made core) _ (cleared_reached P core (is_clear clears made) run.0 reached) run.1.enabled)
