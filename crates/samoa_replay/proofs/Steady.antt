-- A core that is cleared wherever all have ended, and the journals that it makes.
use Rattle.std.proofs.Common.{◌≡◌, ◌⊎◌, inl, inr, refl, sym, ap, subst, ◌∙◌, arith, ℕ, zero, suc, ◌+◌, ◌<◌, ◌≤◌, ◌==◌, Bool, true, false, ◌&&◌, if◌then◌else◌, List, [], ◌∷◌, ◌++◌, length, take, slice_get, Some, eqb-true, eq-eqb}
use Rattle.std.proofs.lemmas.Bool.{false≢true}
use Rattle.samoa_model.specs.declared.record.Step.{Step}
use Rattle.samoa_model.specs.declared.script.Script.{Script}
use Rattle.samoa_serial.specs.Ticks.{admitted}
use Rattle.samoa_invariant.specs.Play.{Play}
use Rattle.samoa_invariant.specs.State as model
use Rattle.samoa_invariant.specs.State.{AllEnded, Core}
use Rattle.samoa_invariant.specs.Runs.{CanMake, IsRising, IsRun, IsRunFrom, after_step, clear_at, cleared, is_clear, run_from, state}
use Rattle.samoa_journal.specs.Finished.{IsFinished, IsFirstOfTick, after, replayed}
use Rattle.samoa_replay.specs.Begun.{IsBegun}
use Rattle.samoa_journal.specs.Ended.{all_ended}
use Rattle.samoa_journal.proofs.Ends.{all-ended, cleared_ended, ended_all}
use Rattle.samoa_replay.specs.Steady.{AreMade, IsSteady, steady, steady_from, swept, whole_play}

-- ---- whether all have ended
both : (a b : Bool) → (a && b) ≡ true → (a ≡ true) × (b ≡ true)
both true b e = (refl, e)
both false b e = absurd (false≢true e)

pub swept_is-cleared : (core : Core) → AllEnded core → swept core ≡ cleared core
swept_is-cleared core all = ap (λ (b : Bool). if b then cleared core else core) (all-ended core all)

pub swept_is-same : (core : Core) → (AllEnded core → core.cells ≡ 0) → swept core ≡ core
swept_is-same core none = go (all_ended core) refl
  where
    none_held : core.cells ≡ 0 → cleared core ≡ core
    none_held e = ap (λ (n : ℕ). record core { cells = n }) (sym e)

    go : (b : Bool) → all_ended core ≡ b → (if b then cleared core else core) ≡ core
    go true e = none_held (none (ended_all core e))
    go false e = refl

-- ---- lists
get_taken : (m n : ℕ) (xs : List Step) (x : Step) → slice_get (take m xs) n ≡ Some x → (slice_get xs n ≡ Some x) × (take n (take m xs) ≡ take n xs)
get_taken zero n xs x is = absurd (cc is)
get_taken (suc m) n [] x is = absurd (cc is)
get_taken (suc m) zero (y ∷ ys) x is = (is, refl)
get_taken (suc m) (suc n) (y ∷ ys) x is = let r = get_taken m n ys x is in (r.0, ap (λ (zs : List Step). y ∷ zs) r.1)

get_pushed : (xs : List Step) (y : Step) (n : ℕ) (x : Step) → slice_get (xs ++ y ∷ []) n ≡ Some x
    → ((slice_get xs n ≡ Some x) × (take n (xs ++ y ∷ []) ≡ take n xs)) ⊎ ((y ≡ x) × (take n (xs ++ y ∷ []) ≡ xs))
get_pushed [] y zero x is = inr (same y x is, refl)
  where
    same : (y x : Step) → Some y ≡ Some x → y ≡ x
    same y x e = cc e
get_pushed [] y (suc n) x is = absurd (cc is)
get_pushed (z ∷ zs) y zero x is = inl (is, refl)
get_pushed (z ∷ zs) y (suc n) x is = go (get_pushed zs y n x is)
  where
    go : ((slice_get zs n ≡ Some x) × (take n (zs ++ y ∷ []) ≡ take n zs)) ⊎ ((y ≡ x) × (take n (zs ++ y ∷ []) ≡ zs))
        → ((slice_get (z ∷ zs) (suc n) ≡ Some x) × (take (suc n) (z ∷ (zs ++ y ∷ [])) ≡ take (suc n) (z ∷ zs))) ⊎ ((y ≡ x) × (take (suc n) (z ∷ (zs ++ y ∷ [])) ≡ z ∷ zs))
    go (inl r) = inl (r.0, ap (λ (ws : List Step). z ∷ ws) r.1)
    go (inr r) = inr (r.0, ap (λ (ws : List Step). z ∷ ws) r.1)

get_last : (xs : List Step) (y : Step) → (slice_get (xs ++ y ∷ []) (length xs) ≡ Some y) × (take (length xs) (xs ++ y ∷ []) ≡ xs)
get_last [] y = (refl, refl)
get_last (x ∷ xs) y = let r = get_last xs y in (r.0, ap (λ (zs : List Step). x ∷ zs) r.1)

-- ---- steps from any core on
module _ (P : Play) where
  steady-more : (core : Core) (steps : List Step) (step : Step) → steady_from P core (steps ++ step ∷ []) ≡ swept (after_step P (steady_from P core steps) step)
  steady-more core [] step = refl
  steady-more core (s ∷ later) step = steady-more (after_step P (swept core) s) later step

  made-more : (core : Core) (steps : List Step) (step : Step) → AreMade P core steps → CanMake P (steady_from P core steps) step → AreMade P core (steps ++ step ∷ [])
  made-more core [] step made can = (can, tt)
  made-more core (s ∷ later) step made can = (made.0, made-more (after_step P (swept core) s) later step made.1 can)

  made-last : (core : Core) (steps : List Step) (step : Step) → AreMade P core (steps ++ step ∷ []) → CanMake P (steady_from P core steps) step
  made-last core [] step made = made.0
  made-last core (s ∷ later) step made = made-last (after_step P (swept core) s) later step made.1

  made-take : (core : Core) (n : ℕ) (steps : List Step) → AreMade P core steps → AreMade P core (take n steps)
  made-take core zero steps made = tt
  made-take core (suc n) [] made = tt
  made-take core (suc n) (s ∷ later) made = (made.0, made-take (after_step P (swept core) s) n later made.1)

  -- the clears are made exactly where all have ended
  abbrev Agree : List ℕ → ℕ → Core → List Step → Type 0
  Agree clears made core steps = (n : ℕ) → n ≤ length steps → is_clear clears (made + n) ≡ all_ended (steady_from P core (take n steps))

  agree_here : (clears : List ℕ) (made : ℕ) (core : Core) (steps : List Step) → Agree clears made core steps → is_clear clears made ≡ all_ended core
  agree_here clears made core steps agree =
      let same : made ≡ made + 0 = omega arith in
      ap (λ (k : ℕ). is_clear clears k) same ∙ (agree 0 (omega arith) ∙ cleared_ended (all_ended core) core)

  agree_later : (clears : List ℕ) (made : ℕ) (core : Core) (step : Step) (later : List Step) → Agree clears made core (step ∷ later)
      → Agree clears (suc made) (after_step P (swept core) step) later
  agree_later clears made core step later agree n within =
      let same : suc made + n ≡ made + suc n = omega arith in
      ap (λ (k : ℕ). is_clear clears k) same ∙ agree (suc n) (omega (arith, within))

  clears_swept : (clears : List ℕ) (made : ℕ) (core : Core) → is_clear clears made ≡ all_ended core → clear_at clears made core ≡ swept core
  clears_swept clears made core e = ap (λ (b : Bool). if b then cleared core else core) e

  run-steady : (clears : List ℕ) (made : ℕ) (core : Core) (steps : List Step) → Agree clears made core steps → run_from P clears made core steps ≡ steady_from P core steps
  run-steady clears made core [] agree = clears_swept clears made core (agree_here clears made core [] agree)
  run-steady clears made core (s ∷ later) agree =
      ap (λ (c : Core). run_from P clears (suc made) (after_step P c s) later) (clears_swept clears made core (agree_here clears made core (s ∷ later) agree))
      ∙ run-steady clears (suc made) (after_step P (swept core) s) later (agree_later clears made core s later agree)

  steady-run : (clears : List ℕ) (made : ℕ) (core : Core) (steps : List Step) → Agree clears made core steps → AreMade P core steps → IsRunFrom P clears made core steps
  steady-run clears made core [] agree are = λ is. ended_all core (sym (agree_here clears made core [] agree) ∙ is)
  steady-run clears made core (s ∷ later) agree are =
      let here = agree_here clears made core (s ∷ later) agree in
      let same = clears_swept clears made core here in (
        (λ is. ended_all core (sym here ∙ is)),
        subst (λ (c : Core). CanMake P c s) (sym same) are.0,
        subst (λ (c : Core). IsRunFrom P clears (suc made) (after_step P c s) later) (sym same)
            (steady-run clears (suc made) (after_step P (swept core) s) later (agree_later clears made core s later agree) are.1),
      )

  -- a run that is cleared wherever all have ended
  abbrev Always : List ℕ → ℕ → Core → List Step → Type 0
  Always clears made core steps = (n : ℕ) → n ≤ length steps → AllEnded (run_from P clears made core (take n steps)) → is_clear clears (made + n) ≡ true

  same_clear : (b : Bool) (core : Core) → (b ≡ true → AllEnded core) → (AllEnded (if b then cleared core else core) → b ≡ true) → b ≡ all_ended core
  same_clear true core only also = sym (all-ended core (only refl))
  same_clear false core only also = go (all_ended core) refl
    where
      go : (c : Bool) → all_ended core ≡ c → false ≡ all_ended core
      go true e = absurd (false≢true (also (ended_all core e)))
      go false e = sym e

  always_here : (clears : List ℕ) (made : ℕ) (core : Core) (steps : List Step) → (is_clear clears made ≡ true → AllEnded core) → Always clears made core steps
      → is_clear clears made ≡ all_ended core
  always_here clears made core steps only always =
      let same : made ≡ made + 0 = omega arith in
      same_clear (is_clear clears made) core only (λ all. ap (λ (k : ℕ). is_clear clears k) same ∙ always 0 (omega arith) all)

  always_later : (clears : List ℕ) (made : ℕ) (core : Core) (step : Step) (later : List Step) → is_clear clears made ≡ all_ended core → Always clears made core (step ∷ later)
      → Always clears (suc made) (after_step P (swept core) step) later
  always_later clears made core step later here always n within all =
      let same : suc made + n ≡ made + suc n = omega arith in
      ap (λ (k : ℕ). is_clear clears k) same
      ∙ always (suc n) (omega (arith, within))
      (subst (λ (c : Core). AllEnded (run_from P clears (suc made) (after_step P c step) (take n later))) (sym (clears_swept clears made core here)) all)

  always-made : (clears : List ℕ) (made : ℕ) (core : Core) (steps : List Step) → IsRunFrom P clears made core steps → Always clears made core steps → AreMade P core steps
  always-made clears made core [] run always = tt
  always-made clears made core (s ∷ later) run always =
      let here = always_here clears made core (s ∷ later) run.0 always in
      let same = clears_swept clears made core here in (
        subst (λ (c : Core). CanMake P c s) same run.1,
        always-made clears (suc made) (after_step P (swept core) s) later (subst (λ (c : Core). IsRunFrom P clears (suc made) (after_step P c s) later) same run.2)
            (always_later clears made core s later here always),
      )

  always-steady : (clears : List ℕ) (made : ℕ) (core : Core) (steps : List Step) → IsRunFrom P clears made core steps → Always clears made core steps
      → run_from P clears made core steps ≡ steady_from P core steps
  always-steady clears made core [] run always = clears_swept clears made core (always_here clears made core [] run always)
  always-steady clears made core (s ∷ later) run always =
      let here = always_here clears made core (s ∷ later) run.0 always in
      let same = clears_swept clears made core here in
      ap (λ (c : Core). run_from P clears (suc made) (after_step P c s) later) same
      ∙ always-steady clears (suc made) (after_step P (swept core) s) later (subst (λ (c : Core). IsRunFrom P clears (suc made) (after_step P c s) later) same run.2)
      (always_later clears made core s later here always)

  run-take : (clears : List ℕ) (made : ℕ) (core : Core) (n : ℕ) (steps : List Step) → IsRunFrom P clears made core steps → IsRunFrom P clears made core (take n steps)
  run-take clears made core zero [] run = run
  run-take clears made core zero (s ∷ later) run = run.0
  run-take clears made core (suc n) [] run = run
  run-take clears made core (suc n) (s ∷ later) run = (run.0, run.1, run-take clears (suc made) (after_step P (clear_at clears made core) s) n later run.2)

  -- ---- the places where all have ended
  abbrev with_place : Bool → ℕ → List ℕ → List ℕ
  with_place b made rest = if b then made ∷ rest else rest

  abbrev places : ℕ → Core → List Step → List ℕ
  places made core [] = with_place (all_ended core) made []
  places made core (step ∷ later) = with_place (all_ended core) made (places (suc made) (after_step P (swept core) step) later)

  differs : (a b : ℕ) → (a ≡ b → ⊥) → (a == b) ≡ false
  differs a b apart = at (a == b) refl
    where
      at : (c : Bool) → (a == b) ≡ c → (a == b) ≡ false
      at true e = absurd (apart (eqb-true a b e))
      at false e = e

  not_before : (b : Bool) (made n : ℕ) (rest : List ℕ) → n < made → is_clear rest n ≡ false → is_clear (with_place b made rest) n ≡ false
  not_before true made n rest less none = rw (differs made n (λ e. omega (arith, e, less))) none
  not_before false made n rest less none = none

  places_before : (made n : ℕ) (core : Core) (steps : List Step) → n < made → is_clear (places made core steps) n ≡ false
  places_before made n core [] less = not_before (all_ended core) made n [] less refl
  places_before made n core (step ∷ later) less =
      not_before (all_ended core) made n (places (suc made) (after_step P (swept core) step) later) less
      (places_before (suc made) n (after_step P (swept core) step) later (omega (arith, less)))

  first_place : (b : Bool) (made : ℕ) (rest : List ℕ) → is_clear rest made ≡ false → is_clear (with_place b made rest) made ≡ b
  first_place true made rest none = rw (eq-eqb made made refl) refl
  first_place false made rest none = none

  places_here : (made : ℕ) (core : Core) (steps : List Step) → is_clear (places made core steps) made ≡ all_ended core
  places_here made core [] = first_place (all_ended core) made [] refl
  places_here made core (step ∷ later) =
      first_place (all_ended core) made (places (suc made) (after_step P (swept core) step) later)
      (places_before (suc made) made (after_step P (swept core) step) later (omega arith))

  not_here : (b : Bool) (made n : ℕ) (rest : List ℕ) → made < n → is_clear (with_place b made rest) n ≡ is_clear rest n
  not_here true made n rest less = rw (differs made n (λ e. omega (arith, e, less))) refl
  not_here false made n rest less = refl

  places_agree : (made : ℕ) (core : Core) (steps : List Step) → Agree (places made core steps) made core steps
  places_agree made core steps zero within =
      ap (λ (k : ℕ). is_clear (places made core steps) k) (omega arith)
      ∙ (places_here made core steps ∙ sym (cleared_ended (all_ended core) core))
  places_agree made core [] (suc n) within = absurd (omega (arith, within))
  places_agree made core (step ∷ later) (suc n) within =
      let next : Core = after_step P (swept core) step in
      not_here (all_ended core) made (made + suc n) (places (suc made) next later) (omega arith)
      ∙ (ap (λ (k : ℕ). is_clear (places (suc made) next later) k) (omega arith)
      ∙ places_agree (suc made) next later n (omega (arith, within)))

  rising_from : (least : ℕ) (cs : List ℕ) (most : ℕ) → IsRising (suc least) cs most → IsRising least cs most
  rising_from least [] most rises = tt
  rising_from least (c ∷ cs) most rises = (omega (arith, rises.0), rises.1, rises.2)

  with_rising : (b : Bool) (made : ℕ) (rest : List ℕ) (most : ℕ) → made ≤ most → IsRising (suc made) rest most → IsRising made (with_place b made rest) most
  with_rising true made rest most within rises = (omega arith, within, rises)
  with_rising false made rest most within rises = rising_from made rest most rises

  places_rise : (made : ℕ) (core : Core) (steps : List Step) → IsRising made (places made core steps) (made + length steps)
  places_rise made core [] = with_rising (all_ended core) made [] (made + 0) (omega arith) tt
  places_rise made core (step ∷ later) =
      let next : Core = after_step P (swept core) step in
      let same : suc made + length later ≡ made + suc (length later) = omega arith in
      with_rising (all_ended core) made (places (suc made) next later) (made + suc (length later)) (omega arith)
      (subst (λ (most : ℕ). IsRising (suc made) (places (suc made) next later) most) same (places_rise (suc made) next later))

pub length-taken : (n : ℕ) (xs : List Step) → n ≤ length xs → length (take n xs) ≡ n
length-taken zero xs le = refl
length-taken (suc n) [] le = absurd (omega (arith, le))
length-taken (suc n) (x ∷ xs) le = ap (λ (k : ℕ). suc k) (length-taken n xs (omega (arith, le)))

pub take_taken : (k n : ℕ) (xs : List Step) → k ≤ n → take k (take n xs) ≡ take k xs
take_taken zero n xs le = refl
take_taken (suc k) zero xs le = absurd (omega (arith, le))
take_taken (suc k) (suc n) [] le = refl
take_taken (suc k) (suc n) (x ∷ xs) le = ap (λ (ys : List Step). x ∷ ys) (take_taken k n xs (omega (arith, le)))

-- ---- of a script

pub steady-next : (script : Script) (steps : List Step) (step : Step) → steady script (steps ++ step ∷ []) ≡ swept (after_step (whole_play script) (steady script steps) step)
unfolding steady
steady-next script steps step = steady-more (whole_play script) (model.empty (whole_play script)) steps step

pub is_steady-none : (script : Script) → IsSteady script []
is_steady-none script = record { made = tt; ticks = λ n comp is first. absurd (cc is) }

-- a step opens a tick only where all have ended
abbrev pub OpensAt : Script → List Step → Step → Type 0
OpensAt script steps step = (comp : ℕ) → step ≡ Step.Admit comp → IsFirstOfTick (admitted script) comp → AllEnded (steady script steps)

pub is_steady-next : (script : Script) (steps : List Step) (step : Step) → IsSteady script steps → CanMake (whole_play script) (steady script steps) step → OpensAt script steps step
    → IsSteady script (steps ++ step ∷ [])
unfolding steady
is_steady-next script steps step is can opens = record {
  made = made-more (whole_play script) (model.empty (whole_play script)) steps step is.made can;
  ticks = λ n comp there first. go n comp first (get_pushed steps step n (Step.Admit comp) there);
}
  where
    go : (n comp : ℕ) → IsFirstOfTick (admitted script) comp
        → ((slice_get steps n ≡ Some (Step.Admit comp)) × (take n (steps ++ step ∷ []) ≡ take n steps)) ⊎ ((step ≡ Step.Admit comp) × (take n (steps ++ step ∷ []) ≡ steps))
        → AllEnded (steady script (take n (steps ++ step ∷ [])))
    go n comp first (inl r) = subst (λ (xs : List Step). AllEnded (steady script xs)) (sym r.1) (is.ticks n comp r.0 first)
    go n comp first (inr r) = subst (λ (xs : List Step). AllEnded (steady script xs)) (sym r.1) (opens comp r.0 first)

pub is_steady-can : (script : Script) (steps : List Step) (step : Step) → IsSteady script (steps ++ step ∷ []) → CanMake (whole_play script) (steady script steps) step
unfolding steady
is_steady-can script steps step is = made-last (whole_play script) (model.empty (whole_play script)) steps step is.made

pub is_steady-opens : (script : Script) (steps : List Step) (step : Step) → IsSteady script (steps ++ step ∷ []) → OpensAt script steps step
is_steady-opens script steps step is comp admits first =
    let last = get_last steps step in
    subst (λ (xs : List Step). AllEnded (steady script xs)) last.1 (is.ticks (length steps) comp (last.0 ∙ ap (λ (s : Step). Some s) admits) first)

pub is_steady-take : (script : Script) (steps : List Step) (n : ℕ) → IsSteady script steps → IsSteady script (take n steps)
is_steady-take script steps n is = record {
  made = made-take (whole_play script) (model.empty (whole_play script)) n steps is.made;
  ticks = λ k comp there first.
      let r = get_taken n k steps (Step.Admit comp) there in
      subst (λ (xs : List Step). AllEnded (steady script xs)) (sym r.1) (is.ticks k comp r.0 first);
}

-- ---- and as a run with clears
module _ (script : Script) (steps : List Step) where
  abbrev P : Play
  P = whole_play script

  abbrev start : Core
  start = model.empty (whole_play script)

  abbrev all : List ℕ
  all = places P 0 start steps

  agrees-take : (n : ℕ) → n ≤ length steps → Agree P all 0 start (take n steps)
  agrees-take n le k within =
      let size : length (take n steps) ≡ n = length-taken n steps le in
      places_agree P 0 start steps k (omega (arith, within, size, le))
      ∙ ap (λ (xs : List Step). all_ended (steady_from P start xs)) (sym (take_taken k n steps (omega (arith, within, size))))

  at-steady : (n : ℕ) → n ≤ length steps → state (after n (replayed script all steps)) ≡ steady script (take n steps)
  unfolding steady whole_play
  at-steady n le = run-steady P all 0 start (take n steps) (agrees-take n le)

  whole-steady : state (replayed script all steps) ≡ steady script steps
  unfolding steady whole_play
  whole-steady = run-steady P all 0 start steps (places_agree P 0 start steps)

  all-is : (n : ℕ) → n ≤ length steps → is_clear all n ≡ all_ended (steady script (take n steps))
  unfolding steady
  all-is n le = ap (λ (k : ℕ). is_clear all k) (omega arith) ∙ places_agree P 0 start steps n le

  is-run : IsSteady script steps → IsRun (replayed script all steps)
  unfolding steady whole_play
  is-run is = record {
    steps = steady-run P all 0 start steps (places_agree P 0 start steps) is.made;
    clears = subst (λ (most : ℕ). IsRising 0 all most) (omega arith) (places_rise P 0 start steps);
  }

  within_is : (n : ℕ) (x : Step) (xs : List Step) → slice_get xs n ≡ Some x → n ≤ length xs
  within_is n x [] is = absurd (cc is)
  within_is zero x (y ∷ ys) is = omega arith
  within_is (suc n) x (y ∷ ys) is = omega (arith, within_is n x ys is)

  pub begun-of : IsSteady script steps → IsBegun script steps
  begun-of is = record {
    clears = all;
    run = is-run is;
    always = λ n within ended. all-is n within ∙ all-ended (steady script (take n steps)) (subst AllEnded (at-steady n within) ended);
    ticks = λ n comp there first. subst AllEnded (sym (at-steady n (within_is n (Step.Admit comp) steps there))) (is.ticks n comp there first);
  }

  pub finished-of : IsSteady script steps → (steady script steps).count ≡ length (admitted script) → AllEnded (steady script steps) → IsFinished script steps
  unfolding begun-of
  finished-of is count ended = let b = begun-of is in record {
    clears = all;
    run = b.run;
    always = b.always;
    ticks = b.ticks;
    admitted = ap (λ (core : Core). core.count) whole-steady ∙ count;
    ended = subst AllEnded (sym whole-steady) ended;
  }

  module _ (b : IsBegun script steps) where
    always-of : Always (whole_play script) b.clears 0 (model.empty (whole_play script)) steps
    unfolding whole_play
    always-of n within ended = let same : 0 + n ≡ n = omega arith in ap (λ (k : ℕ). is_clear b.clears k) same ∙ b.always n within ended

    run-of : IsRunFrom (whole_play script) b.clears 0 (model.empty (whole_play script)) steps
    unfolding whole_play
    run-of = b.run.steps

    pub begun-state : state (replayed script b.clears steps) ≡ steady script steps
    unfolding steady whole_play
    begun-state = always-steady P b.clears 0 start steps run-of always-of

    always-take : (n : ℕ) → n ≤ length steps → Always (whole_play script) b.clears 0 (model.empty (whole_play script)) (take n steps)
    always-take n le k within ended =
        let size : length (take n steps) ≡ n = length-taken n steps le in
        always-of k (omega (arith, within, size, le))
        (subst (λ (xs : List Step). AllEnded (run_from (whole_play script) b.clears 0 (model.empty (whole_play script)) xs)) (take_taken k n steps (omega (arith, within, size))) ended)

    begun-at : (n : ℕ) → n ≤ length steps → state (after n (replayed script b.clears steps)) ≡ steady script (take n steps)
    unfolding steady whole_play
    begun-at n le = always-steady P b.clears 0 start (take n steps) (run-take P b.clears 0 start n steps run-of) (always-take n le)

    pub steady-of : IsSteady script steps
    steady-of = record {
      made = always-made P b.clears 0 start steps run-of always-of;
      ticks = λ n comp there first. subst AllEnded (begun-at n (within_is n (Step.Admit comp) steps there)) (b.ticks n comp there first);
    }

  begun_of-finished : IsFinished script steps → IsBegun script steps
  begun_of-finished f = record { clears = f.clears; run = f.run; always = f.always; ticks = f.ticks }

  -- a finished journal: all that the script admits was admitted, and has ended
  pub record IsWhole : Type 0 where
    pub begun : IsBegun script steps
    pub is_steady : IsSteady script steps
    pub count : (steady script steps).count ≡ length (admitted script)
    pub ended : AllEnded (steady script steps)

  pub of-finished : IsFinished script steps → IsWhole
  unfolding begun_of-finished
  of-finished f =
      let b : IsBegun script steps = begun_of-finished f in
      let same : state (replayed script f.clears steps) ≡ steady script steps = begun-state b in
      record {
        begun = b;
        is_steady = steady-of b;
        count = ap (λ (core : Core). core.count) (sym same) ∙ f.admitted;
        ended = subst AllEnded same f.ended;
      }
