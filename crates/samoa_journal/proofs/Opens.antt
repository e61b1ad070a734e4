-- A core that runs in parts opens each tick where all have ended.
use Rattle.std.proofs.Common.{◌≡◌, ◌⊎◌, inl, inr, refl, sym, ap, subst, ◌∙◌, arith, ℕ, zero, suc, ◌+◌, ◌-◌, ◌<◌, ◌≤◌, ◌==◌, ◌||◌, Bool, true, false, if◌then◌else◌, List, [], ◌∷◌, ◌++◌, append_assoc, length, length-append, take, slice_get, Some, eq-eqb}
use Rattle.std.proofs.lemmas.Bool.{cases_order}
use Rattle.std.proofs.lemmas.Option.{slice_get_within}
use Rattle.samoa_model.specs.declared.record.Ext.{Ext}
use Rattle.samoa_model.specs.declared.record.Step.{Step}
use Rattle.samoa_serial.specs.Alone.{next_step}
use Rattle.samoa_serial.specs.Lists.{Each}
use Rattle.samoa_invariant.specs.Play.{Play}
use Rattle.samoa_invariant.specs.State as model
use Rattle.samoa_invariant.specs.State.{AllEnded, Core}
use Rattle.samoa_invariant.specs.Runs.{IsRun, IsRunFrom, Trace, after_step, clear_at, cleared, ext_at, is_clear, play, run_from, state}
use Rattle.samoa_journal.specs.Finished.{IsFirstOfTick, OpensTicks, after}
use Rattle.samoa_journal.specs.Parts.{AdmitsNone, HasParts, IsPacked, IsPart, Part, admits, ends_from, exts_of, part_steps, steps_from}
use Rattle.samoa_journal.proofs.Parts.{Stands, admit_at, in_part, length-admits, none_at, slice_left, slice_right}
use Rattle.samoa_invariant.proofs.representation.Extended.{abandon_count, leave_count}

-- ---- where each admission stands
or_there : (b : Bool) → (b || true) ≡ true
or_there true = refl
or_there false = refl

-- one part before
later_part : (exts : List Ext) (ends : List ℕ) (made size k j comp : ℕ) → k ≡ size + j → Stands exts ends (made + size) j comp → Stands exts ((made + size) ∷ ends) made k comp
later_part exts ends made size k j comp is (Stands.Begins (inl none)) =
    let here : made + k ≡ made + size = omega (arith, is, none) in
    Stands.Begins (inr (ap (λ (n : ℕ). is_clear ((made + size) ∷ ends) n) here ∙ ap (λ (b : Bool). b || is_clear ends (made + size)) (eq-eqb (made + size) (made + size) refl)))
later_part exts ends made size k j comp is (Stands.Begins (inr there)) =
    let here : made + size + j ≡ made + k = omega (arith, is) in
    Stands.Begins (inr (ap (λ (b : Bool). (made + size == made + k) || b) (ap (λ (n : ℕ). is_clear ends n) (sym here) ∙ there) ∙ or_there (made + size == made + k)))
later_part exts ends made size k j comp is (Stands.Follows more same) = Stands.Follows more same

stands : (before : List Ext) (parts : List Part) (made k comp : ℕ) → Each IsPart parts → slice_get (steps_from (length before) parts) k ≡ Some (Step.Admit comp)
    → Stands (before ++ exts_of parts) (ends_from made (length before) parts) made k comp
stands before [] made k comp each is = absurd (cc is)
stands before (p ∷ ps) made k comp each is =
    go (cases_order k (length p.exts)) (cases_order k (length (part_steps n p)))
    (λ (j : ℕ) (from : k ≡ length (part_steps n p) + j).
    let deeper : slice_get (steps_from (length (before ++ p.exts)) ps) j ≡ Some (Step.Admit comp) =
    ap (λ (m : ℕ). slice_get (steps_from m ps) j) (length-append before p.exts)
    ∙ (sym (slice_right (part_steps n p) rest j) ∙ (ap (λ (m : ℕ). slice_get (part_steps n p ++ rest) m) (sym from) ∙ is)) in
    later_part (before ++ exts_of (p ∷ ps)) (ends_from (made + length (part_steps n p)) (n + length p.exts) ps) made (length (part_steps n p)) k j comp from
    (subst (λ (xs : List Ext). Stands xs (ends_from (made + length (part_steps n p)) (n + length p.exts) ps) (made + length (part_steps n p)) j comp) (append_assoc before p.exts (exts_of ps))
    (subst (λ (m : ℕ). Stands ((before ++ p.exts) ++ exts_of ps) (ends_from (made + length (part_steps n p)) m ps) (made + length (part_steps n p)) j comp) (length-append before p.exts)
    (stands (before ++ p.exts) ps (made + length (part_steps n p)) j comp each.1 deeper))))
  where
    n : ℕ
    n = length before

    rest : List Step
    rest = steps_from (n + length p.exts) ps

    size : length (part_steps n p) ≡ length p.exts + length p.others
    size = length-append (admits n p.exts) p.others ∙ ap (λ (m : ℕ). m + length p.others) (length-admits n p.exts)

    Goal : Type 0
    Goal = Stands (before ++ exts_of (p ∷ ps)) (ends_from made n (p ∷ ps)) made k comp

    of_part : k < length p.exts → Goal
    of_part less =
        let here : slice_get (admits n p.exts) k ≡ Some (Step.Admit comp) =
        sym (slice_left (admits n p.exts) p.others k (omega (arith, less, length-admits n p.exts)))
        ∙ (sym (slice_left (part_steps n p) rest k (omega (arith, less, size))) ∙ is) in
        in_part before p (exts_of ps) made k comp (ends_from made n (p ∷ ps)) each.0 less (admit_at n p.exts k comp less here)

    of_others : length p.exts ≤ k → k < length (part_steps n p) → Goal
    of_others more less =
        let j : ℕ = k - length p.exts in
        let from : k ≡ length (admits n p.exts) + j = omega (arith, more, length-admits n p.exts) in
        let here : slice_get p.others j ≡ Some (Step.Admit comp) =
        sym (slice_right (admits n p.exts) p.others j)
        ∙ (ap (λ (m : ℕ). slice_get (part_steps n p) m) (sym from) ∙ (sym (slice_left (part_steps n p) rest k less) ∙ is)) in
        absurd (none_at p.others j comp each.0.others here)

    go : (k ≡ length p.exts) ⊎ ((k < length p.exts) ⊎ (length p.exts < k)) → (k ≡ length (part_steps n p)) ⊎ ((k < length (part_steps n p)) ⊎ (length (part_steps n p) < k))
        → ((j : ℕ) → k ≡ length (part_steps n p) + j → Goal) → Goal
    go (inr (inl less)) other deeper = of_part less
    go (inl at) (inr (inl less)) deeper = of_others (omega (arith, at)) less
    go (inr (inr more)) (inr (inl less)) deeper = of_others (omega (arith, more)) less
    go (inl at) (inl end) deeper = deeper 0 (omega (arith, end))
    go (inr (inr more)) (inl end) deeper = deeper 0 (omega (arith, end))
    go (inl at) (inr (inr past)) deeper = deeper (k - length (part_steps n p)) (omega (arith, past))
    go (inr (inr more)) (inr (inr past)) deeper = deeper (k - length (part_steps n p)) (omega (arith, past))

-- ---- a core was cleared only where all had ended
ended_cleared : (b : Bool) (core : Core) → AllEnded core → AllEnded (if b then cleared core else core)
ended_cleared true core all = all
ended_cleared false core all = all

cleared_there : (P : Play) (clears : List ℕ) (made : ℕ) (core : Core) (steps : List Step) (n : ℕ) → IsRunFrom P clears made core steps → n ≤ length steps
    → is_clear clears (made + n) ≡ true → AllEnded (run_from P clears made core (take n steps))
cleared_there P clears made core [] zero run within is =
    ended_cleared (is_clear clears made) core (run (ap (λ (m : ℕ). is_clear clears m) (omega arith) ∙ is))
cleared_there P clears made core (step ∷ later) zero run within is =
    ended_cleared (is_clear clears made) core (run.0 (ap (λ (m : ℕ). is_clear clears m) (omega arith) ∙ is))
cleared_there P clears made core [] (suc n) run within is = absurd (omega (arith, within))
cleared_there P clears made core (step ∷ later) (suc n) run within is =
    let same : suc made + n ≡ made + suc n = omega arith in
    cleared_there P clears (suc made) (after_step P (clear_at clears made core) step) later n run.2 (omega (arith, within)) (ap (λ (m : ℕ). is_clear clears m) same ∙ is)

none_yet : (b : Bool) (P : Play) → AllEnded (if b then cleared (model.empty P) else model.empty P)
none_yet true P k less = absurd (omega (arith, less))
none_yet false P k less = absurd (omega (arith, less))

-- ---- so a tick opens where all have ended
pub parts_open : (alone : Bool) (t : Trace) (next : List Ext) → IsRun t → IsPacked alone t next → OpensTicks t
parts_open alone t next run packed n comp there first =
    go (stands [] packed.parts 0 n comp was.each (ap (λ (steps : List Step). slice_get steps n) (sym was.journal) ∙ there))
  where
    was : HasParts t packed.parts
    was = packed.in_parts

    go : Stands (exts_of packed.parts) (ends_from 0 0 packed.parts) 0 n comp → AllEnded (state (after n t))
    go (Stands.Begins (inl none)) =
        subst (λ (m : ℕ). AllEnded (state (after m t))) (sym none) (none_yet (is_clear t.clears 0) (play t))
    go (Stands.Begins (inr is)) =
        cleared_there (play t) t.clears 0 (model.empty (play t)) t.journal n run.steps (omega (arith, slice_get_within t.journal n (Step.Admit comp) there))
        (ap (λ (cs : List ℕ). is_clear cs (0 + n)) was.clears ∙ is)
    go (Stands.Follows more same) = absurd (clash first)
      where
        clash : IsFirstOfTick t.exts comp → ⊥
        clash (inl one) = omega (arith, one, more)
        clash (inr differ) = differ (ap (λ (xs : List Ext). (ext_at xs (comp - 2)).tick) was.exts ∙ (same ∙ ap (λ (xs : List Ext). (ext_at xs (comp - 1)).tick) (sym was.exts)))

-- ---- steps after all were admitted
abbrev how_many : List Step → ℕ
how_many [] = 0
how_many (Step.Admit comp ∷ steps) = suc (how_many steps)
how_many (Step.Enter comp micro ∷ steps) = how_many steps
how_many (Step.Leave comp ∷ steps) = how_many steps
how_many (Step.Abandon comp ∷ steps) = how_many steps
how_many (Step.Release comp micro ∷ steps) = how_many steps
how_many (Step.End comp ∷ steps) = how_many steps

step_count : (P : Play) (core : Core) (step : Step) → (after_step P core step).count ≡ core.count + how_many (step ∷ [])
step_count P core (Step.Admit comp) = omega arith
step_count P core (Step.Enter comp micro) = omega arith
step_count P core (Step.Leave comp) = omega (arith, leave_count P core (comp - 1) (next_step (core.comp (comp - 1))))
step_count P core (Step.Abandon comp) = omega (arith, abandon_count P core (comp - 1) (next_step (core.comp (comp - 1))))
step_count P core (Step.Release comp micro) = omega arith
step_count P core (Step.End comp) = omega arith

many_more : (step : Step) (later : List Step) → how_many (step ∷ later) ≡ how_many (step ∷ []) + how_many later
many_more (Step.Admit comp) later = omega arith
many_more (Step.Enter comp micro) later = omega arith
many_more (Step.Leave comp) later = omega arith
many_more (Step.Abandon comp) later = omega arith
many_more (Step.Release comp micro) later = omega arith
many_more (Step.End comp) later = omega arith

clear_count : (b : Bool) (core : Core) → (if b then cleared core else core).count ≡ core.count
clear_count true core = refl
clear_count false core = refl

run_count : (P : Play) (clears : List ℕ) (made : ℕ) (core : Core) (steps : List Step) → (run_from P clears made core steps).count ≡ core.count + how_many steps
run_count P clears made core [] = omega (arith, clear_count (is_clear clears made) core)
run_count P clears made core (step ∷ later) =
    let here : Core = clear_at clears made core in
    omega (arith, run_count P clears (suc made) (after_step P here step) later, step_count P here step, many_more step later, clear_count (is_clear clears made) core)

many-append : (xs ys : List Step) → how_many (xs ++ ys) ≡ how_many xs + how_many ys
many-append [] ys = omega arith
many-append (x ∷ xs) ys = omega (arith, many_more x (xs ++ ys), many_more x xs, many-append xs ys)

no_admission : (steps : List Step) → how_many steps ≡ 0 → Each AdmitsNone steps
no_admission [] none = tt
no_admission (Step.Admit comp ∷ steps) none = absurd (omega (arith, none))
no_admission (Step.Enter comp micro ∷ steps) none = (tt, no_admission steps none)
no_admission (Step.Leave comp ∷ steps) none = (tt, no_admission steps none)
no_admission (Step.Abandon comp ∷ steps) none = (tt, no_admission steps none)
no_admission (Step.Release comp micro ∷ steps) none = (tt, no_admission steps none)
no_admission (Step.End comp ∷ steps) none = (tt, no_admission steps none)

-- once all were admitted, no later step admits
pub admit_none : (t u : Trace) (steps : List Step) → u.journal ≡ t.journal ++ steps → u.exts ≡ t.exts → (state t).count ≡ length t.exts → (state u).count ≡ length u.exts
    → Each AdmitsNone steps
admit_none t u steps journal exts all also =
    no_admission steps
    (omega (
      arith,
      run_count (play t) t.clears 0 (model.empty (play t)) t.journal,
      run_count (play u) u.clears 0 (model.empty (play u)) u.journal,
      all,
      also,
      ap (λ (xs : List Ext). length xs) exts,
      ap how_many journal,
      many-append t.journal steps,
    ))
