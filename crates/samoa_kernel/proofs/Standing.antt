-- What is open in a journal is out in its core, and the other way round.
use Rattle.std.proofs.Common.{arith, ◌≡◌, ◌≢◌, ◌⊎◌, inl, inr, ℕ, zero, suc, ◌-◌, ◌<◌, ◌≤◌, List, [], ◌∷◌, ◌++◌, ◌==◌, ◌||◌, length, Bool, true, false, Option, Some, None, refl, ap, sym, ◌∙◌, subst, append_assoc, length-append, ne_eqb, if◌then◌else◌}
use Rattle.std.specs.List.{All}
use Rattle.std.proofs.Math.Seq.{get_or-append_seam}
use Rattle.std.proofs.lemmas.Bool.{cases_Bool, cases_lt}
use Rattle.std.proofs.lemmas.List.Elements.{All-get_or}
use Rattle.samoa_model.specs.declared.handler.Moment.{Moment}
use Rattle.samoa_model.specs.declared.record.Step.{Step}
use Rattle.samoa_serial.specs.declared.call.Call.{Call}
use Rattle.samoa_serial.specs.Alone.{next_step}
use Rattle.samoa_invariant.specs.Slots.{At, put_at}
use Rattle.samoa_invariant.specs.Play.{Play}
use Rattle.samoa_invariant.specs.Inv.{Invariant}
use Rattle.samoa_invariant.specs.Picking.{IsEnterOf, IsOutTo, StaysOut}
use Rattle.samoa_invariant.specs.Settling.{with_steps}
use Rattle.samoa_invariant.specs.State as model
use Rattle.samoa_invariant.specs.State.{Core, NothingOut}
use Rattle.samoa_invariant.specs.Runs.{CanMake, IsRun, IsRunFrom, Trace, after_step, clear_at, cleared, is_clear, play, run_from, state}
use Rattle.samoa_invariant.proofs.refinement.Ends.{reached_keeps}
use Rattle.samoa_invariant.proofs.representation.Journals.{run_reached}
use Rattle.samoa_invariant.proofs.representation.Standing.{enters_once, stays_out}
use Rattle.samoa_invariant.proofs.preservation.Slots.{put_at-else, put_at-here, slot_or_not}
use Rattle.samoa_kernel.specs.Opens.{closes, is_closed, is_open}
use Rattle.samoa_kernel.proofs.Opening.{OpenAt, closed_not, open_at}

-- an Enter in a run lets its computation out
entered_out : (P : Play) (clears : List ℕ) (made : ℕ) (core : Core) (before later : List Step) (comp p : ℕ) → IsRunFrom P clears made core (before ++ Step.Enter comp p ∷ later)
    → (0 < comp) × ((run_from P clears made core (before ++ Step.Enter comp p ∷ [])).out (P.node (comp - 1)) p ≡ Some (comp - 1))
entered_out P clears made core [] later comp p run = (
  run.1.number,
  uncleared (is_clear clears (suc made)) (after_step P (clear_at clears made core) (Step.Enter comp p))
      (put_at-here {A = Option ℕ} (clear_at clears made core).out (P.node (comp - 1)) p (P.node (comp - 1)) p (Some (comp - 1)) refl refl),
)
  where
    uncleared : (b : Bool) (after : Core) → after.out (P.node (comp - 1)) p ≡ Some (comp - 1) → (if b then cleared after else after).out (P.node (comp - 1)) p ≡ Some (comp - 1)
    uncleared true after e = e
    uncleared false after e = e
entered_out P clears made core (x ∷ before) later comp p run =
    entered_out P clears (suc made) (after_step P (clear_at clears made core) x) before later comp p run.2

-- a step behind an equal beginning
later_holds : (P : Step → Type 0) (xs ys zs ws : List Step) (x z : Step) → xs ++ x ∷ ys ≡ zs ++ z ∷ ws → length xs < length zs → All P ys → P z
later_holds P [] ys [] ws x z e lt all = absurd (omega arith)
later_holds P [] ys (w ∷ zs) ws x z e lt all =
    let same : ys ≡ zs ++ z ∷ ws = cc e in
    subst P (get_or-append_seam zs z ws z)
    (All-get_or P (zs ++ z ∷ ws) (length zs) z (omega (arith, length-append zs (z ∷ ws))) (subst (All P) same all))
later_holds P (y ∷ xs) ys [] ws x z e lt all = absurd (omega arith)
later_holds P (y ∷ xs) ys (w ∷ zs) ws x z e lt all =
    let same : xs ++ x ∷ ys ≡ zs ++ z ∷ ws = cc e in
    later_holds P xs ys zs ws x z same (omega arith) all

module _ (t : Trace) (run : IsRun t) where
  module _ (k : ℕ) (o : OpenAt t.journal k) where
    -- the core right after the Enter of an open place
    abbrev begun_at : Trace
    begun_at = record t { journal = o.before ++ Step.Enter o.comp o.micro ∷ [] }

    whole : with_steps begun_at o.later ≡ t
    whole = ap (λ (xs : List Step). record t { journal = xs }) (append_assoc o.before (Step.Enter o.comp o.micro ∷ []) o.later ∙ o.is)

    whole_run : IsRun (with_steps begun_at o.later)
    whole_run = subst IsRun (sym whole) run

    out_there : IsOutTo begun_at o.comp o.micro
    out_there =
        let there : IsRunFrom (play t) t.clears 0 (model.empty (play t)) (o.before ++ Step.Enter o.comp o.micro ∷ o.later) =
        subst (IsRunFrom (play t) t.clears 0 (model.empty (play t))) (sym o.is) run.steps in
        let out = entered_out (play t) t.clears 0 (model.empty (play t)) o.before o.later o.comp o.micro there in
        record { number = out.0; out = out.1 }

    -- it is out to its computation
    pub open_out : (state t).out ((play t).node (o.comp - 1)) o.micro ≡ Some (o.comp - 1)
    open_out = (subst (λ (u : Trace). StaysOut begun_at u o.comp o.micro) whole (stays_out begun_at o.later o.comp o.micro whole_run out_there (closed_not o.comp o.later o.unclosed))).out

    enters_no_more : All (λ step. IsEnterOf o.comp step → ⊥) o.later
    enters_no_more = enters_once begun_at o.later o.comp o.micro whole_run out_there (closed_not o.comp o.later o.unclosed)

  not_before : (i j : ℕ) (a : OpenAt t.journal i) (b : OpenAt t.journal j) → a.comp ≡ b.comp → i < j → ⊥
  not_before i j a b same lt =
      later_holds (λ step. IsEnterOf a.comp step → ⊥) a.before a.later b.before b.later (Step.Enter a.comp a.micro) (Step.Enter b.comp b.micro)
      (a.is ∙ sym b.is) (omega (arith, a.place, b.place)) (enters_no_more i a) (sym same)

  -- of a computation at most one place is open
  pub one_open : (i j : ℕ) (a : OpenAt t.journal i) (b : OpenAt t.journal j) → a.comp ≡ b.comp → i ≡ j
  one_open i j a b same = go (cases_lt i j) (cases_lt j i)
    where
      go : (i < j) ⊎ (j ≤ i) → (j < i) ⊎ (i ≤ j) → i ≡ j
      go (inl lt) other = absurd (not_before i j a b same lt)
      go (inr le) (inl lt) = absurd (not_before j i b a (sym same) lt)
      go (inr le) (inr ge) = omega arith

  -- where nothing is out, nothing is open
  pub home_closed : NothingOut (state t) → (k : ℕ) → is_open t.journal k ≡ false
  home_closed home k = go (cases_Bool (is_open t.journal k))
    where
      go : (is_open t.journal k ≡ true) ⊎ (is_open t.journal k ≡ false) → is_open t.journal k ≡ false
      go (inl opened) =
          let o = open_at t.journal k opened in
          let both : Some (o.comp - 1) ≡ None = sym (open_out k o) ∙ home ((play t).node (o.comp - 1)) o.micro in
          absurd (cc both)
      go (inr none) = none

-- what is out after a step was out before it and isn't brought back, or the step let it out
module _ (P : Play) (core : Core) (i : Invariant P core) (v p k : ℕ) where
  put_none : (f : At (Option ℕ)) (w q : ℕ) → put_at f w q None v p ≡ Some k → ((v ≢ w) ⊎ (p ≢ q)) × (f v p ≡ Some k)
  put_none f w q o = go (slot_or_not v w p q)
    where
      go : ((v ≡ w) × (p ≡ q)) ⊎ ((v ≢ w) ⊎ (p ≢ q)) → ((v ≢ w) ⊎ (p ≢ q)) × (f v p ≡ Some k)
      go (inl e) =
          let none : put_at f w q None v p ≡ None = put_at-here {A = Option ℕ} f w q v p None e.0 e.1 in
          absurd (cc (none, o))
      go (inr ne) = (ne, sym (put_at-else {A = Option ℕ} f w q v p None ne) ∙ o)

  -- a computation that is out is out at its next handler step
  at_next : (next : Call × Moment) → next_step (core.comp k) ≡ Some next → core.out v p ≡ Some k → (v ≡ P.node k) × (p ≡ next.0.handler.micro.0)
  at_next next is o =
      let r = i.out v p k o in
      let both : Some (r.next.call, r.next.moment) ≡ Some next = sym r.next.next ∙ (ap next_step (sym (i.calls.comp k r.admitted)) ∙ is) in
      let call : r.next.call ≡ next.0 = cc in
      (r.node, sym r.next.is_at ∙ ap (λ (c : Call). c.handler.micro.0) call)

  not_its : (comp : ℕ) (next : Call × Moment) → 0 < comp → next_step (core.comp (comp - 1)) ≡ Some next → ((v ≢ P.node (comp - 1)) ⊎ (p ≢ next.0.handler.micro.0)) → core.out v p ≡ Some k
      → (suc k == comp) ≡ false
  not_its comp next first is apart o = ne_eqb (suc k) comp (λ e. go (let same : comp - 1 ≡ k = omega arith in same) apart)
    where
      go : comp - 1 ≡ k → ((v ≢ P.node (comp - 1)) ⊎ (p ≢ next.0.handler.micro.0)) → ⊥
      go same (inl differs) = differs ((at_next next (ap (λ (j : ℕ). next_step (core.comp j)) (sym same) ∙ is) o).0 ∙ ap P.node (sym same))
      go same (inr differs) = differs (at_next next (ap (λ (j : ℕ). next_step (core.comp j)) (sym same) ∙ is) o).1

  some_next : (j : ℕ) → model.CanLeave P core j → next_step (core.comp j) ≡ None → ⊥
  some_next j can none =
      let r = i.out (P.node j) can.slot j can.out.out in
      let both : Some (r.next.call, r.next.moment) ≡ None = sym r.next.next ∙ (ap next_step (sym (i.calls.comp j r.admitted)) ∙ none) in
      cc both

  leave_out : (comp : ℕ) → 0 < comp → model.CanLeave P core (comp - 1) → (o : Option (Call × Moment)) → next_step (core.comp (comp - 1)) ≡ o
      → (model.leave_next P core (comp - 1) o).out v p ≡ Some k → (core.out v p ≡ Some k) × ((suc k == comp) ≡ false)
  leave_out comp first can None is out = absurd (some_next (comp - 1) can is)
  leave_out comp first can (Some next) is out =
      let s = put_none core.out (P.node (comp - 1)) next.0.handler.micro.0 out in
      (s.1, not_its comp next first is s.0 s.1)

  abandon_out : (comp : ℕ) → 0 < comp → model.CanLeave P core (comp - 1) → (o : Option (Call × Moment)) → next_step (core.comp (comp - 1)) ≡ o
      → (model.abandon_next P core (comp - 1) o).out v p ≡ Some k → (core.out v p ≡ Some k) × ((suc k == comp) ≡ false)
  abandon_out comp first can None is out = absurd (some_next (comp - 1) can is)
  abandon_out comp first can (Some next) is out =
      let s = put_none core.out (P.node (comp - 1)) next.0.handler.micro.0 out in
      (s.1, not_its comp next first is s.0 s.1)

  step_out : (x : Step) → CanMake P core x → (after_step P core x).out v p ≡ Some k → ((core.out v p ≡ Some k) × (closes (suc k) x ≡ false)) ⊎ ((q : ℕ) × (x ≡ Step.Enter (suc k) q))
  step_out (Step.Admit comp) can out = inl (out, refl)
  step_out (Step.Enter comp q) can out = go (slot_or_not v (P.node (comp - 1)) p q)
    where
      go : ((v ≡ P.node (comp - 1)) × (p ≡ q)) ⊎ ((v ≢ P.node (comp - 1)) ⊎ (p ≢ q)) → ((core.out v p ≡ Some k) × (false ≡ false)) ⊎ ((r : ℕ) × (Step.Enter comp q ≡ Step.Enter (suc k) r))
      go (inl e) =
          let here : Some (comp - 1) ≡ Some k = sym (put_at-here {A = Option ℕ} core.out (P.node (comp - 1)) q v p (Some (comp - 1)) e.0 e.1) ∙ out in
          let same : comp - 1 ≡ k = cc here in
          let number : 0 < comp = can.number in
          let up : comp ≡ suc k = omega arith in
          inr (q, ap (λ (c : ℕ). Step.Enter c q) up)
      go (inr ne) = inl (sym (put_at-else {A = Option ℕ} core.out (P.node (comp - 1)) q v p (Some (comp - 1)) ne) ∙ out, refl)
  step_out (Step.Leave comp) can out = inl (leave_out comp can.number can.enabled (next_step (core.comp (comp - 1))) refl out)
  step_out (Step.Abandon comp) can out = inl (abandon_out comp can.number can.enabled (next_step (core.comp (comp - 1))) refl out)
  step_out (Step.Release comp q) can out = inl (out, refl)
  step_out (Step.End comp) can out = inl (out, refl)

-- what is out is open, unless it was out before and isn't closed
abbrev OutOrOpen : Core → List Step → ℕ → ℕ → ℕ → Type 0
OutOrOpen core xs v p k = ((core.out v p ≡ Some k) × (is_closed (suc k) xs ≡ false)) ⊎ ((j : ℕ) × (is_open xs j ≡ true))

uncleared_out : (core : Core) (b : Bool) (v p k : ℕ) → (if b then cleared core else core).out v p ≡ Some k → core.out v p ≡ Some k
uncleared_out core true v p k e = e
uncleared_out core false v p k e = e

out_or_open : (P : Play) (clears : List ℕ) (made : ℕ) (core : Core) (xs : List Step) (v p k : ℕ) → model.Reached P core → IsRunFrom P clears made core xs
    → (run_from P clears made core xs).out v p ≡ Some k → OutOrOpen core xs v p k
out_or_open P clears made core [] v p k reached run out = inl (uncleared_out core (is_clear clears made) v p k out, refl)
out_or_open P clears made core (x ∷ xs) v p k reached run out =
    further (out_or_open P clears (suc made) (after_step P (clear_at clears made core) x) xs v p k (model.Reached.Later (clear_at clears made core) _ there run.1.enabled) run.2 out)
  where
    there : model.Reached P (clear_at clears made core)
    there = run_reached P clears made core [] run.0 reached

    opened : is_closed (suc k) xs ≡ false → (q : ℕ) → x ≡ Step.Enter (suc k) q → is_open (x ∷ xs) zero ≡ true
    opened none q is = subst (λ (y : Step). is_open (y ∷ xs) zero ≡ true) (sym is) (rw none refl)

    stepped : is_closed (suc k) xs ≡ false → (((clear_at clears made core).out v p ≡ Some k) × (closes (suc k) x ≡ false)) ⊎ ((q : ℕ) × (x ≡ Step.Enter (suc k) q))
        → OutOrOpen core (x ∷ xs) v p k
    stepped none (inl s) = inl (uncleared_out core (is_clear clears made) v p k s.0, ap (λ (b : Bool). b || is_closed (suc k) xs) s.1 ∙ none)
    stepped none (inr s) = inr (zero, opened none s.0 s.1)

    further : OutOrOpen (after_step P (clear_at clears made core) x) xs v p k → OutOrOpen core (x ∷ xs) v p k
    further (inl s) = stepped s.1 (step_out P (clear_at clears made core) (reached_keeps P (clear_at clears made core) there) v p k x run.1 s.0)
    further (inr s) = inr (suc s.0, s.1)

-- where nothing is open, nothing is out
pub closed_home : (t : Trace) → IsRun t → ((k : ℕ) → is_open t.journal k ≡ true → ⊥) → NothingOut (state t)
closed_home t run none v p = go ((state t).out v p) refl
  where
    go : (o : Option ℕ) → (state t).out v p ≡ o → (state t).out v p ≡ None
    go None e = e
    go (Some k) e = absurd (never (out_or_open (play t) t.clears 0 (model.empty (play t)) t.journal v p k model.Reached.Opening run.steps e))
      where
        never : OutOrOpen (model.empty (play t)) t.journal v p k → ⊥
        never (inl s) = let both : None ≡ Some k = s.0 in cc both
        never (inr s) = none s.0 s.1
