-- Something can always go on; and who can enter a box in a settled core.
use Rattle.std.proofs.Common.{arith, ◌≡◌, ◌≢◌, ℕ, zero, suc, ◌≤◌, ◌<◌, ◌⊎◌, inl, inr, refl, sym, ap, ◌∙◌, subst, List, [], ◌∷◌, map, Bool, true, false, Some, None, ◌==◌, if◌then◌else◌}
use Rattle.std.proofs.lemmas.Bool.{cases_eq, eqb-true, or_cases}
use Rattle.std.proofs.lemmas.List.Folds.{list_any-append}
use Rattle.std.proofs.Math.Bool.{or-false}
use Rattle.std.specs.List.{list_any}
use Rattle.samoa_serial.specs.declared.call.Active.{Active}
use Rattle.samoa_serial.specs.declared.call.Call.{Call}
use Rattle.samoa_model.specs.declared.script.Decl.{Decl}
use Rattle.samoa_model.specs.declared.ids.HandlerId.{HandlerId}
use Rattle.samoa_model.specs.declared.handler.Moment.{Moment}
use Rattle.samoa_model.specs.Scripts.{Table}
use Rattle.samoa_model.specs.Allowed.{bound_in, declares, weight}
use Rattle.samoa_serial.specs.Calls.{Computation}
use Rattle.samoa_serial.specs.Alone.{next_of, next_step}
use Rattle.samoa_invariant.specs.Play.{Play, version, attempts, table_of, point, Never, IsIdle}
use Rattle.samoa_invariant.specs.State.{Core, Step, Quiet, HasTurn, IsNextAt, CanEnter, CanRelease, CanEnd, IsEnabled, IsForward, AllEnded, IsSettled, NothingOut, NoneEnters, IsLeastOpen, named}
use Rattle.samoa_invariant.specs.Inv.{Meets, Invariant, IsDone, IsOutRightly}
use Rattle.samoa_invariant.proofs.preservation.Versions.{in_order, if_else, all_before_past}
use Rattle.samoa_invariant.proofs.refinement.Points.{some_or_none}
use Rattle.samoa_invariant.proofs.refinement.Ends.{idle_is_whole}
use Rattle.samoa_invariant.proofs.preservation.Forms.{meets}
use Rattle.samoa_invariant.proofs.refinement.Heads.{head_due}
use Rattle.samoa_invariant.proofs.preservation.Steps.{some_injective}

abbrev pub IsIn : ℕ → List ℕ → Type 0
IsIn p [] = ⊥
IsIn p (q ∷ qs) = (q ≡ p) ⊎ IsIn p qs

bound_named : (bounds : List (ℕ × ℕ)) (p : ℕ) → 0 < bound_in bounds p → IsIn p (map (λ b. b.0) bounds)
bound_named [] p lt = absurd (omega arith)
bound_named (b ∷ bs) p lt = go (cases_eq b.0 p) (λ h. bound_named bs p h)
  where
    go : (b.0 ≡ p) ⊎ (b.0 ≢ p) → (0 < bound_in bs p → IsIn p (map (λ c. c.0) bs)) → (b.0 ≡ p) ⊎ IsIn p (map (λ c. c.0) bs)
    go (inl e) ih = inl e
    go (inr ne) ih = inr (ih (subst (λ (x : ℕ). 0 < x) (if_else {A = ℕ} b.0 p b.1 (bound_in bs p) ne) lt))

any_named : {A : Type 0} (f : A → ℕ) (xs : List A) (p : ℕ) → list_any (λ x. f x == p) xs ≡ true → IsIn p (map f xs)
any_named f [] p e = cc
any_named {A = A} f (x ∷ xs) p e =
    go (or_cases (list_any (λ (y : A). f y == p) (x ∷ [])) (list_any (λ (y : A). f y == p) xs) (sym (list_any-append (λ (y : A). f y == p) (x ∷ []) xs) ∙ e))
    (λ h. any_named f xs p h)
  where
    go : (list_any (λ (y : A). f y == p) (x ∷ []) ≡ true) ⊎ (list_any (λ (y : A). f y == p) xs ≡ true)
        → (list_any (λ (y : A). f y == p) xs ≡ true → IsIn p (map f xs)) → (f x ≡ p) ⊎ IsIn p (map f xs)
    go (inl here) ih = inl (eqb-true (f x) p (sym (or-false (f x == p)) ∙ here))
    go (inr later) ih = inr (ih later)

one_if_true : (b : Bool) → 0 < (if b then suc zero else zero) → b ≡ true
one_if_true true lt = refl
one_if_true false lt = absurd (omega arith)

map_same : (xs : List ℕ) → map (λ x. x) xs ≡ xs
map_same [] = refl
map_same (x ∷ xs) = ap (λ (ys : List ℕ). x ∷ ys) (map_same xs)

-- what is declared is named
pub declared_named : (decl : Decl) (p : ℕ) → 0 < weight decl p → IsIn p (named decl)
declared_named (Decl.Set micros) p lt =
    subst (λ (xs : List ℕ). IsIn p xs) (map_same micros) (any_named (λ (q : ℕ). q) micros p (one_if_true (declares (Decl.Set micros) p) lt))
declared_named (Decl.Bound bounds) p lt = bound_named bounds p lt
declared_named (Decl.Route vertices roots edges) p lt =
    any_named (λ (v : HandlerId). v.micro.0) vertices p (one_if_true (declares (Decl.Route vertices roots edges) p) lt)

-- some declared microprotocol among these isn't past, or all are
pub record IsShort (decl : Decl) (private local : ℕ → ℕ) (p : ℕ) : Type 0 where
  pub declared : 0 < weight decl p
  pub short : local p < private p

some_short : (decl : Decl) (private local : ℕ → ℕ) (ps : List ℕ)
    → ((p : ℕ) × IsShort decl private local p) ⊎ ((p : ℕ) → IsIn p ps → 0 < weight decl p → private p ≤ local p)
some_short decl private local [] = inr (λ p no lt. absurd no)
some_short decl private local (q ∷ qs) =
    go (some_short decl private local qs) (in_order (local q) (private q)) (cases_eq (weight decl q) zero)
  where
    past : private q ≤ local q → ((p : ℕ) → IsIn p qs → 0 < weight decl p → private p ≤ local p)
        → (p : ℕ) → IsIn p (q ∷ qs) → 0 < weight decl p → private p ≤ local p
    past le rest p (inl e) lt = subst (λ (x : ℕ). private x ≤ local x) e le
    past le rest p (inr i) lt = rest p i lt

    free : weight decl q ≡ zero → ((p : ℕ) → IsIn p qs → 0 < weight decl p → private p ≤ local p)
        → (p : ℕ) → IsIn p (q ∷ qs) → 0 < weight decl p → private p ≤ local p
    free none rest p (inl e) lt = let same : weight decl q ≡ weight decl p = ap (λ (x : ℕ). weight decl x) e in absurd (omega arith)
    free none rest p (inr i) lt = rest p i lt

    go : ((p : ℕ) × IsShort decl private local p) ⊎ ((p : ℕ) → IsIn p qs → 0 < weight decl p → private p ≤ local p)
        → (local q < private q) ⊎ ((local q ≡ private q) ⊎ (private q < local q)) → (weight decl q ≡ zero) ⊎ (weight decl q ≢ zero)
        → ((p : ℕ) × IsShort decl private local p) ⊎ ((p : ℕ) → IsIn p (q ∷ qs) → 0 < weight decl p → private p ≤ local p)
    go (inl found) o w = inl found
    go (inr rest) o (inl none) = inr (free none rest)
    go (inr rest) (inl lt) (inr some) = inl (q, record { declared = omega arith; short = lt })
    go (inr rest) (inr (inl e)) (inr some) = inr (past (omega arith) rest)
    go (inr rest) (inr (inr gt)) (inr some) = inr (past (omega arith) rest)

-- the least open computation: every slot that it declares has come to it, or is past
came : (P : Play) (core : Core) (k p : ℕ) → Invariant P core → IsLeastOpen core k → 0 < weight (P.decl k) p → version P k (P.node k) p ≤ core.local (P.node k) p
came P core k p i least w =
    let lt : k < core.count = least.admitted in
    all_before_past P (core.local (P.node k) p) k (P.node k) p
    (λ j below e wj. let d : IsDone P core j = i.ended j (omega arith) (least.before j below) in
    subst (λ (u : ℕ). version P (suc j) u p ≤ core.local u p) (sym e) (d.past p wj))

has_turn : (P : Play) (core : Core) (k p : ℕ) → Invariant P core → IsLeastOpen core k → 0 < weight (P.decl k) p
    → core.local (P.node k) p < core.private k (P.node k) p → HasTurn P core k p
has_turn P core k p i least w short =
    let low = i.booked.from k (P.node k) p least.admitted in
    let here : version P k (P.node k) p ≤ core.local (P.node k) p = came P core k p i least w in
    record { admitted = least.admitted; turn = record { from = omega arith; below = short } }

-- with nothing left, a release or the end is due
pub idle_goes_on : (P : Play) (core : Core) (k : ℕ) → Invariant P core → IsLeastOpen core k → (core.comp k).active ≡ []
    → ((p : ℕ) × CanRelease P core k p) ⊎ CanEnd P core k
idle_goes_on P core k i least none =
    go (some_short (P.decl k) (core.private k (P.node k)) (core.local (P.node k)) (named (P.decl k)))
  where
    idle : IsIdle (core.comp k)
    idle = record { active = none; waiting = ap (λ (c : Computation). c.waiting) (idle_is_whole P core k i least.admitted none) }

    quiet : (p : ℕ) → Quiet (P.decl k) (core.table k) (core.comp k) p
    quiet p =
        let m : Meets P k = meets P k in
        let is : core.comp k ≡ (point P k (core.made k)).comp = i.calls.comp k least.admitted in
        let there : Quiet (P.decl k) (table_of P k) (point P k (core.made k)).comp p = m.rest (core.made k) p (subst (λ (c : Computation). IsIdle c) is idle) in
        subst (λ (t : Table). Quiet (P.decl k) t (core.comp k) p) (sym (i.booked.table k least.admitted))
        (subst (λ (c : Computation). Quiet (P.decl k) (table_of P k) c p) (sym is) there)

    go : ((p : ℕ) × IsShort (P.decl k) (core.private k (P.node k)) (core.local (P.node k)) p)
        ⊎ ((p : ℕ) → IsIn p (named (P.decl k)) → 0 < weight (P.decl k) p → core.private k (P.node k) p ≤ core.local (P.node k) p)
        → ((p : ℕ) × CanRelease P core k p) ⊎ CanEnd P core k
    go (inl found) =
        let s : IsShort (P.decl k) (core.private k (P.node k)) (core.local (P.node k)) found.0 = found.1 in
        inl (found.0, record { turn = has_turn P core k found.0 i least s.declared s.short; quiet = quiet found.0 })
    go (inr past) =
        inr (record {
          admitted = least.admitted;
          not_ended = least.here;
          idle = idle;
          past = λ p w. past p (declared_named (P.decl k) p w) w;
        })

-- at its next handler step a computation is out nowhere, if the box there is home
out_nowhere : (P : Play) (core : Core) (k p : ℕ) → Invariant P core → IsNextAt (core.comp k) p → core.out (P.node k) p ≡ None → (v q : ℕ) → core.out v q ≢ Some k
out_nowhere P core k p i n home v q e =
    let o : IsOutRightly P core v q k = i.out v q k e in
    let m : IsNextAt (point P k (core.made k)).comp q = o.next in
    let there : next_step (point P k (core.made k)).comp ≡ Some (n.call, n.moment) = sym (ap next_step (i.calls.comp k o.admitted)) ∙ n.next in
    let X : Type 0 = Call × Moment in
    let x : X = (m.call, m.moment) in
    let y : X = (n.call, n.moment) in
    let same : x ≡ y = some_injective {A = X} x y (sym m.next ∙ there) in
    let slot : q ≡ p = sym m.is_at ∙ (ap (λ (z : Call × Moment). z.0.handler.micro.0) same ∙ n.is_at) in
    let at_home : core.out v q ≡ None = ap (λ (u : ℕ). core.out u q) o.node ∙ (ap (λ (r : ℕ). core.out (P.node k) r) slot ∙ home) in
    let no : Some k ≡ None = sym e ∙ at_home in
    cc

-- so it can enter the box where it has its turn
pub can_enter : (P : Play) (core : Core) (k p : ℕ) → Invariant P core → IsNextAt (core.comp k) p → HasTurn P core k p → core.out (P.node k) p ≡ None → core.stopped ≡ false
    → CanEnter P core k p
can_enter P core k p i n turn home running = record { next = n; not_out = out_nowhere P core k p i n home; turn = turn; home = home; running = running }

-- an active call whose box is home can enter it
pub active_enters : (P : Play) (core : Core) (k : ℕ) → Invariant P core → IsLeastOpen core k → core.stopped ≡ false
    → (next : (p : ℕ) × IsNextAt (core.comp k) p) → core.out (P.node k) next.0 ≡ None → CanEnter P core k next.0
active_enters P core k i least running next home =
    let n : IsNextAt (core.comp k) next.0 = next.1 in
    let is : core.comp k ≡ (point P k (core.made k)).comp = i.calls.comp k least.admitted in
    let there : next_step (point P k (core.made k)).comp ≡ Some (n.call, n.moment) = sym (ap next_step is) ∙ n.next in
    let m : Meets P k = meets P k in
    let w : 0 < weight (P.decl k) next.0 = subst (λ (q : ℕ). 0 < weight (P.decl k) q) n.is_at (m.declared (core.made k) n.call n.moment there) in
    can_enter P core k next.0 i n
    (has_turn P core k next.0 i least w (not_past w there n.is_at (in_order (core.local (P.node k) next.0) (core.private k (P.node k) next.0))))
    home running
  where
    not_past : {c : Call} {m : Moment} → 0 < weight (P.decl k) next.0 → next_step (point P k (core.made k)).comp ≡ Some (c, m) → c.handler.micro.0 ≡ next.0
        → (core.local (P.node k) next.0 < core.private k (P.node k) next.0)
        ⊎ ((core.local (P.node k) next.0 ≡ core.private k (P.node k) next.0) ⊎ (core.private k (P.node k) next.0 < core.local (P.node k) next.0))
        → core.local (P.node k) next.0 < core.private k (P.node k) next.0
    not_past {c} {m} w e is (inl lt) = lt
    not_past {c} {m} w e is (inr past) =
        let private_is : core.private k (P.node k) next.0 ≡ version P (suc k) (P.node k) next.0 = i.booked.private k (P.node k) next.0 least.admitted in
        let le : core.private k (P.node k) next.0 ≤ core.local (P.node k) next.0 = up past in
        let never : Never (attempts P k) (point P k (core.made k)).comp next.0 = i.no_more k next.0 least.admitted w (omega arith) in
        absurd (never [] c m e is)
      where
        up : (core.local (P.node k) next.0 ≡ core.private k (P.node k) next.0) ⊎ (core.private k (P.node k) next.0 < core.local (P.node k) next.0)
            → core.private k (P.node k) next.0 ≤ core.local (P.node k) next.0
        up (inl e) = omega arith
        up (inr lt) = omega arith

-- one of the first n is open, or all of them have ended
some_open : (ended : ℕ → Bool) (n : ℕ) → ((k : ℕ) × (k < n) × (ended k ≡ false) × ((j : ℕ) → j < k → ended j ≡ true)) ⊎ ((k : ℕ) → k < n → ended k ≡ true)
some_open ended zero = inr (λ k lt. absurd (omega arith))
some_open ended (suc n) = go (some_open ended n) (ended n) refl
  where
    go : ((k : ℕ) × (k < n) × (ended k ≡ false) × ((j : ℕ) → j < k → ended j ≡ true)) ⊎ ((k : ℕ) → k < n → ended k ≡ true) → (b : Bool) → ended n ≡ b
        → ((k : ℕ) × (k < suc n) × (ended k ≡ false) × ((j : ℕ) → j < k → ended j ≡ true)) ⊎ ((k : ℕ) → k < suc n → ended k ≡ true)
    go (inl found) b e = let lt : found.0 < n = found.1 in inl (found.0, omega arith, found.2, found.3)
    go (inr all) false e = inl (n, omega arith, e, all)
    go (inr all) true e = inr (λ k lt. pick k lt (cases_eq k n))
      where
        pick : (k : ℕ) → k < suc n → (k ≡ n) ⊎ (k ≢ n) → ended k ≡ true
        pick k lt (inl is) = ap ended is ∙ e
        pick k lt (inr ne) = all k (omega arith)

pub open_or_ended : (core : Core) → ((k : ℕ) × IsLeastOpen core k) ⊎ AllEnded core
open_or_ended core = go (some_open core.ended core.count)
  where
    go : ((k : ℕ) × (k < core.count) × (core.ended k ≡ false) × ((j : ℕ) → j < k → core.ended j ≡ true)) ⊎ ((k : ℕ) → k < core.count → core.ended k ≡ true)
        → ((k : ℕ) × IsLeastOpen core k) ⊎ AllEnded core
    go (inl f) = inl (f.0, record { admitted = f.1; here = f.2; before = f.3 })
    go (inr all) = inr all

pub head_next : (P : Play) (core : Core) (k : ℕ) → Invariant P core → k < core.count → ((core.comp k).active ≡ []) ⊎ ((p : ℕ) × IsNextAt (core.comp k) p)
head_next P core k i lt = go (some_or_none (next_step (core.comp k)))
  where
    is : core.comp k ≡ (point P k (core.made k)).comp
    is = i.calls.comp k lt

    go : (next_step (core.comp k) ≡ None) ⊎ ((y : Call × Moment) × (next_step (core.comp k) ≡ Some y)) → ((core.comp k).active ≡ []) ⊎ ((p : ℕ) × IsNextAt (core.comp k) p)
    go (inl none) = inl (ap (λ (c : Computation). c.active) is ∙ head_due P k (core.made k) (sym (ap next_step is) ∙ none))
    go (inr some) = inr (some.0.0.handler.micro.0, record { call = some.0.0; moment = some.0.1; next = some.1; is_at = refl })

-- where not all have ended and no step was abandoned, a step goes on: an enter, a leave, a release or an end
pub goes_on : (P : Play) (core : Core) (k : ℕ) → Invariant P core → core.stopped ≡ false → IsLeastOpen core k → (step : Step) × IsForward step × IsEnabled P core step
goes_on P core k i running least = go (head_next P core k i least.admitted)
  where
    entering : (next : (p : ℕ) × IsNextAt (core.comp k) p) → (core.out (P.node k) next.0 ≡ None) ⊎ ((j : ℕ) × (core.out (P.node k) next.0 ≡ Some j))
        → (step : Step) × IsForward step × IsEnabled P core step
    entering next (inl home) = (Step.Enter k next.0, tt, active_enters P core k i least running next home)
    entering next (inr out) =
        let o : IsOutRightly P core (P.node k) next.0 out.0 = i.out (P.node k) next.0 out.0 out.1 in
        (Step.Leave out.0, tt, record { slot = next.0; out = record { admitted = o.admitted; out = ap (λ (v : ℕ). core.out v next.0) (sym o.node) ∙ out.1 } })

    due : ((p : ℕ) × CanRelease P core k p) ⊎ CanEnd P core k → (step : Step) × IsForward step × IsEnabled P core step
    due (inl r) = (Step.Release k r.0, tt, r.1)
    due (inr e) = (Step.End k, tt, e)

    go : ((core.comp k).active ≡ []) ⊎ ((p : ℕ) × IsNextAt (core.comp k) p) → (step : Step) × IsForward step × IsEnabled P core step
    go (inl none) = due (idle_goes_on P core k i least none)
    go (inr next) = entering next (some_or_none (core.out (P.node k) next.0))

-- in a settled core with nothing out the least open computation can enter
pub least_enters : (P : Play) (core : Core) (k : ℕ) → Invariant P core → core.stopped ≡ false → IsSettled P core → NothingOut core → IsLeastOpen core k → (p : ℕ) × CanEnter P core k p
least_enters P core k i running settled home least = go (head_next P core k i least.admitted)
  where
    due : ((p : ℕ) × CanRelease P core k p) ⊎ CanEnd P core k → ⊥
    due (inl r) = settled.released k r.0 r.1
    due (inr e) = settled.ended k e

    go : ((core.comp k).active ≡ []) ⊎ ((p : ℕ) × IsNextAt (core.comp k) p) → (p : ℕ) × CanEnter P core k p
    go (inl none) = absurd (due (idle_goes_on P core k i least none))
    go (inr next) = (next.0, active_enters P core k i least running next (home (P.node k) next.0))

some_none : {A : Type 0} (x : A) → Some x ≡ None → ⊥
some_none x e = cc

-- an ended computation enters nowhere
pub ended_stays : (P : Play) (core : Core) (k p : ℕ) → Invariant P core → core.ended k ≡ true → CanEnter P core k p → ⊥
ended_stays P core k p i e can =
    let lt : k < core.count = can.turn.admitted in
    let d : IsDone P core k = i.ended k lt e in
    let none : (core.comp k).active ≡ [] = ap (λ (c : Computation). c.active) (i.calls.comp k lt) ∙ d.idle.active in
    let n : IsNextAt (core.comp k) p = can.next in
    let no : next_step (core.comp k) ≡ None = ap (λ (xs : List Active). next_of xs) none in
    some_none {A = Call × Moment} (n.call, n.moment) (sym n.next ∙ no)

-- nobody enters exactly where all have ended
pub none_enters-ended : (P : Play) (core : Core) → Invariant P core → AllEnded core → NoneEnters P core
none_enters-ended P core i all k p can = ended_stays P core k p i (all k can.turn.admitted) can

pub ended-none_enters : (P : Play) (core : Core) → Invariant P core → core.stopped ≡ false → IsSettled P core → NothingOut core → NoneEnters P core → AllEnded core
ended-none_enters P core i running settled home none = go (open_or_ended core)
  where
    go : ((k : ℕ) × IsLeastOpen core k) ⊎ AllEnded core → AllEnded core
    go (inl found) = let can : (p : ℕ) × CanEnter P core found.0 p = least_enters P core found.0 i running settled home found.1 in absurd (none found.0 can.0 can.1)
    go (inr all) = all

pub ended_or_goes_on : (P : Play) (core : Core) → Invariant P core → core.stopped ≡ false → AllEnded core ⊎ ((step : Step) × IsForward step × IsEnabled P core step)
ended_or_goes_on P core i running = go (open_or_ended core)
  where
    go : ((k : ℕ) × IsLeastOpen core k) ⊎ AllEnded core → AllEnded core ⊎ ((step : Step) × IsForward step × IsEnabled P core step)
    go (inl found) = inr (goes_on P core found.0 i running found.1)
    go (inr all) = inl all
