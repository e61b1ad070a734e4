-- Under a bound: completed and active calls are at most the calls made, and these at most the bound.
use Rattle.std.proofs.Common.{arith, ◌≡◌, ◌≢◌, ℕ, zero, suc, ◌+◌, ◌≤◌, ◌<◌, ◌⊎◌, inl, inr, refl, sym, ap, ◌∙◌, subst, Bool, true, false, List, [], ◌∷◌, ◌++◌, map, Option, Some, None, ◌==◌, if◌then◌else◌}
use Rattle.samoa_serial.specs.declared.call.Active.{Active}
use Rattle.samoa_serial.specs.declared.call.Call.{Call}
use Rattle.samoa_serial.specs.declared.call.Due.{Due}
use Rattle.samoa_model.specs.declared.script.Decl.{Decl}
use Rattle.samoa_model.specs.declared.record.Entry.{Entry}
use Rattle.samoa_model.specs.declared.ids.EventId.{EventId}
use Rattle.samoa_model.specs.declared.ids.HandlerId.{HandlerId}
use Rattle.samoa_model.specs.declared.handler.Moment.{Moment}
use Rattle.samoa_model.specs.declared.handler.Outcome.{Outcome}
use Rattle.samoa_model.specs.declared.handler.Reply.{Reply}
use Rattle.samoa_serial.specs.declared.call.Waiting.{Waiting}
use Rattle.samoa_model.specs.Allowed.{Attempt, bound_in, declares, form_refuses, handlers_at, weight}
use Rattle.samoa_serial.specs.World.{attempts_of, calls_from, entry_of, handler_of, noted, stepped}
use Rattle.samoa_serial.specs.Calls.{Computation, take_outcome, take_outcome_at, to_begin}
use Rattle.samoa_serial.specs.Alone.{Machine, next_at, next_of, next_step, turn, turn_of}
use Rattle.samoa_model.specs.Scripts.{Table}
use Rattle.samoa_model.specs.Entries.{calls_at}
use Rattle.samoa_model.proofs.Counts.{calls_at-append, handlers_at-cons, handlers_at-snoc}
use Rattle.samoa_serial.proofs.Lengths.{calls_at-entered}
use Rattle.samoa_serial.proofs.Point.{turn_is}
use Rattle.samoa_invariant.specs.Play.{Play, rules, is_bound, attempts, table_of, point, drive, done, ends_call, Never}
use Rattle.samoa_invariant.specs.State.{Core}
use Rattle.samoa_invariant.specs.Within.{IsWithin, active_at, one_at}
use Rattle.samoa_invariant.specs.Inv.{Invariant}
use Rattle.std.proofs.lemmas.Bool.{cases_eq}
use Rattle.samoa_invariant.proofs.preservation.Versions.{if_here, if_else}
use Rattle.samoa_invariant.proofs.refinement.Points.{some_or_none, turn_still, done-append}
use Rattle.samoa_invariant.proofs.preservation.Steps.{some_injective}
use Rattle.samoa_invariant.proofs.preservation.Closed.{Of, IsPlain, IsClosed, closed_replied, closed_take, closed_drive, closed_start}
use Rattle.samoa_serial.proofs.Declared.{AllActive}
use Rattle.samoa_invariant.proofs.preservation.Accepts.{AllPass, IsAccepted, is_accepted, passed_bound, passed_form, next_is_head}

more_if : (b : Bool) (x y : ℕ) → (if b then x + y + 1 else x + y) ≡ x + (if b then y + 1 else y)
more_if true x y = omega arith
more_if false x y = refl

plain_calls : (e : Entry) (p : ℕ) → IsPlain e → calls_at (e ∷ []) p ≡ zero
plain_calls (Entry.Accepted call caller handler arg) p plain = absurd plain
plain_calls (Entry.Finished call reply) p plain = refl
plain_calls (Entry.Refused caller event refusal) p plain = refl
plain_calls (Entry.Waiting call event arg) p plain = refl
plain_calls (Entry.Sent call to event arg) p plain = refl
plain_calls (Entry.Delivered call micro arg) p plain = refl
plain_calls (Entry.Asked call change arg) p plain = refl

active_at-begun : (arg : List ℕ) (n : ℕ) (hs : List HandlerId) (rest : List Active) (p : ℕ)
    → active_at (to_begin arg (calls_from n hs) ++ rest) p ≡ handlers_at hs p + active_at rest p
active_at-begun arg n [] rest p = let z : handlers_at [] p ≡ zero = refl in omega arith
active_at-begun arg n (g ∷ gs) rest p =
    let ih : active_at (to_begin arg (calls_from (n + 1) gs) ++ rest) p ≡ handlers_at gs p + active_at rest p = active_at-begun arg (n + 1) gs rest p in
    let e : handlers_at (g ∷ gs) p ≡ one_at g p + handlers_at gs p = handlers_at-cons g gs p in
    omega arith

-- if each handler of a list passes its test, the whole list is within the bound
pass_most : (decl : Decl) (es : List Entry) (caller : Option HandlerId) (before hs : List HandlerId) (p : ℕ) → is_bound decl ≡ true
    → AllPass decl es caller before hs → calls_at es p + handlers_at before p ≤ weight decl p
    → calls_at es p + (handlers_at before p + handlers_at hs p) ≤ weight decl p
pass_most decl es caller before [] p b all most = let z : handlers_at [] p ≡ zero = refl in omega arith
pass_most (Decl.Set micros) es caller before (g ∷ gs) p b all most = cc
pass_most (Decl.Route vertices roots edges) es caller before (g ∷ gs) p b all most = cc
pass_most (Decl.Bound bounds) es caller before (g ∷ gs) p b all most =
    let n : ℕ = handlers_at (before ++ g ∷ []) p in
    let snoc : n ≡ handlers_at before p + one_at g p = handlers_at-snoc before g p in
    let e : handlers_at (g ∷ gs) p ≡ one_at g p + handlers_at gs p = handlers_at-cons g gs p in
    let here : calls_at es p + n ≤ bound_in bounds p = test (cases_eq g.micro.0 p) in
    let ih : calls_at es p + (n + handlers_at gs p) ≤ bound_in bounds p = pass_most (Decl.Bound bounds) es caller (before ++ g ∷ []) gs p b all.1 here in
    omega arith
  where
    test : (g.micro.0 ≡ p) ⊎ (g.micro.0 ≢ p) → calls_at es p + handlers_at (before ++ g ∷ []) p ≤ bound_in bounds p
    test (inl is) =
        let both : (declares (Decl.Bound bounds) g.micro.0 ≡ true) × (form_refuses (Decl.Bound bounds) es before caller g ≡ None) = passed_form (Decl.Bound bounds) es caller before g all.0 in
        let below : calls_at es g.micro.0 + handlers_at before g.micro.0 < bound_in bounds g.micro.0 = passed_bound _ _ both.1 in
        let below' : calls_at es p + handlers_at before p < bound_in bounds p = subst (λ (q : ℕ). calls_at es q + handlers_at before q < bound_in bounds q) is below in
        let one : one_at g p ≡ suc zero = if_here {A = ℕ} g.micro.0 p (suc zero) zero is in
        let snoc : handlers_at (before ++ g ∷ []) p ≡ handlers_at before p + one_at g p = handlers_at-snoc before g p in
        omega arith
    test (inr ne) =
        let none : one_at g p ≡ zero = if_else {A = ℕ} g.micro.0 p (suc zero) zero ne in
        let snoc : handlers_at (before ++ g ∷ []) p ≡ handlers_at before p + one_at g p = handlers_at-snoc before g p in
        omega arith

-- d calls at p are completed
pub record Counted (decl : Decl) (p d : ℕ) (active : List Active) (w : List Waiting) (es : List Entry) : Type 0 where
  pub kept : d + active_at active p ≤ calls_at es p
  pub most : calls_at es p ≤ weight decl p

counted_accepted : (decl : Decl) (table : Table) (p d : ℕ) → is_bound decl ≡ true → (es : List Entry) (caller : Option Call) (number : ℕ) (event : EventId) (arg : List ℕ) (g : HandlerId) (gs : List HandlerId)
    (rest : List Active) (w w' : List Waiting) → attempts_of decl table es caller event ≡ Attempt.Accepts g gs → Counted decl p d rest w es
    → (n : ℕ) → Counted decl p d (to_begin arg (calls_from n (g ∷ gs)) ++ rest) w' (es ++ map (entry_of number arg) (calls_from n (g ∷ gs)))
counted_accepted decl table p d b es caller number event arg g gs rest w w' e k n =
    let a : IsAccepted decl table es caller event g gs = is_accepted decl table es caller event g gs e in
    let z : handlers_at [] p ≡ zero = refl in
    let most : calls_at es p ≤ weight decl p = k.most in
    let kept : d + active_at rest p ≤ calls_at es p = k.kept in
    let all : calls_at es p + (handlers_at [] p + handlers_at (g ∷ gs) p) ≤ weight decl p = pass_most decl es (handler_of caller) [] (g ∷ gs) p b a.pass (omega arith) in
    let new : List Entry = map (entry_of number arg) (calls_from n (g ∷ gs)) in
    let append : calls_at (es ++ new) p ≡ calls_at es p + calls_at new p = calls_at-append es new p in
    let more : calls_at new p ≡ handlers_at (g ∷ gs) p = calls_at-entered number arg n (g ∷ gs) p in
    let act : active_at (to_begin arg (calls_from n (g ∷ gs)) ++ rest) p ≡ handlers_at (g ∷ gs) p + active_at rest p = active_at-begun arg n (g ∷ gs) rest p in
    record {
      kept = subst (λ (x : ℕ). d + active_at (to_begin arg (calls_from n (g ∷ gs)) ++ rest) p ≤ x) (sym append)
          (subst (λ (y : ℕ). d + y ≤ calls_at es p + calls_at new p) (sym act) (subst (λ (y : ℕ). d + (handlers_at (g ∷ gs) p + active_at rest p) ≤ calls_at es p + y) (sym more) (omega (arith, kept))));
      most = subst (λ (x : ℕ). x ≤ weight decl p) (sym append) (subst (λ (y : ℕ). calls_at es p + y ≤ weight decl p) (sym more) (omega (arith, all, z)));
    }

counted_closed : (decl : Decl) (table : Table) (p d : ℕ) → is_bound decl ≡ true → IsClosed (attempts_of decl table) (Counted decl p d)
counted_closed decl table p d b = record {
  due = λ c x y rest w es k. record { kept = k.kept; most = k.most };
  drop = λ a rest w es k. let kept : d + (one_at a.call.handler p + active_at rest p) ≤ calls_at es p = k.kept in record { kept = omega arith; most = k.most };
  cut = λ active w es k. let kept : d + active_at active p ≤ calls_at es p = k.kept in record { kept = omega arith; most = k.most };
  noted = λ active w es e plain k.
      let kept : d + active_at active p ≤ calls_at es p = k.kept in
      let most : calls_at es p ≤ weight decl p = k.most in
      let append : calls_at (es ++ e ∷ []) p ≡ calls_at es p + calls_at (e ∷ []) p = calls_at-append es (e ∷ []) p in
      let none : calls_at (e ∷ []) p ≡ zero = plain_calls e p plain in
      record { kept = omega arith; most = omega arith };
  later = λ a rest w es event arg k. record { kept = k.kept; most = k.most };
  called = λ a rest w es event arg h hs e k. counted_accepted decl table p d b es (Some a.call) _ event arg h hs (a ∷ rest) w w e k _;
  woken = λ first w es h hs e k. counted_accepted decl table p d b es (Some first.asker) _ first.event first.arg h hs [] (first ∷ w) w e k _;
  unwoken = λ first w es k. record { kept = k.kept; most = k.most };
}

-- the next handler step is that of the head
pub head_is : (comp : Computation) (c : Call) (m : Moment) → next_step comp ≡ Some (c, m) → (a : Active) × (rest : List Active) × (comp.active ≡ a ∷ rest) × (a.call ≡ c)
head_is comp c m e = go comp.active refl e
  where
    due : (a : Call) (d : Due) → next_at a d ≡ Some (c, m) → a ≡ c
    due a (Due.Next now) eq =
        let X : Type 0 = Call × Moment in
        let x : X = (a, now) in
        let y : X = (c, m) in
        ap (λ (z : Call × Moment). z.0) (some_injective {A = X} x y eq)
    due a (Due.Frame frame) eq = cc

    go : (active : List Active) → comp.active ≡ active → next_of active ≡ Some (c, m) → (a : Active) × (rest : List Active) × (comp.active ≡ a ∷ rest) × (a.call ≡ c)
    go [] is eq = cc
    go (a ∷ rest) is eq = (a, rest, is, due a.call a.due eq)

-- an outcome of the head, which is at p, completes a call where it is Done
counted_take : (decl : Decl) (table : Table) (p d : ℕ) → is_bound decl ≡ true → (comp : Computation) (a : Active) (rest : List Active) → comp.active ≡ a ∷ rest
    → a.call.handler.micro.0 ≡ p → (o : Outcome) → Of (Counted decl p d) comp → Of (Counted decl p (d + ends_call o)) (take_outcome (attempts_of decl table) comp o)
counted_take decl table p d b comp a rest e at_p o k = go o refl
  where
    closed : (x : ℕ) → IsClosed (attempts_of decl table) (Counted decl p x)
    closed x = counted_closed decl table p x b

    same : (x : ℕ) → d ≡ x → Of (Counted decl p x) (take_outcome (attempts_of decl table) comp o)
    same x is = subst (λ (y : ℕ). Of (Counted decl p y) (take_outcome (attempts_of decl table) comp o)) is (closed_take (attempts_of decl table) (Counted decl p d) (closed d) comp o k)

    other : ends_call o ≡ zero → Of (Counted decl p (d + ends_call o)) (take_outcome (attempts_of decl table) comp o)
    other none = same (d + ends_call o) (omega arith)

    ended : (r : List ℕ) → Of (Counted decl p (d + suc zero)) (take_outcome_at (attempts_of decl table) (a ∷ rest) comp.books comp.answer (Outcome.Done r))
    ended r =
        let at_head : Counted decl p d (a ∷ rest) comp.waiting comp.entries = subst (λ (xs : List Active). Counted decl p d xs comp.waiting comp.entries) e k in
        let kept : d + (one_at a.call.handler p + active_at rest p) ≤ calls_at comp.entries p = at_head.kept in
        let one : one_at a.call.handler p ≡ suc zero = if_here {A = ℕ} a.call.handler.micro.0 p (suc zero) zero at_p in
        let cl : IsClosed (attempts_of decl table) (Counted decl p (d + suc zero)) = closed (d + suc zero) in
        closed_replied (attempts_of decl table) (Counted decl p (d + suc zero)) cl (noted comp.books (Entry.Finished a.call.number r)) comp.answer rest (Reply.Words r)
        (cl.noted rest comp.waiting comp.entries (Entry.Finished a.call.number r) tt (record { kept = omega arith; most = at_head.most }))

    go : (x : Outcome) → o ≡ x → Of (Counted decl p (d + ends_call o)) (take_outcome (attempts_of decl table) comp o)
    go (Outcome.Done r) is =
        subst (λ (y : Outcome). Of (Counted decl p (d + ends_call y)) (take_outcome (attempts_of decl table) comp y)) (sym is)
        (subst (λ (xs : List Active). Of (Counted decl p (d + suc zero)) (take_outcome_at (attempts_of decl table) xs comp.books comp.answer (Outcome.Done r))) (sym e) (ended r))
    go (Outcome.Call event arg frame) is = other (ap ends_call is)
    go (Outcome.Later event arg frame) is = other (ap ends_call is)
    go (Outcome.Send to event arg frame) is = other (ap ends_call is)
    go (Outcome.Deliver arg frame) is = other (ap ends_call is)
    go (Outcome.Change change arg frame) is = other (ap ends_call is)

counted_turn : (P : Play) (k p : ℕ) → is_bound (P.decl k) ≡ true → (m : Machine) → Of (Counted (P.decl k) p (done m.turns p)) m.comp
    → Of (Counted (P.decl k) p (done (turn (rules P k) m).turns p)) (turn (rules P k) m).comp
counted_turn P k p b m h = go (some_or_none (next_step m.comp))
  where
    D : Decl
    D = P.decl k

    go : (next_step m.comp ≡ None) ⊎ ((y : Call × Moment) × (next_step m.comp ≡ Some y)) → Of (Counted (P.decl k) p (done (turn (rules P k) m).turns p)) (turn (rules P k) m).comp
    go (inl none) = subst (λ (x : Machine). Of (Counted (P.decl k) p (done x.turns p)) x.comp) (sym (turn_still (rules P k) m none)) h
    go (inr some) = subst (λ (x : Machine). Of (Counted (P.decl k) p (done x.turns p)) x.comp) (sym (turn_is (rules P k) m c moment is)) (at_turn (cases_eq p c.handler.micro.0))
      where
        c : Call
        c = some.0.0

        moment : Moment
        moment = some.0.1

        is : next_step m.comp ≡ Some (c, moment)
        is = some.1

        o : Outcome
        o = (stepped (rules P k) m.states c moment).1

        up : done (turn_of (rules P k) m c moment).turns p ≡ done m.turns p + (if p == c.handler.micro.0 then ends_call o else zero)
        up = done-append m.turns _ p

        at_turn : (p ≡ c.handler.micro.0) ⊎ (p ≢ c.handler.micro.0)
            → Of (Counted (P.decl k) p (done (turn_of (rules P k) m c moment).turns p)) (take_outcome (attempts P k) m.comp o)
        at_turn (inl e) =
            let head : (a : Active) × (rest : List Active) × (m.comp.active ≡ a ∷ rest) × (a.call ≡ c) = head_is m.comp c moment is in
            let by : done m.turns p + ends_call o ≡ done (turn_of (rules P k) m c moment).turns p =
            sym (up ∙ ap (λ (x : ℕ). done m.turns p + x) (if_here {A = ℕ} p c.handler.micro.0 (ends_call o) zero e)) in
            subst (λ (x : ℕ). Of (Counted (P.decl k) p x) (take_outcome (attempts P k) m.comp o)) by
            (counted_take (P.decl k) (table_of P k) p (done m.turns p) b m.comp head.0 head.1 head.2 (ap (λ (x : Call). x.handler.micro.0) head.3 ∙ sym e) o h)
        at_turn (inr ne) =
            let none : (if p == c.handler.micro.0 then ends_call o else zero) ≡ zero = if_else {A = ℕ} p c.handler.micro.0 (ends_call o) zero ne in
            let by : done m.turns p ≡ done (turn_of (rules P k) m c moment).turns p = let u : done (turn_of (rules P k) m c moment).turns p ≡ done m.turns p + (if p == c.handler.micro.0 then ends_call o else zero) = up in omega arith in
            subst (λ (x : ℕ). Of (Counted (P.decl k) p x) (take_outcome (attempts P k) m.comp o)) by
            (closed_take (attempts P k) (Counted (P.decl k) p (done m.turns p)) (counted_closed (P.decl k) (table_of P k) p (done m.turns p) b) m.comp o h)

pub counted_point : (P : Play) (k p : ℕ) → is_bound (P.decl k) ≡ true → (n : ℕ) → Of (Counted (P.decl k) p (done (point P k n).turns p)) (point P k n).comp
counted_point P k p b zero =
    let none : Counted (P.decl k) p zero [] [] [] = record { kept = omega arith; most = omega arith } in
    closed_start (attempts P k) (Counted (P.decl k) p zero) (counted_closed (P.decl k) (table_of P k) p zero b) none
    (λ event arg h hs e. counted_accepted (P.decl k) (table_of P k) p zero b [] None zero event arg h hs [] [] [] e none zero)
    (P.budget k) (P.root k) (P.args k)
counted_point P k p b (suc n) = counted_turn P k p b (point P k n) (counted_point P k p b n)

none_active : (active : List Active) (p : ℕ) → active_at active p ≡ zero → AllActive (λ h. h.micro.0 ≢ p) active
none_active [] p e = tt
none_active (a ∷ rest) p e = (
  (λ is. let one : one_at a.call.handler p ≡ suc zero = if_here {A = ℕ} a.call.handler.micro.0 p (suc zero) zero is in absurd (omega arith)),
  none_active rest p (omega arith),
)

-- where the bound is used up by completed calls, no handler step is at p any more
pub meets_counting : (P : Play) (k n p : ℕ) → is_bound (P.decl k) ≡ true → weight (P.decl k) p ≤ done (point P k n).turns p → Never (attempts P k) (point P k n).comp p
meets_counting P k n p b le os =
    let now : Of (Counted (P.decl k) p (done (point P k n).turns p)) (point P k n).comp = counted_point P k p b n in
    let later : Of (Counted (P.decl k) p (done (point P k n).turns p)) (drive (attempts P k) (point P k n).comp os) =
    closed_drive (attempts P k) (Counted (P.decl k) p (done (point P k n).turns p)) (counted_closed (P.decl k) (table_of P k) p _ b) (point P k n).comp os now in
    let kept : done (point P k n).turns p + active_at (drive (attempts P k) (point P k n).comp os).active p ≤ calls_at (drive (attempts P k) (point P k n).comp os).entries p = later.kept in
    let most : calls_at (drive (attempts P k) (point P k n).comp os).entries p ≤ weight (P.decl k) p = later.most in
    λ c m e. next_is_head (λ h. h.micro.0 ≢ p) (drive (attempts P k) (point P k n).comp os) c m (none_active _ p (omega arith)) e

pub within : (P : Play) (core : Core) (k p : ℕ) → Invariant P core → k < core.count → is_bound (P.decl k) ≡ true → IsWithin P core k p
within P core k p i lt b =
    let at : Of (Counted (P.decl k) p (done (point P k (core.made k)).turns p)) (point P k (core.made k)).comp = counted_point P k p b (core.made k) in
    let now : Of (Counted (P.decl k) p (done (point P k (core.made k)).turns p)) (core.comp k) =
    subst (Of (Counted (P.decl k) p (done (point P k (core.made k)).turns p))) (sym (i.calls.comp k lt)) at in
    record { made = now.kept; most = now.most }
