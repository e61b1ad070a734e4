-- Each enabled step keeps the invariant.
use Rattle.std.proofs.Common.{arith, ◌≡◌, ◌≢◌, ℕ, zero, suc, ◌+◌, ◌≤◌, ◌<◌, ◌⊎◌, inl, inr, refl, sym, ap, ◌∙◌, subst, Bool, true, false, Some, None, Option, [], if◌then◌else◌}
use Rattle.samoa_serial.specs.declared.call.Call.{Call}
use Rattle.samoa_model.specs.declared.handler.Moment.{Moment}
use Rattle.samoa_model.specs.declared.handler.Outcome.{Outcome}
use Rattle.samoa_serial.specs.State.{State}
use Rattle.samoa_serial.specs.Calls.{Computation, take_outcome}
use Rattle.samoa_model.specs.Scripts.{Table}
use Rattle.samoa_serial.specs.World.{attempts_of}
use Rattle.samoa_serial.specs.Alone.{Machine, next_step, turn_of}
use Rattle.samoa_invariant.specs.Slots.{put_at}
use Rattle.samoa_serial.proofs.Point.{turn_is, IsNext, leave_is_next}
use Rattle.samoa_model.specs.Allowed.{weight}
use Rattle.samoa_invariant.specs.Play.{Play, version, is_bound, rules, attempts, opened, point, table_of, ends_call, NotAt, Never, NotYet, done, IsIdle}
use Rattle.samoa_invariant.specs.State.{Core, Step, Quiet, put, raise, enter, leave_at, leave_next, abandon, abandon_next, release, finish, made_by, IsNextAt, CanEnter, CanLeave, CanRelease, CanEnd, IsEnabled}
use Rattle.samoa_invariant.specs.Inv.{Meets, Owns, Invariant, OutRightly, IsOutRightly, IsDone, EndedRightly}
use Rattle.std.proofs.lemmas.Bool.{cases_eq}
use Rattle.samoa_invariant.proofs.preservation.Versions.{if_here, version-own, owns_single}
use Rattle.samoa_invariant.proofs.refinement.Points.{some_or_none, Apart, apart_of, done-append, next_within}
use Rattle.samoa_invariant.proofs.preservation.Slots.{put_at-here, put_at-else, put-here, put-else, slot_or_not, turn_owns}
use Rattle.samoa_invariant.proofs.preservation.Admits.{admit_keeps}
use Rattle.samoa_invariant.proofs.preservation.Moves.{moved_keeps}

-- only the calls that are out change
out_changes : (P : Play) (core core' : Core) → Invariant P core
    → core' ≡ record core { out = core'.out; stopped = core'.stopped } → OutRightly P core' → Invariant P core'
out_changes P core core' i e o =
    subst (λ (x : Core). Invariant P x) (sym e) (record {
      booked = record { present = i.booked.present; table = i.booked.table; from = i.booked.from; private = i.booked.private };
      versions = record { global = i.versions.global; local = i.versions.local; counted = i.versions.counted };
      not_yet = i.not_yet;
      no_more = i.no_more;
      out = subst (λ (x : Core). OutRightly P x) e o;
      boxes = record { owned = i.boxes.owned; idle = i.boxes.idle };
      calls = record { comp = i.calls.comp; made = i.calls.made };
      ended = λ k lt d. let h : IsDone P core k = i.ended k lt d in record { idle = h.idle; past = h.past };
    })

pub some_injective : {A : Type 0} (x y : A) → Some x ≡ Some y → x ≡ y
some_injective x y e = cc

abandon_keeps : (P : Play) (core : Core) (k p : ℕ) → Invariant P core → Invariant P (abandon P core k p)
abandon_keeps P core k p i = out_changes P core (abandon P core k p) i refl out
  where
    out : OutRightly P (abandon P core k p)
    out v q j e = go (slot_or_not v (P.node k) q p)
      where
        go : ((v ≡ P.node k) × (q ≡ p)) ⊎ ((v ≢ P.node k) ⊎ (q ≢ p)) → IsOutRightly P (abandon P core k p) v q j
        go (inl here) = absurd (let no : None ≡ Some j = sym (put_at-here {A = Option ℕ} core.out (P.node k) p v q None here.0 here.1) ∙ e in cc)
        go (inr there) =
            let o : IsOutRightly P core v q j = i.out v q j (sym (put_at-else {A = Option ℕ} core.out (P.node k) p v q None there) ∙ e) in
            record { admitted = o.admitted; node = o.node; owns = o.owns; next = o.next }

abandon_next_keeps : (P : Play) (core : Core) (k : ℕ) (x : Option (Call × Moment)) → Invariant P core → Invariant P (abandon_next P core k x)
abandon_next_keeps P core k None i = out_changes P core (abandon_next P core k None) i refl (λ v p j e. let o : IsOutRightly P core v p j = i.out v p j e in record { admitted = o.admitted; node = o.node; owns = o.owns; next = o.next })
abandon_next_keeps P core k (Some next) i = abandon_keeps P core k next.0.handler.micro.0 i

pub enter_keeps : (P : Play) (core : Core) (k p : ℕ) → Invariant P core → CanEnter P core k p → Invariant P (enter P core k p)
enter_keeps P core k p i can = out_changes P core (enter P core k p) i refl out
  where
    mine : IsOutRightly P (enter P core k p) (P.node k) p k
    mine = record {
      admitted = can.turn.admitted;
      node = refl;
      owns = turn_owns P core k p i can.turn;
      next = subst (λ (c : Computation). IsNextAt c p) (i.calls.comp k can.turn.admitted) can.next;
    }

    out : OutRightly P (enter P core k p)
    out v q j e = go (slot_or_not v (P.node k) q p)
      where
        go : ((v ≡ P.node k) × (q ≡ p)) ⊎ ((v ≢ P.node k) ⊎ (q ≢ p)) → IsOutRightly P (enter P core k p) v q j
        go (inl here) =
            let same : k ≡ j = some_injective k j (sym (put_at-here {A = Option ℕ} core.out (P.node k) p v q (Some k) here.0 here.1) ∙ e) in
            subst (λ (u : ℕ). IsOutRightly P (enter P core k p) u q j) (sym here.0)
            (subst (λ (r : ℕ). IsOutRightly P (enter P core k p) (P.node k) r j) (sym here.1)
            (subst (λ (h : ℕ). IsOutRightly P (enter P core k p) (P.node k) p h) same mine))
        go (inr there) =
            let o : IsOutRightly P core v q j = i.out v q j (sym (put_at-else {A = Option ℕ} core.out (P.node k) p v q (Some k) there) ∙ e) in
            record { admitted = o.admitted; node = o.node; owns = o.owns; next = o.next }

pub end_keeps : (P : Play) (core : Core) (k : ℕ) → Invariant P core → CanEnd P core k → Invariant P (finish core k)
end_keeps P core k i can = record {
  booked = record { present = i.booked.present; table = i.booked.table; from = i.booked.from; private = i.booked.private };
  versions = record { global = i.versions.global; local = i.versions.local; counted = i.versions.counted };
  not_yet = i.not_yet;
  no_more = i.no_more;
  out = λ v q j e. let o : IsOutRightly P core v q j = i.out v q j e in record { admitted = o.admitted; node = o.node; owns = o.owns; next = o.next };
  boxes = record { owned = i.boxes.owned; idle = i.boxes.idle };
  calls = record { comp = i.calls.comp; made = i.calls.made };
  ended = ended;
}
  where
    ended : EndedRightly P (finish core k)
    ended j lt e = go (cases_eq j k)
      where
        go : (j ≡ k) ⊎ (j ≢ k) → IsDone P (finish core k) j
        go (inl same) = subst (λ (h : ℕ). IsDone P (finish core k) h) (sym same) (record {
          idle = subst (λ (c : Computation). IsIdle c) (i.calls.comp k can.admitted) can.idle;
          past = λ p w. subst (λ (x : ℕ). x ≤ core.local (P.node k) p) (i.booked.private k (P.node k) p can.admitted) (can.past p w);
        })
        go (inr ne) =
            let d : IsDone P core j = i.ended j lt (sym (put-else {A = Bool} core.ended k j true ne) ∙ e) in record { idle = d.idle; past = d.past }

clear_keeps : (P : Play) (core : Core) → Invariant P core → Invariant P (record core { cells = zero })
clear_keeps P core i = record {
  booked = record { present = i.booked.present; table = i.booked.table; from = i.booked.from; private = i.booked.private };
  versions = record { global = i.versions.global; local = i.versions.local; counted = i.versions.counted };
  not_yet = i.not_yet;
  no_more = i.no_more;
  out = λ v q j e. let o : IsOutRightly P core v q j = i.out v q j e in record { admitted = o.admitted; node = o.node; owns = o.owns; next = o.next };
  boxes = record { owned = i.boxes.owned; idle = i.boxes.idle };
  calls = record { comp = i.calls.comp; made = i.calls.made };
  ended = λ k lt d. let h : IsDone P core k = i.ended k lt d in record { idle = h.idle; past = h.past };
}

-- a slot of k's own, at other names
own_box : (P : Play) (core : Core) (k p : ℕ) → Invariant P core → k < core.count → Owns P (core.local (P.node k) p) k (P.node k) p
    → (v q : ℕ) → v ≡ P.node k → q ≡ p → core.boxes v q ≡ (point P k (core.made k)).states p
own_box P core k p i lt owns v q e g =
    ap (λ (u : ℕ). core.boxes u q) e ∙ (ap (λ (r : ℕ). core.boxes (P.node k) r) g ∙ i.boxes.owned k p lt owns)

-- where nothing comes at p any more, the box is home
home : (P : Play) (core : Core) (k p : ℕ) → Invariant P core → Owns P (core.local (P.node k) p) k (P.node k) p
    → NotAt (point P k (core.made k)).comp p → (v q : ℕ) → v ≡ P.node k → q ≡ p → core.out v q ≡ None
home P core k p i owns not_at v q e g = go (some_or_none (core.out v q))
  where
    go : (core.out v q ≡ None) ⊎ ((j : ℕ) × (core.out v q ≡ Some j)) → core.out v q ≡ None
    go (inl none) = none
    go (inr some) =
        let j : ℕ = some.0 in
        let at_p : core.out (P.node k) p ≡ Some j = ap (λ (r : ℕ). core.out (P.node k) r) (sym g) ∙ (ap (λ (u : ℕ). core.out u q) (sym e) ∙ some.1) in
        let o : IsOutRightly P core (P.node k) p j = i.out (P.node k) p j at_p in
        let same : j ≡ k = owns_single P (core.local (P.node k) p) j k (P.node k) p o.owns owns in
        let next : IsNextAt (point P k (core.made k)).comp p = subst (λ (h : ℕ). IsNextAt (point P h (core.made h)).comp p) same o.next in
        absurd (not_at next.call next.moment next.next next.is_at)

pub release_keeps : (P : Play) (core : Core) (k p : ℕ) → ((j : ℕ) → Meets P j) → Invariant P core → CanRelease P core k p → Invariant P (release P core k p)
release_keeps P core k p meets i can =
    let lt : k < core.count = can.turn.admitted in
    let owns : Owns P (core.local (P.node k) p) k (P.node k) p = turn_owns P core k p i can.turn in
    let below : core.local (P.node k) p < version P (suc k) (P.node k) p = owns.below in
    let x : ℕ = core.private k (P.node k) p in
    let is : x ≡ version P (suc k) (P.node k) p = i.booked.private k (P.node k) p lt in
    let quiet : Quiet (P.decl k) (table_of P k) (point P k (core.made k)).comp p =
    subst (λ (t : Table). Quiet (P.decl k) t (point P k (core.made k)).comp p) (i.booked.table k lt)
    (subst (λ (c : Computation). Quiet (P.decl k) (core.table k) c p) (i.calls.comp k lt) can.quiet) in
    let m : Meets P k = meets k in
    let never : Never (attempts P k) (point P k (core.made k)).comp p = m.sound (core.made k) p quiet in
    moved_keeps P core (put_at core.local (P.node k) p x) core.boxes core.out core.comp core.made k p x (core.made k) meets i (record {
      local_here = λ v q e g. put_at-here {A = ℕ} core.local (P.node k) p v q x e g;
      local_else = λ v q there. put_at-else {A = ℕ} core.local (P.node k) p v q x there;
      box_here = own_box P core k p i lt owns;
      box_else = λ v q there. refl;
      out_here = home P core k p i owns (never []);
      out_else = λ v q there. refl;
      comp_here = i.calls.comp k lt;
      comp_else = λ j ne. refl;
      made_here = refl;
      made_else = λ j ne. refl;
      admitted = lt;
      owns = owns;
      up = omega arith;
      most = omega arith;
      within = i.calls.made k lt;
      counted = λ b less. absurd (omega arith);
      never = λ _. never;
      others = λ q ne. record { states = refl; done = refl; never = λ h. h };
      not_yet = λ q ne h. h;
      out_kept = λ q ne e. let o : IsOutRightly P core (P.node k) q k = i.out (P.node k) q k e in o.next;
    })

pub ends_call-most : (o : Outcome) → ends_call o ≤ suc zero
ends_call-most (Outcome.Done reply) = omega arith
ends_call-most (Outcome.Call event arg frame) = omega arith
ends_call-most (Outcome.Later event arg frame) = omega arith
ends_call-most (Outcome.Send to event arg frame) = omega arith
ends_call-most (Outcome.Deliver arg frame) = omega arith
ends_call-most (Outcome.Change change arg frame) = omega arith

pub if_most : (b : Bool) (x : ℕ) → x ≤ suc zero → (if b then x else zero) ≤ suc zero
if_most true x le = le
if_most false x le = omega arith

if_some : (b : Bool) (x : ℕ) → 0 < (if b then x else zero) → b ≡ true
if_some true x lt = refl
if_some false x lt = absurd (omega arith)

if_true : (b : Bool) (x : ℕ) → b ≡ true → (if b then x else zero) ≡ x
if_true true x e = refl
if_true false x e = cc

not_at_next : (comp : Computation) (c : Call) (m : Moment) (q : ℕ) → next_step comp ≡ Some (c, m) → c.handler.micro.0 ≢ q → NotAt comp q
not_at_next comp c m q e ne = λ c' m' e' is.
    let X : Type 0 = Call × Moment in
    let a : X = (c, m) in
    let b : X = (c', m') in
    let same : a ≡ b = some_injective {A = X} a b (sym e ∙ e') in
    ne (ap (λ (y : Call × Moment). y.0.handler.micro.0) same ∙ is)

done_next : (P : Play) (k n : ℕ) (c : Call) (m : Moment) → next_step (point P k n).comp ≡ Some (c, m)
    → done (point P k (suc n)).turns c.handler.micro.0
    ≡ done (point P k n).turns c.handler.micro.0 + ends_call (P.step k c.handler.micro ((point P k n).states c.handler.micro.0) m).1
done_next P k n c m e =
    let p : ℕ = c.handler.micro.0 in
    let o : Outcome = (P.step k c.handler.micro ((point P k n).states p) m).1 in
    ap (λ (x : Machine). done x.turns p) (turn_is (rules P k) (point P k n) c m e)
    ∙ (done-append (point P k n).turns _ p
    ∙ ap (λ (x : ℕ). done (point P k n).turns p + x) (if_here {A = ℕ} p p (ends_call o) zero refl))

leave_at_keeps : (P : Play) (core : Core) (k : ℕ) (c : Call) (m : Moment) → ((j : ℕ) → Meets P j) → Invariant P core → k < core.count
    → Owns P (core.local (P.node k) c.handler.micro.0) k (P.node k) c.handler.micro.0
    → next_step (point P k (core.made k)).comp ≡ Some (c, m) → Invariant P (leave_at P core k c m)
leave_at_keeps P core k c m meets i lt owns next =
    moved_keeps P core (put_at core.local v p x) (put_at core.boxes v p new.0) (put_at core.out v p None)
    (put core.comp k (take_outcome (attempts_of (P.decl k) (core.table k)) (core.comp k) new.1)) (put core.made k (suc n)) k p x (suc n) meets i (record {
      local_here = λ u q e g. put_at-here {A = ℕ} core.local v p u q x e g;
      local_else = λ u q there. put_at-else {A = ℕ} core.local v p u q x there;
      box_here = λ u q e g. put_at-here {A = State} core.boxes v p u q new.0 e g ∙ one.box_is;
      box_else = λ u q there. put_at-else {A = State} core.boxes v p u q new.0 there;
      out_here = λ u q e g. put_at-here {A = Option ℕ} core.out v p u q None e g;
      out_else = λ u q there. put_at-else {A = Option ℕ} core.out v p u q None there;
      comp_here = put-here {A = Computation} core.comp k k _ refl
          ∙ (ap (λ (t : Table). take_outcome (attempts_of (P.decl k) t) (core.comp k) new.1) (i.booked.table k lt) ∙ one.comp_is);
      comp_else = λ j ne. put-else {A = Computation} core.comp k j _ ne;
      made_here = put-here {A = ℕ} core.made k k (suc n) refl;
      made_else = λ j ne. put-else {A = ℕ} core.made k j (suc n) ne;
      admitted = lt;
      owns = owns;
      up = omega arith;
      most = let below : core.local v p < version P (suc k) v p = owns.below in omega (arith, few);
      within = next_within P k n c m next (i.calls.made k lt);
      counted = λ b less. counted b;
      never = λ is. let below : core.local v p < version P (suc k) v p = owns.below in
          let from : version P k v p ≤ core.local v p = owns.from in
          let own : version P (suc k) v p ≡ version P k v p + weight (P.decl k) p = version-own P k p in
          let b : is_bound (P.decl k) ≡ true = if_some (is_bound (P.decl k)) (ends_call new.1) (omega arith) in
          let mk : Meets P k = meets k in
          let now : x ≡ version P k v p + done (point P k (suc n)).turns p = counted b in
          mk.counting (suc n) p b (omega arith) (omega arith);
      others = λ q ne. subst (λ (y : Machine). Apart (attempts P k) (point P k n) y q) (sym is_turn) (apart_of (rules P k) (point P k n) c m q (λ e. ne (sym e)));
      not_yet = λ q ne h. not_yet q ne h;
      out_kept = λ q ne e. let o : IsOutRightly P core v q k = i.out v q k e in
          let nx : IsNextAt (point P k n).comp q = o.next in
          absurd (not_at_next (point P k n).comp c m q next (λ g. ne (sym g)) nx.call nx.moment nx.next nx.is_at);
    })
  where
    v : ℕ
    v = P.node k

    p : ℕ
    p = c.handler.micro.0

    n : ℕ
    n = core.made k

    new : State × Outcome
    new = P.step k c.handler.micro (core.boxes v p) m

    x : ℕ
    x = core.local v p + raise (P.decl k) new.1

    few : raise (P.decl k) new.1 ≤ suc zero
    few = if_most (is_bound (P.decl k)) (ends_call new.1) (ends_call-most new.1)

    box : core.boxes v p ≡ (point P k n).states p
    box = i.boxes.owned k p lt owns

    is_turn : point P k (suc n) ≡ turn_of (rules P k) (point P k n) c m
    is_turn = turn_is (rules P k) (point P k n) c m next

    one : IsNext (rules P k) (opened P k) n (core.comp k) (core.boxes v p) c m
    one = leave_is_next (rules P k) (opened P k) n (core.comp k) (core.boxes v p) c m (i.calls.comp k lt) box (ap next_step (i.calls.comp k lt) ∙ next)

    counted : is_bound (P.decl k) ≡ true → x ≡ version P k v p + done (point P k (suc n)).turns p
    counted b =
        let old : core.local v p ≡ version P k v p + done (point P k n).turns p = i.versions.counted k p lt b owns in
        let up : done (point P k (suc n)).turns p ≡ done (point P k n).turns p + ends_call (P.step k c.handler.micro ((point P k n).states p) m).1 = done_next P k n c m next in
        let same : ends_call new.1 ≡ ends_call (P.step k c.handler.micro ((point P k n).states p) m).1 = ap (λ (s : State). ends_call (P.step k c.handler.micro s m).1) box in
        let by : raise (P.decl k) new.1 ≡ ends_call new.1 = if_true (is_bound (P.decl k)) (ends_call new.1) b in
        omega arith

    not_yet : (q : ℕ) → q ≢ p → NotYet P k n q → NotYet P k (suc n) q
    not_yet q ne h j le = go (cases_eq j n)
      where
        go : (j ≡ n) ⊎ (j ≢ n) → NotAt (point P k j).comp q
        go (inl e) = subst (λ (a : ℕ). NotAt (point P k a).comp q) (sym e) (not_at_next (point P k n).comp c m q next (λ g. ne (sym g)))
        go (inr other) = h j (omega arith)

leave_keeps : (P : Play) (core : Core) (k : ℕ) → ((j : ℕ) → Meets P j) → Invariant P core → CanLeave P core k → Invariant P (leave_next P core k (next_step (core.comp k)))
leave_keeps P core k meets i can =
    let o : IsOutRightly P core (P.node k) can.slot k = i.out (P.node k) can.slot k can.out.out in
    let lt : k < core.count = o.admitted in
    let next : IsNextAt (point P k (core.made k)).comp can.slot = o.next in
    let is : next_step (core.comp k) ≡ Some (next.call, next.moment) = ap next_step (i.calls.comp k lt) ∙ next.next in
    let owns : Owns P (core.local (P.node k) next.call.handler.micro.0) k (P.node k) next.call.handler.micro.0 =
    subst (λ (q : ℕ). Owns P (core.local (P.node k) q) k (P.node k) q) (sym next.is_at) o.owns in
    subst (λ (y : Option (Call × Moment)). Invariant P (leave_next P core k y)) (sym is)
    (leave_at_keeps P core k next.call next.moment meets i lt owns next.next)

-- the main theorem
pub step_keeps : (P : Play) → ((k : ℕ) → Meets P k) → (core : Core) (step : Step) → Invariant P core → IsEnabled P core step → Invariant P (made_by P core step)
step_keeps P meets core Step.Admit i can = admit_keeps P core (meets core.count) i
step_keeps P meets core (Step.Enter k p) i can = enter_keeps P core k p i can
step_keeps P meets core (Step.Leave k) i can = leave_keeps P core k meets i can
step_keeps P meets core (Step.Abandon k) i can = abandon_next_keeps P core k (next_step (core.comp k)) i
step_keeps P meets core (Step.Release k p) i can = release_keeps P core k p meets i can
step_keeps P meets core (Step.End k) i can = end_keeps P core k i can
step_keeps P meets core Step.Clear i can = clear_keeps P core i
