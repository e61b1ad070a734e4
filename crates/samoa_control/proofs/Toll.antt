-- Each step but an admission lowers what is to come.
use Rattle.std.proofs.Common.{arith, ◌≡◌, ◌≢◌, ℕ, zero, suc, ◌+◌, ◌≤◌, ◌<◌, ◌⊎◌, inl, inr, refl, sym, ap, ◌∙◌, subst, Bool, true, false, Option, Some, None}
use Rattle.samoa_model.specs.declared.handler.Moment.{Moment}
use Rattle.samoa_serial.specs.declared.call.Call.{Call}
use Rattle.samoa_serial.specs.Calls.{Computation}
use Rattle.samoa_serial.specs.Alone.{next_step}
use Rattle.samoa_invariant.specs.Slots.{put_at}
use Rattle.samoa_invariant.specs.Play.{Play, point}
use Rattle.samoa_invariant.specs.Inv.{Invariant, IsOutRightly}
use Rattle.samoa_invariant.specs.State.{CanLeave, Core, IsEnabled, IsNextAt, Step, abandon, abandon_next, enter, home_of, leave_at, leave_next, left, left_of, made_by, not_out_by, sum_to}
use Rattle.samoa_invariant.proofs.measure.Lefts.{not_out-mine, not_out-other, step_fewer}
use Rattle.samoa_invariant.proofs.preservation.Slots.{put-else, put_at-else, put_at-here, slot_or_not}
use Rattle.std.proofs.lemmas.Bool.{cases_eq}
use Rattle.samoa_control.specs.Room.{spare_of, spare_when, to_come}

pub sum-le : (f g : ℕ → ℕ) (n : ℕ) → ((j : ℕ) → j < n → f j ≤ g j) → sum_to f n ≤ sum_to g n
sum-le f g zero h = omega arith
sum-le f g (suc n) h =
    let ih : sum_to f n ≤ sum_to g n = sum-le f g n (λ j lt. h j (omega arith)) in
    let here : f n ≤ g n = h n (omega arith) in
    omega arith

sum-less : (f g : ℕ → ℕ) (n k : ℕ) → k < n → ((j : ℕ) → j < n → f j ≤ g j) → f k + 1 ≤ g k → sum_to f n + 1 ≤ sum_to g n
sum-less f g zero k lt h less = absurd (omega arith)
sum-less f g (suc n) k lt h less = go (cases_eq k n) (λ below. sum-less f g n k below (λ j lt. h j (omega arith)) less)
  where
    here : f n ≤ g n
    here = h n (omega arith)

    go : (k ≡ n) ⊎ (k ≢ n) → (k < n → sum_to f n + 1 ≤ sum_to g n) → sum_to f (suc n) + 1 ≤ sum_to g (suc n)
    go (inl e) before =
        let rest : sum_to f n ≤ sum_to g n = sum-le f g n (λ j lt. h j (omega arith)) in
        let mine : f n + 1 ≤ g n = subst (λ (j : ℕ). f j + 1 ≤ g j) e less in
        omega arith
    go (inr ne) before =
        let ih : sum_to f n + 1 ≤ sum_to g n = before (omega arith) in
        omega arith

sum-more : (f g : ℕ → ℕ) (n k : ℕ) → ((j : ℕ) → j < n → j ≢ k → f j ≤ g j) → f k ≤ g k + 1 → sum_to f n ≤ sum_to g n + 1
sum-more f g zero k h more = omega arith
sum-more f g (suc n) k h more = go (cases_eq k n) (sum-more f g n k (λ j lt no. h j (omega arith) no) more)
  where
    go : (k ≡ n) ⊎ (k ≢ n) → sum_to f n ≤ sum_to g n + 1 → sum_to f (suc n) ≤ sum_to g (suc n) + 1
    go (inl e) ih =
        let rest : sum_to f n ≤ sum_to g n = sum-le f g n (λ j lt. h j (omega arith) (λ is. omega arith)) in
        let mine : f n ≤ g n + 1 = subst (λ (j : ℕ). f j ≤ g j + 1) e more in
        omega arith
    go (inr ne) ih =
        let here : f n ≤ g n = h n (omega arith) (λ is. ne (sym is)) in
        omega arith

pub spare-most : (b : Bool) (home : ℕ) → spare_when b home ≤ 1
spare-most true home = omega arith
spare-most false home = omega arith

spare-running : (b : Bool) (home : ℕ) → b ≡ false → spare_when b home ≡ 1
spare-running b home e = ap (λ (x : Bool). spare_when x home) e

spare-less : (b : Bool) (home other : ℕ) → other ≤ home → spare_when b home ≤ spare_when b other
spare-less true home other le = omega arith
spare-less false home other le = omega arith

spare-stopped : (b : Bool) (home other : ℕ) → other ≤ home → spare_when true home ≤ spare_when b other
spare-stopped true home other le = omega arith
spare-stopped false home other le = omega arith

-- where the next handler step of j is, and whether its box is home, where this box is home again
abbrev home_back : Play → Core → ℕ → ℕ → ℕ → Option (Call × Moment) → ℕ
home_back P core k p j None = suc zero
home_back P core k p j (Some next) = not_out_by j (put_at core.out (P.node k) p None (P.node j) next.0.handler.micro.0)

-- for the others nothing changes
same : (P : Play) (core : Core) (k p j : ℕ) → j ≢ k → core.out (P.node k) p ≡ Some k → (y : Option (Call × Moment)) → home_back P core k p j y ≡ home_of P core j y
same P core k p j ne is_out None = refl
same P core k p j ne is_out (Some next) = go (slot_or_not (P.node j) (P.node k) next.0.handler.micro.0 p)
  where
    go : ((P.node j ≡ P.node k) × (next.0.handler.micro.0 ≡ p)) ⊎ ((P.node j ≢ P.node k) ⊎ (next.0.handler.micro.0 ≢ p))
        → not_out_by j (put_at core.out (P.node k) p None (P.node j) next.0.handler.micro.0) ≡ not_out_by j (core.out (P.node j) next.0.handler.micro.0)
    go (inl here) =
        let there : core.out (P.node j) next.0.handler.micro.0 ≡ Some k = ap (λ (u : ℕ). core.out u next.0.handler.micro.0) here.0 ∙ (ap (λ (r : ℕ). core.out (P.node k) r) here.1 ∙ is_out) in
        ap (λ (x : Option ℕ). not_out_by j x) (put_at-here {A = Option ℕ} core.out (P.node k) p (P.node j) next.0.handler.micro.0 None here.0 here.1)
        ∙ sym (not_out-other k j (core.out (P.node j) next.0.handler.micro.0) there ne)
    go (inr there) = ap (λ (x : Option ℕ). not_out_by j x) (put_at-else {A = Option ℕ} core.out (P.node k) p (P.node j) next.0.handler.micro.0 None there)

spare-leave : (P : Play) (core : Core) (k : ℕ) (c : Call) (m : Moment) → next_step (core.comp k) ≡ Some (c, m)
    → core.out (P.node k) c.handler.micro.0 ≡ Some k → (j : ℕ) → spare_of P (leave_at P core k c m) j ≤ spare_of P core j
spare-leave P core k c m next is_out j = go (cases_eq j k)
  where
    new : Core
    new = leave_at P core k c m

    home : Computation → ℕ
    home d = home_of P (leave_at P core k c m) j (next_step d)

    same_home : (y : Option (Call × Moment)) → home_of P (leave_at P core k c m) j y ≡ home_back P core k c.handler.micro.0 j y
    same_home None = refl
    same_home (Some y) = refl

    go : (j ≡ k) ⊎ (j ≢ k) → spare_of P (leave_at P core k c m) j ≤ spare_of P core j
    go (inl e) =
        let out : home_of P core j (next_step (core.comp j)) ≡ zero =
        subst (λ (i : ℕ). home_of P core i (next_step (core.comp i)) ≡ zero) (sym e)
        (ap (λ (y : Option (Call × Moment)). home_of P core k y) next ∙ not_out-mine k (core.out (P.node k) c.handler.micro.0) is_out) in
        spare-less core.stopped (home (new.comp j)) (home_of P core j (next_step (core.comp j))) (omega arith)
    go (inr ne) =
        let d : new.comp j ≡ core.comp j = put-else {A = Computation} core.comp k j _ ne in
        let is : home (new.comp j) ≡ home_of P core j (next_step (core.comp j)) =
        ap home d ∙ (same_home (next_step (core.comp j)) ∙ same P core k c.handler.micro.0 j ne is_out (next_step (core.comp j))) in
        spare-less core.stopped (home (new.comp j)) (home_of P core j (next_step (core.comp j))) (omega arith)

abandon_home : (P : Play) (core : Core) (k p j : ℕ) (y : Option (Call × Moment)) → home_of P (abandon P core k p) j y ≡ home_back P core k p j y
abandon_home P core k p j None = refl
abandon_home P core k p j (Some y) = refl

toll-abandon : (P : Play) (core : Core) (k : ℕ) (c : Call) (m : Moment) → k < core.count → next_step (core.comp k) ≡ Some (c, m)
    → core.out (P.node k) c.handler.micro.0 ≡ Some k → suc (to_come P (abandon P core k c.handler.micro.0)) ≤ to_come P core
toll-abandon P core k c m lt next is_out =
    let left_more : left P new ≤ left P core + 1 = sum-more (left_of P new) (left_of P core) core.count k (λ j lt ne. others j ne) mine in
    let spared : sum_to (spare_of P new) core.count + 1 ≤ sum_to (spare_of P core) core.count =
    sum-less (spare_of P new) (spare_of P core) core.count k lt (λ j lt. spare j) spare_mine in
    omega arith
  where
    p : ℕ
    p = c.handler.micro.0

    new : Core
    new = abandon P core k c.handler.micro.0

    out : home_of P core k (next_step (core.comp k)) ≡ zero
    out = ap (λ (y : Option (Call × Moment)). home_of P core k y) next ∙ not_out-mine k (core.out (P.node k) c.handler.micro.0) is_out

    home_other : (j : ℕ) → j ≢ k → home_of P (abandon P core k c.handler.micro.0) j (next_step (core.comp j)) ≡ home_of P core j (next_step (core.comp j))
    home_other j ne = abandon_home P core k c.handler.micro.0 j (next_step (core.comp j)) ∙ same P core k c.handler.micro.0 j ne is_out (next_step (core.comp j))

    home_mine : home_of P (abandon P core k c.handler.micro.0) k (next_step (core.comp k)) ≡ suc zero
    home_mine =
        ap (λ (y : Option (Call × Moment)). home_of P (abandon P core k c.handler.micro.0) k y) next
        ∙ ap (λ (x : Option ℕ). not_out_by k x) (put_at-here {A = Option ℕ} core.out (P.node k) c.handler.micro.0 (P.node k) c.handler.micro.0 None refl refl)

    others : (j : ℕ) → j ≢ k → left_of P (abandon P core k c.handler.micro.0) j ≤ left_of P core j
    others j ne = let e = home_other j ne in omega (arith, e)

    mine : left_of P (abandon P core k c.handler.micro.0) k ≤ left_of P core k + 1
    mine = omega (arith, home_mine)

    spare_mine : spare_of P (abandon P core k c.handler.micro.0) k + 1 ≤ spare_of P core k
    spare_mine = go core.stopped
      where
        go : (b : Bool) → spare_when true (home_of P (abandon P core k c.handler.micro.0) k (next_step (core.comp k))) + 1 ≤ spare_when b (home_of P core k (next_step (core.comp k)))
        go true = omega (arith, home_mine, out)
        go false = omega (arith, home_mine)

    spare : (j : ℕ) → spare_of P (abandon P core k c.handler.micro.0) j ≤ spare_of P core j
    spare j = go (cases_eq j k)
      where
        go : (j ≡ k) ⊎ (j ≢ k) → spare_of P (abandon P core k c.handler.micro.0) j ≤ spare_of P core j
        go (inl e) = subst (λ (i : ℕ). spare_of P (abandon P core k c.handler.micro.0) i ≤ spare_of P core i) (sym e) (omega (arith, spare_mine))
        go (inr ne) =
            spare-stopped core.stopped (home_of P (abandon P core k c.handler.micro.0) j (next_step (core.comp j))) (home_of P core j (next_step (core.comp j)))
            (let e = home_other j ne in omega (arith, e))

-- what is out for a computation is its next handler step
pub record IsOutAt (P : Play) (core : Core) (k : ℕ) : Type 0 where
  pub admitted : k < core.count
  pub call : Call
  pub moment : Moment
  pub next : next_step (core.comp k) ≡ Some (call, moment)
  pub out : core.out (P.node k) call.handler.micro.0 ≡ Some k

pub out_at : (P : Play) (core : Core) (k : ℕ) → Invariant P core → CanLeave P core k → IsOutAt P core k
out_at P core k i can =
    let o : IsOutRightly P core (P.node k) can.slot k = i.out (P.node k) can.slot k can.out.out in
    let next : IsNextAt (point P k (core.made k)).comp can.slot = o.next in
    record {
      admitted = o.admitted;
      call = next.call;
      moment = next.moment;
      next = ap next_step (i.calls.comp k o.admitted) ∙ next.next;
      out = ap (λ (q : ℕ). core.out (P.node k) q) next.is_at ∙ can.out.out;
    }

abbrev pub IsNoAdmission : Step → Type 0
IsNoAdmission Step.Admit = ⊥
IsNoAdmission (Step.Enter k p) = Unit {0}
IsNoAdmission (Step.Leave k) = Unit {0}
IsNoAdmission (Step.Abandon k) = Unit {0}
IsNoAdmission (Step.Release k p) = Unit {0}
IsNoAdmission (Step.End k) = Unit {0}
IsNoAdmission Step.Clear = ⊥

pub toll : (P : Play) (core : Core) (step : Step) → Invariant P core → IsNoAdmission step → IsEnabled P core step
    → suc (to_come P (made_by P core step)) ≤ to_come P core
toll P core Step.Admit i fit can = absurd fit
toll P core (Step.Enter k p) i fit can =
    let fewer : left P (enter P core k p) < left P core = step_fewer P core (Step.Enter k p) i tt can in
    let spared : sum_to (spare_of P (enter P core k p)) core.count ≤ sum_to (spare_of P core) core.count =
    sum-le (spare_of P (enter P core k p)) (spare_of P core) core.count (λ j lt. one j) in
    omega arith
  where
    one : (j : ℕ) → spare_of P (enter P core k p) j ≤ spare_of P core j
    one j =
        let new : spare_of P (enter P core k p) j ≡ 1 = spare-running core.stopped _ can.running in
        let old : spare_of P core j ≡ 1 = spare-running core.stopped _ can.running in
        omega (arith, new, old)
toll P core (Step.Leave k) i fit can =
    let fewer : left P (leave_next P core k (next_step (core.comp k))) < left P core = step_fewer P core (Step.Leave k) i tt can in
    let o : IsOutAt P core k = out_at P core k i can in
    let at : leave_next P core k (next_step (core.comp k)) ≡ leave_at P core k o.call o.moment = ap (λ (y : Option (Call × Moment)). leave_next P core k y) o.next in
    let there : left P (leave_at P core k o.call o.moment) < left P core = subst (λ (c : Core). left P c < left P core) at fewer in
    let spared : sum_to (spare_of P (leave_at P core k o.call o.moment)) core.count ≤ sum_to (spare_of P core) core.count =
    sum-le (spare_of P (leave_at P core k o.call o.moment)) (spare_of P core) core.count (λ j lt. spare-leave P core k o.call o.moment o.next o.out j) in
    let both : suc (to_come P (leave_at P core k o.call o.moment)) ≤ to_come P core = omega arith in
    subst (λ (c : Core). suc (to_come P c) ≤ to_come P core) (sym at) both
toll P core (Step.Abandon k) i fit can =
    let o : IsOutAt P core k = out_at P core k i can in
    let at : abandon_next P core k (next_step (core.comp k)) ≡ abandon P core k o.call.handler.micro.0 = ap (λ (y : Option (Call × Moment)). abandon_next P core k y) o.next in
    subst (λ (c : Core). suc (to_come P c) ≤ to_come P core) (sym at) (toll-abandon P core k o.call o.moment o.admitted o.next o.out)
toll P core (Step.Release k p) i fit can =
    let fewer : left P (made_by P core (Step.Release k p)) < left P core = step_fewer P core (Step.Release k p) i tt can in
    let spared : sum_to (spare_of P (made_by P core (Step.Release k p))) core.count ≡ sum_to (spare_of P core) core.count = refl in
    omega arith
toll P core (Step.End k) i fit can =
    let fewer : left P (made_by P core (Step.End k)) < left P core = step_fewer P core (Step.End k) i tt can in
    let spared : sum_to (spare_of P (made_by P core (Step.End k))) core.count ≡ sum_to (spare_of P core) core.count = refl in
    omega arith
toll P core Step.Clear i fit can = absurd fit
