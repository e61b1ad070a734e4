-- What the invariant says in the words of the private and local versions.
use Rattle.std.proofs.Common.{arith, ◌≡◌, ◌≢◌, ℕ, zero, suc, ◌+◌, ◌-◌, ◌≤◌, ◌<◌, ◌⊎◌, inl, inr, sym, ap, ◌∙◌, subst, [], Some}
use Rattle.samoa_serial.specs.declared.call.Call.{Call}
use Rattle.samoa_model.specs.declared.handler.Moment.{Moment}
use Rattle.samoa_serial.specs.Calls.{Computation}
use Rattle.samoa_model.specs.Allowed.{weight}
use Rattle.samoa_invariant.specs.Play.{IsIdle, Never, NotAt, Play, attempts, done, opened, point, rules, version, weight_at}
use Rattle.samoa_invariant.specs.State.{Core, HasTurn, IsNextAt}
use Rattle.samoa_invariant.specs.Inv.{Invariant, IsDone, IsOutRightly, Owns}
use Rattle.samoa_invariant.specs.Parts.{OutInTurn, StandsSerially, StatesAreSerial, StepsAreInTurn, VersionsAreSums}
use Rattle.std.proofs.lemmas.Bool.{cases_eq}
use Rattle.samoa_invariant.proofs.preservation.Versions.{in_order, some_owner, version-own, weight_at-else}
use Rattle.samoa_invariant.proofs.preservation.Slots.{owns_turn, turn_owns}
use Rattle.samoa_invariant.proofs.preservation.Steps.{some_injective}
use Rattle.samoa_serial.specs.Alone.{Machine, after}
use Rattle.samoa_serial.proofs.Reach.{after-add}
use Rattle.samoa_invariant.proofs.refinement.Points.{Kept, never_kept}

-- no handler step past the first made ones is at a slot whose interval is past
no_more_steps : (P : Play) (core : Core) (k p : ℕ) → Invariant P core → k < core.count → 0 < weight (P.decl k) p → version P (suc k) (P.node k) p ≤ core.local (P.node k) p
    → (i : ℕ) → core.made k ≤ i → NotAt (point P k i).comp p
no_more_steps P core k p i lt w past n le =
    let never : Never (attempts P k) (point P k (core.made k)).comp p = i.no_more k p lt w past in
    let later : Kept (attempts P k) (point P k (core.made k)) (after (rules P k) (point P k (core.made k)) (n - core.made k)) p =
    never_kept (rules P k) (point P k (core.made k)) p never (n - core.made k) in
    let is : core.made k + (n - core.made k) ≡ n = omega arith in
    let same : after (rules P k) (point P k (core.made k)) (n - core.made k) ≡ point P k n =
    sym (after-add (rules P k) (opened P k) (core.made k) (n - core.made k)) ∙ ap (λ (x : ℕ). point P k x) is in
    subst (λ (m : Machine). NotAt m.comp p) same (later.never [])

same_slot : (comp : Computation) (p q : ℕ) → IsNextAt comp p → IsNextAt comp q → p ≡ q
same_slot comp p q a b =
    let X : Type 0 = Call × Moment in
    let x : X = (a.call, a.moment) in
    let y : X = (b.call, b.moment) in
    let same : x ≡ y = some_injective {A = X} x y (sym a.next ∙ b.next) in
    sym a.is_at ∙ (ap (λ (z : Call × Moment). z.0.handler.micro.0) same ∙ b.is_at)

versions_are_sums : (P : Play) (core : Core) → Invariant P core → VersionsAreSums P core
versions_are_sums P core i = record {
  global = i.versions.global;
  private = i.booked.private;
  local = λ v p. subst (λ (x : ℕ). core.local v p ≤ x) (sym (i.versions.global v p)) (i.versions.local v p);
  completed = λ k p b t.
      let owns : Owns P (core.local (P.node k) p) k (P.node k) p = turn_owns P core k p i t in
      let counted : core.local (P.node k) p ≡ version P k (P.node k) p + done (point P k (core.made k)).turns p = i.versions.counted k p t.admitted b owns in
      let own : version P (suc k) (P.node k) p ≡ version P k (P.node k) p + weight (P.decl k) p = version-own P k p in
      let is : core.private k (P.node k) p ≡ version P (suc k) (P.node k) p = i.booked.private k (P.node k) p t.admitted in
      omega arith;
}

steps_are_in_turn : (P : Play) (core : Core) → Invariant P core → StepsAreInTurn P core
steps_are_in_turn P core i = record {
  not_yet = λ k p lt w before n less.
      let own : version P (suc k) (P.node k) p ≡ version P k (P.node k) p + weight (P.decl k) p = version-own P k p in
      let is : core.private k (P.node k) p ≡ version P (suc k) (P.node k) p = i.booked.private k (P.node k) p lt in
      i.not_yet k p lt w (omega arith) n (omega arith);
  no_more = λ k p lt w past n le.
      no_more_steps P core k p i lt w (subst (λ (x : ℕ). x ≤ core.local (P.node k) p) (i.booked.private k (P.node k) p lt) past) n le;
}

out_in_turn : (P : Play) (core : Core) → Invariant P core → OutInTurn P core
out_in_turn P core i = record {
  node = λ v p k e. let o : IsOutRightly P core v p k = i.out v p k e in o.node;
  turn = λ v p k e. turn v p k e;
  next = λ v p k e. next v p k e;
  once = λ v p u q k e f.
      let a : IsOutRightly P core v p k = i.out v p k e in
      let b : IsOutRightly P core u q k = i.out u q k f in
      (a.node ∙ sym b.node, same_slot (core.comp k) p q (next v p k e) (next u q k f));
}
  where
    turn : (v p k : ℕ) → core.out v p ≡ Some k → HasTurn P core k p
    turn v p k e =
        let o : IsOutRightly P core v p k = i.out v p k e in
        owns_turn P core k p i o.admitted (subst (λ (u : ℕ). Owns P (core.local u p) k u p) o.node o.owns)

    next : (v p k : ℕ) → core.out v p ≡ Some k → IsNextAt (core.comp k) p
    next v p k e =
        let o : IsOutRightly P core v p k = i.out v p k e in
        subst (λ (c : Computation). IsNextAt c p) (sym (i.calls.comp k o.admitted)) o.next

pub states_are_serial : (P : Play) (core : Core) → Invariant P core → StatesAreSerial P core
states_are_serial P core i = record {
  owned = λ k p t. i.boxes.owned k p t.admitted (turn_owns P core k p i t);
  free = λ v p none. i.boxes.idle v p (go v p none (in_order (core.local v p) (version P core.count v p)));
}
  where
    go : (v p : ℕ) → ((k : ℕ) → v ≡ P.node k → HasTurn P core k p → ⊥)
        → (core.local v p < version P core.count v p) ⊎ ((core.local v p ≡ version P core.count v p) ⊎ (version P core.count v p < core.local v p))
        → core.local v p ≡ version P core.count v p
    go v p none (inr (inl e)) = e
    go v p none (inr (inr gt)) = let le : core.local v p ≤ version P core.count v p = i.versions.local v p in omega arith
    go v p none (inl lt) = absurd (owner (some_owner P (core.local v p) core.count v p lt))
      where
        owner : (k : ℕ) × (k < core.count) × Owns P (core.local v p) k v p → ⊥
        owner o = at_node (cases_eq v (P.node o.0))
          where
            owns : Owns P (core.local v p) o.0 v p
            owns = o.2

            at_node : (v ≡ P.node o.0) ⊎ (v ≢ P.node o.0) → ⊥
            at_node (inl e) = none o.0 e (owns_turn P core o.0 p i o.1 (subst (λ (u : ℕ). Owns P (core.local u p) o.0 u p) e o.2))
            at_node (inr ne) =
                let zero_weight : weight_at P o.0 v p ≡ zero = weight_at-else P o.0 v p ne in
                let from : version P o.0 v p ≤ core.local v p = o.2.from in
                let below : core.local v p < version P (suc o.0) v p = o.2.below in
                omega arith

pub stands_serially : (P : Play) (core : Core) → Invariant P core → StandsSerially P core
stands_serially P core i = record {
  versions = versions_are_sums P core i;
  steps = steps_are_in_turn P core i;
  out = out_in_turn P core i;
  states = states_are_serial P core i;
  calls = i.calls.comp;
  ended = λ k lt e.
      let d : IsDone P core k = i.ended k lt e in
      record {
        idle = subst (λ (c : Computation). IsIdle c) (sym (i.calls.comp k lt)) d.idle;
        past = λ p w. subst (λ (x : ℕ). x ≤ core.local (P.node k) p) (sym (i.booked.private k (P.node k) p lt)) (d.past p w);
      };
}
