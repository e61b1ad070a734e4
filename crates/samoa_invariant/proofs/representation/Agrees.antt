-- What was admitted so far decides all that the invariant says: later external events may be any.
use Rattle.std.proofs.Common.{arith, ◌≡◌, ℕ, zero, suc, ◌+◌, ◌≤◌, ◌<◌, refl, sym, ap, ◌∙◌, subst, true, List, length, ◌==◌, if◌then◌else◌}
use Rattle.samoa_model.specs.declared.script.Decl.{Decl}
use Rattle.samoa_model.specs.declared.ids.EventId.{EventId}
use Rattle.samoa_model.specs.declared.ids.MicroId.{MicroId}
use Rattle.samoa_model.specs.declared.handler.Moment.{Moment}
use Rattle.samoa_model.specs.declared.handler.Outcome.{Outcome}
use Rattle.samoa_serial.specs.State.{State}
use Rattle.samoa_serial.specs.World.{attempts_of, Rules, States}
use Rattle.samoa_serial.specs.Whole.{event_whole, Ran}
use Rattle.samoa_serial.specs.Alone.{after, Machine, opening}
use Rattle.samoa_model.specs.Scripts.{Table}
use Rattle.samoa_invariant.specs.Slots.{At}
use Rattle.samoa_model.specs.Allowed.{weight}
use Rattle.samoa_invariant.specs.Play.{Play, Agree, is_bound, version, rules, opened, point, stood, turns, table_at, table_of, whole_of, NotAt, Never, done, IsIdle}
use Rattle.samoa_invariant.specs.State.{Core, IsNextAt}
use Rattle.samoa_invariant.specs.Inv.{Invariant, IsOutRightly, IsDone}
use Rattle.samoa_invariant.proofs.preservation.Slots.{AtSlot, at_slots, at_slot-same}

pub table_agree : (P Q : Play) (n : ℕ) → Agree P Q n → (k v : ℕ) → k ≤ n → table_at P k v ≡ table_at Q k v
table_agree P Q n a zero v le = ap (λ (f : ℕ → Table). f v) a.first_tables
table_agree P Q n a (suc k) v le =
    let ih : table_at P k v ≡ table_at Q k v = table_agree P Q n a k v (omega arith) in
    ap (λ (t : Table). if v == P.node k then P.change k t else t) ih
    ∙ (ap (λ (f : Table → Table). if v == P.node k then f (table_at Q k v) else table_at Q k v) (a.change k (omega arith))
    ∙ ap (λ (u : ℕ). if v == u then Q.change k (table_at Q k v) else table_at Q k v) (a.node k (omega arith)))

pub table_of-agree : (P Q : Play) (n : ℕ) → Agree P Q n → (k : ℕ) → k < n → table_of P k ≡ table_of Q k
table_of-agree P Q n a k lt = table_agree P Q n a (suc k) (P.node k) (omega arith) ∙ ap (λ (v : ℕ). table_at Q (suc k) v) (a.node k lt)

pub rules-agree : (P Q : Play) (n : ℕ) → Agree P Q n → (k : ℕ) → k < n → rules P k ≡ rules Q k
rules-agree P Q n a k lt =
    ap (λ (f : MicroId → State → Moment → State × Outcome). record { step = f; attempt = attempts_of (P.decl k) (table_of P k) }) (a.step k lt)
    ∙ (ap (λ (d : Decl). record { step = Q.step k; attempt = attempts_of d (table_of P k) }) (a.decl k lt)
    ∙ ap (λ (t : Table). record { step = Q.step k; attempt = attempts_of (Q.decl k) t }) (table_of-agree P Q n a k lt))

-- what both are made of
pub record SameStart (P Q : Play) (k : ℕ) : Type 0 where
  pub rules : rules P k ≡ rules Q k
  pub budget : P.budget k ≡ Q.budget k
  pub states : stood P k (P.node k) ≡ stood Q k (Q.node k)
  pub root : P.root k ≡ Q.root k
  pub args : P.args k ≡ Q.args k

whole_same : (P Q : Play) (k : ℕ) → SameStart P Q k → whole_of P k ≡ whole_of Q k
whole_same P Q k s =
    ap (λ (r : Rules). event_whole r (P.budget k) (stood P k (P.node k)) (P.root k) (P.args k)) s.rules
    ∙ (ap (λ (b : ℕ). event_whole (rules Q k) b (stood P k (P.node k)) (P.root k) (P.args k)) s.budget
    ∙ (ap (λ (x : States). event_whole (rules Q k) (Q.budget k) x (P.root k) (P.args k)) s.states
    ∙ (ap (λ (e : EventId). event_whole (rules Q k) (Q.budget k) (stood Q k (Q.node k)) e (P.args k)) s.root
    ∙ ap (λ (w : List ℕ). event_whole (rules Q k) (Q.budget k) (stood Q k (Q.node k)) (Q.root k) w) s.args)))

opened_same : (P Q : Play) (k : ℕ) → SameStart P Q k → opened P k ≡ opened Q k
opened_same P Q k s =
    ap (λ (r : Rules). opening r (P.budget k) (stood P k (P.node k)) (P.root k) (P.args k)) s.rules
    ∙ (ap (λ (b : ℕ). opening (rules Q k) b (stood P k (P.node k)) (P.root k) (P.args k)) s.budget
    ∙ (ap (λ (x : States). opening (rules Q k) (Q.budget k) x (P.root k) (P.args k)) s.states
    ∙ (ap (λ (e : EventId). opening (rules Q k) (Q.budget k) (stood Q k (Q.node k)) e (P.args k)) s.root
    ∙ ap (λ (w : List ℕ). opening (rules Q k) (Q.budget k) (stood Q k (Q.node k)) (Q.root k) w) s.args)))

pub same_start : (P Q : Play) (n : ℕ) → Agree P Q n → (k : ℕ) → k < n → stood P k ≡ stood Q k → SameStart P Q k
same_start P Q n a k lt e = record {
  rules = rules-agree P Q n a k lt;
  budget = a.budget k lt;
  states = ap (λ (s : At State). s (P.node k)) e ∙ ap (λ (v : ℕ). stood Q k v) (a.node k lt);
  root = a.root k lt;
  args = a.args k lt;
}

pub stood-agree : (P Q : Play) (n : ℕ) → Agree P Q n → (k : ℕ) → k ≤ n → stood P k ≡ stood Q k
stood-agree P Q n a zero le = a.first_states
stood-agree P Q n a (suc k) le =
    let lt : k < n = omega arith in
    let ih : stood P k ≡ stood Q k = stood-agree P Q n a k (omega arith) in
    let whole : whole_of P k ≡ whole_of Q k = whole_same P Q k (same_start P Q n a k lt ih) in
    let F : At State → Ran → ℕ → At State = λ s ran node v p. if v == node then ran.world.states p else s v p in
    let first : F (stood P k) (whole_of P k) (P.node k) ≡ F (stood Q k) (whole_of P k) (P.node k) = ap (λ (s : At State). F s (whole_of P k) (P.node k)) ih in
    let second : F (stood Q k) (whole_of P k) (P.node k) ≡ F (stood Q k) (whole_of Q k) (P.node k) = ap (λ (r : Ran). F (stood Q k) r (P.node k)) whole in
    let third : F (stood Q k) (whole_of Q k) (P.node k) ≡ F (stood Q k) (whole_of Q k) (Q.node k) = ap (λ (v : ℕ). F (stood Q k) (whole_of Q k) v) (a.node k lt) in
    first ∙ (second ∙ third)

pub start-agree : (P Q : Play) (n : ℕ) → Agree P Q n → (k : ℕ) → k < n → SameStart P Q k
start-agree P Q n a k lt = same_start P Q n a k lt (stood-agree P Q n a k (omega arith))

pub version-agree : (P Q : Play) (n : ℕ) → Agree P Q n → (k v p : ℕ) → k ≤ n → version P k v p ≡ version Q k v p
version-agree P Q n a zero v p le = refl
version-agree P Q n a (suc k) v p le =
    let lt : k < n = omega arith in
    ap (λ (x : ℕ). x + (if v == P.node k then weight (P.decl k) p else zero)) (version-agree P Q n a k v p (omega arith))
    ∙ (ap (λ (d : Decl). version Q k v p + (if v == P.node k then weight d p else zero)) (a.decl k lt)
    ∙ ap (λ (u : ℕ). version Q k v p + (if v == u then weight (Q.decl k) p else zero)) (a.node k lt))

pub point-agree : (P Q : Play) (n : ℕ) → Agree P Q n → (k : ℕ) → k < n → (m : ℕ) → point P k m ≡ point Q k m
point-agree P Q n a k lt m =
    let s : SameStart P Q k = start-agree P Q n a k lt in
    ap (λ (r : Rules). after r (opened P k) m) s.rules ∙ ap (λ (o : Machine). after (rules Q k) o m) (opened_same P Q k s)

pub turns-agree : (P Q : Play) (n : ℕ) → Agree P Q n → (k : ℕ) → k < n → turns P k ≡ turns Q k
turns-agree P Q n a k lt = ap (λ (r : Ran). length r.world.turns) (whole_same P Q k (start-agree P Q n a k lt))

-- one computation at one slot, by what it is made of
record Raw (rs : Rules) (o : Machine) (d : Decl) (lo hi q x m : ℕ) (s : State) : Type 0 where
  counted : is_bound d ≡ true → lo ≤ x → x < hi → x ≡ lo + done (after rs o m).turns q
  not_yet : 0 < weight d q → x < lo → (i : ℕ) → suc i ≤ m → NotAt (after rs o i).comp q
  no_more : 0 < weight d q → hi ≤ x → Never rs.attempt (after rs o m).comp q
  box : lo ≤ x → x < hi → s ≡ (after rs o m).states q

raw_of : (P : Play) (j q x m : ℕ) (s : State) → AtSlot P j q x m s
    → Raw (rules P j) (opened P j) (P.decl j) (version P j (P.node j) q) (version P (suc j) (P.node j) q) q x m s
raw_of P j q x m s a = record {
  counted = λ b lo hi. a.counted b (record { from = lo; below = hi });
  not_yet = λ w lt. a.not_yet w lt;
  no_more = λ w le. a.no_more w le;
  box = λ lo hi. a.box (record { from = lo; below = hi });
}

of_raw : (P : Play) (j q x m : ℕ) (s : State)
    → Raw (rules P j) (opened P j) (P.decl j) (version P j (P.node j) q) (version P (suc j) (P.node j) q) q x m s → AtSlot P j q x m s
of_raw P j q x m s r = record {
  counted = λ b o. r.counted b o.from o.below;
  not_yet = λ w lt. r.not_yet w lt;
  no_more = λ w le. r.no_more w le;
  box = λ o. r.box o.from o.below;
}

slot-agree : (P Q : Play) (n : ℕ) → Agree P Q n → (j q x m : ℕ) (s : State) → j < n → AtSlot P j q x m s → AtSlot Q j q x m s
slot-agree P Q n a j q x m s lt at_slot =
    let st : SameStart P Q j = start-agree P Q n a j lt in
    let lo : version P j (P.node j) q ≡ version Q j (Q.node j) q = version-agree P Q n a j (P.node j) q (omega arith) ∙ ap (λ (v : ℕ). version Q j v q) (a.node j lt) in
    let hi : version P (suc j) (P.node j) q ≡ version Q (suc j) (Q.node j) q = version-agree P Q n a (suc j) (P.node j) q (omega arith) ∙ ap (λ (v : ℕ). version Q (suc j) v q) (a.node j lt) in
    of_raw Q j q x m s
    (subst (λ (h : ℕ). Raw (rules Q j) (opened Q j) (Q.decl j) (version Q j (Q.node j) q) h q x m s) hi
    (subst (λ (l : ℕ). Raw (rules Q j) (opened Q j) (Q.decl j) l (version P (suc j) (P.node j) q) q x m s) lo
    (subst (λ (d : Decl). Raw (rules Q j) (opened Q j) d (version P j (P.node j) q) (version P (suc j) (P.node j) q) q x m s) (a.decl j lt)
    (subst (λ (o : Machine). Raw (rules Q j) o (P.decl j) (version P j (P.node j) q) (version P (suc j) (P.node j) q) q x m s) (opened_same P Q j st)
    (subst (λ (r : Rules). Raw r (opened P j) (P.decl j) (version P j (P.node j) q) (version P (suc j) (P.node j) q) q x m s) st.rules
    (raw_of P j q x m s at_slot))))))

pub invariant-agree : (P Q : Play) (core : Core) → Agree P Q core.count → Invariant P core → Invariant Q core
invariant-agree P Q core a i =
    let n : ℕ = core.count in
    let slots : (j q : ℕ) → j < core.count → AtSlot Q j q (core.local (Q.node j) q) (core.made j) (core.boxes (Q.node j) q) =
    λ j q lt. at_slot-same Q j q _ _ _ _ _ _ (ap (λ (v : ℕ). core.local v q) (a.node j lt)) refl (ap (λ (v : ℕ). core.boxes v q) (a.node j lt))
    (slot-agree P Q core.count a j q (core.local (P.node j) q) (core.made j) (core.boxes (P.node j) q) lt (at_slots P core i j q lt)) in
    record {
      booked = record {
        present = λ v. i.booked.present v ∙ table_agree P Q core.count a core.count v (omega arith);
        table = λ k lt. i.booked.table k lt ∙ table_of-agree P Q core.count a k lt;
        from = λ k v p lt. i.booked.from k v p lt ∙ version-agree P Q core.count a k v p (omega arith);
        private = λ k v p lt. i.booked.private k v p lt ∙ version-agree P Q core.count a (suc k) v p (omega arith);
      };
      versions = record {
        global = λ v p. i.versions.global v p ∙ version-agree P Q core.count a core.count v p (omega arith);
        local = λ v p. subst (λ (x : ℕ). core.local v p ≤ x) (version-agree P Q core.count a core.count v p (omega arith)) (i.versions.local v p);
        counted = λ j q lt. let s : AtSlot Q j q (core.local (Q.node j) q) (core.made j) (core.boxes (Q.node j) q) = slots j q lt in s.counted;
      };
      not_yet = λ j q lt. let s : AtSlot Q j q (core.local (Q.node j) q) (core.made j) (core.boxes (Q.node j) q) = slots j q lt in s.not_yet;
      no_more = λ j q lt. let s : AtSlot Q j q (core.local (Q.node j) q) (core.made j) (core.boxes (Q.node j) q) = slots j q lt in s.no_more;
      out = λ v p k e.
          let o : IsOutRightly P core v p k = i.out v p k e in
          let lt : k < core.count = o.admitted in
          record {
            admitted = o.admitted;
            node = o.node ∙ a.node k lt;
            owns = record {
              from = subst (λ (x : ℕ). x ≤ core.local v p) (version-agree P Q core.count a k v p (omega arith)) o.owns.from;
              below = subst (λ (x : ℕ). core.local v p < x) (version-agree P Q core.count a (suc k) v p (omega arith)) o.owns.below;
            };
            next = subst (λ (x : Machine). IsNextAt x.comp p) (point-agree P Q core.count a k lt (core.made k)) o.next;
          };
      boxes = record {
        owned = λ j q lt. let s : AtSlot Q j q (core.local (Q.node j) q) (core.made j) (core.boxes (Q.node j) q) = slots j q lt in s.box;
        idle = λ v p e. i.boxes.idle v p (e ∙ sym (version-agree P Q core.count a core.count v p (omega arith)))
            ∙ ap (λ (s : At State). s v p) (stood-agree P Q core.count a core.count (omega arith));
      };
      calls = record {
        comp = λ k lt. i.calls.comp k lt ∙ ap (λ (x : Machine). x.comp) (point-agree P Q core.count a k lt (core.made k));
        made = λ k lt. subst (λ (x : ℕ). core.made k ≤ x) (turns-agree P Q core.count a k lt) (i.calls.made k lt);
      };
      ended = λ k lt e.
          let d : IsDone P core k = i.ended k lt e in
          record {
            idle = subst (λ (x : Machine). IsIdle x.comp) (point-agree P Q core.count a k lt (core.made k)) d.idle;
            past = λ p w. subst (λ (v : ℕ). version Q (suc k) v p ≤ core.local v p) (a.node k lt)
                (subst (λ (x : ℕ). x ≤ core.local (P.node k) p) (version-agree P Q core.count a (suc k) (P.node k) p (omega arith))
                (d.past p (subst (λ (dd : Decl). 0 < weight dd p) (sym (a.decl k lt)) w)));
          };
    }
