-- Each enter, leave, release and end lowers what is left, so that a run of them ends.
use Rattle.std.proofs.Common.{arith, ◌≡◌, ◌≢◌, ℕ, zero, suc, ◌+◌, ◌-◌, ◌*◌, ◌≤◌, ◌<◌, ◌⊎◌, inl, inr, refl, sym, ap, ◌∙◌, subst, Bool, true, false, List, [], ◌∷◌, Option, Some, None, ◌==◌, if◌then◌else◌}
use Rattle.std.specs.Prelude.{nat_lt}
use Rattle.std.proofs.lemmas.Bool.{cases_eq, lt-ltb, ltb-true}
use Rattle.samoa_serial.specs.declared.call.Call.{Call}
use Rattle.samoa_model.specs.declared.handler.Moment.{Moment}
use Rattle.samoa_serial.specs.Calls.{Computation}
use Rattle.samoa_invariant.specs.Slots.{put_at}
use Rattle.samoa_serial.specs.Alone.{next_step}
use Rattle.samoa_invariant.specs.Play.{Play, point, turns}
use Rattle.samoa_invariant.specs.State.{AllEnded, CanEnd, CanEnter, CanLeave, CanRelease, Core, Further, GoesOnTo, IsEnabled, IsForward, IsNextAt, Step, There, enter, finish, home_of, leave_at, leave_next, left, left_of, made_by, named, not_out_by, put, raise, release, short_at, shorts, sum_to, to_end}
use Rattle.samoa_invariant.specs.Inv.{Invariant, IsOutRightly}
use Rattle.samoa_invariant.proofs.preservation.Versions.{if_here, if_else}
use Rattle.samoa_invariant.proofs.refinement.Points.{next_within}
use Rattle.samoa_invariant.proofs.preservation.Slots.{put-else, put-here, put_at-else, put_at-here, slot_or_not, turn_declares}
use Rattle.samoa_invariant.proofs.preservation.Forms.{enabled_keeps}
use Rattle.samoa_invariant.proofs.progress.Progress.{IsIn, declared_named, ended_or_goes_on}

not_out-most : (k : ℕ) (x : Option ℕ) → not_out_by k x ≤ suc zero
not_out-most k None = omega arith
not_out-most k (Some j) = go (j == k)
  where
    go : (b : Bool) → (if b then zero else suc zero) ≤ suc zero
    go true = omega arith
    go false = omega arith

pub home-most : (P : Play) (core : Core) (k : ℕ) (x : Option (Call × Moment)) → home_of P core k x ≤ suc zero
home-most P core k None = omega arith
home-most P core k (Some next) = not_out-most k (core.out (P.node k) next.0.handler.micro.0)

pub not_out-other : (k j : ℕ) (x : Option ℕ) → x ≡ Some k → j ≢ k → not_out_by j x ≡ suc zero
not_out-other k j x e ne = ap (λ (y : Option ℕ). not_out_by j y) e ∙ if_else {A = ℕ} k j zero (suc zero) (λ is. ne (sym is))

pub not_out-mine : (k : ℕ) (x : Option ℕ) → x ≡ Some k → not_out_by k x ≡ zero
not_out-mine k x e = ap (λ (y : Option ℕ). not_out_by k y) e ∙ if_here {A = ℕ} k k zero (suc zero) refl

short-less : (a b : ℕ) (p : ℕ) → a ≤ b → short_at (nat_lt b p) ≤ short_at (nat_lt a p)
short-less a b p le = go (nat_lt b p) refl (nat_lt a p) refl
  where
    go : (x : Bool) → nat_lt b p ≡ x → (y : Bool) → nat_lt a p ≡ y → short_at x ≤ short_at y
    go false e y f = omega arith
    go true e true f = omega arith
    go true e false f =
        let lt : b < p = ltb-true b p e in
        let yes : nat_lt a p ≡ true = lt-ltb a p (omega arith) in
        absurd (let never : false ≡ true = sym f ∙ yes in cc)

short-past : (p : ℕ) → short_at (nat_lt p p) ≡ zero
short-past p = go (nat_lt p p) refl
  where
    go : (x : Bool) → nat_lt p p ≡ x → short_at x ≡ zero
    go false e = refl
    go true e = let lt : p < p = ltb-true p p e in absurd (omega arith)

short-here : (a p : ℕ) → a < p → short_at (nat_lt a p) ≡ suc zero
short-here a p lt = ap short_at (lt-ltb a p lt)

shorts-less : (private old new : ℕ → ℕ) (qs : List ℕ) → ((q : ℕ) → old q ≤ new q) → shorts private new qs ≤ shorts private old qs
shorts-less private old new [] up = omega arith
shorts-less private old new (q ∷ qs) up =
    let here : short_at (nat_lt (new q) (private q)) ≤ short_at (nat_lt (old q) (private q)) = short-less (old q) (new q) (private q) (up q) in
    let ih : shorts private new qs ≤ shorts private old qs = shorts-less private old new qs up in
    omega arith

shorts-fewer : (private old new : ℕ → ℕ) (qs : List ℕ) (p : ℕ) → ((q : ℕ) → old q ≤ new q) → IsIn p qs → old p < private p → new p ≡ private p
    → shorts private new qs < shorts private old qs
shorts-fewer private old new [] p up never lt is = absurd never
shorts-fewer private old new (q ∷ qs) p up (inl e) lt is =
    let none : short_at (nat_lt (new q) (private q)) ≡ zero =
    ap (λ (r : ℕ). short_at (nat_lt (new r) (private r))) e ∙ (ap (λ (x : ℕ). short_at (nat_lt x (private p))) is ∙ short-past (private p)) in
    let one : short_at (nat_lt (old q) (private q)) ≡ suc zero = ap (λ (r : ℕ). short_at (nat_lt (old r) (private r))) e ∙ short-here (old p) (private p) lt in
    let rest : shorts private new qs ≤ shorts private old qs = shorts-less private old new qs up in
    omega arith
shorts-fewer private old new (q ∷ qs) p up (inr h) lt is =
    let here : short_at (nat_lt (new q) (private q)) ≤ short_at (nat_lt (old q) (private q)) = short-less (old q) (new q) (private q) (up q) in
    let ih : shorts private new qs < shorts private old qs = shorts-fewer private old new qs p up h lt is in
    omega arith

sum-less : (f g : ℕ → ℕ) (n : ℕ) → ((j : ℕ) → j < n → g j ≤ f j) → sum_to g n ≤ sum_to f n
sum-less f g zero h = omega arith
sum-less f g (suc n) h = let ih : sum_to g n ≤ sum_to f n = sum-less f g n (λ j lt. h j (omega arith)) in let here : g n ≤ f n = h n (omega arith) in omega arith

sum-fewer : (f g : ℕ → ℕ) (n k : ℕ) → k < n → g k < f k → ((j : ℕ) → j ≢ k → g j ≤ f j) → sum_to g n < sum_to f n
sum-fewer f g zero k lt mine others = absurd (omega arith)
sum-fewer f g (suc n) k lt mine others = go (cases_eq k n) (λ h. sum-fewer f g n k h mine others)
  where
    all : (j : ℕ) → g j ≤ f j
    all j = each (cases_eq j k)
      where
        each : (j ≡ k) ⊎ (j ≢ k) → g j ≤ f j
        each (inl e) = let m : g j < f j = subst (λ (x : ℕ). g x < f x) (sym e) mine in omega arith
        each (inr ne) = others j ne

    go : (k ≡ n) ⊎ (k ≢ n) → (k < n → sum_to g n < sum_to f n) → sum_to g n + g n < sum_to f n + f n
    go (inl e) ih =
        let m : g n < f n = subst (λ (x : ℕ). g x < f x) e mine in
        let rest : sum_to g n ≤ sum_to f n = sum-less f g n (λ j _. all j) in
        omega arith
    go (inr ne) ih = let h : sum_to g n < sum_to f n = ih (omega arith) in let last : g n ≤ f n = all n in omega arith

sum_of : (t m m' h h' s s' e e' : ℕ) → m ≡ m' → h' ≤ h → s' ≤ s → e' ≤ e → 2 * (t - m') + (h' + (s' + e')) ≤ 2 * (t - m) + (h + (s + e))
sum_of t m m' h h' s s' e e' a b c d = omega arith

pub enter_fewer : (P : Play) (core : Core) (k p : ℕ) → CanEnter P core k p → left P (enter P core k p) < left P core
enter_fewer P core k p can = sum-fewer (left_of P core) (left_of P (enter P core k p)) core.count k can.turn.admitted mine others
  where
    n : IsNextAt (core.comp k) p
    n = can.next

    mine : left_of P (enter P core k p) k < left_of P core k
    mine =
        let was : home_of P core k (next_step (core.comp k)) ≡ suc zero =
        ap (λ (x : Option (Call × Moment)). home_of P core k x) n.next
        ∙ (ap (λ (q : ℕ). not_out_by k (core.out (P.node k) q)) n.is_at ∙ ap (λ (x : Option ℕ). not_out_by k x) can.home) in
        let now : home_of P (enter P core k p) k (next_step (core.comp k)) ≡ zero =
        ap (λ (x : Option (Call × Moment)). home_of P (enter P core k p) k x) n.next
        ∙ not_out-mine k _ (put_at-here {A = Option ℕ} core.out (P.node k) p (P.node k) n.call.handler.micro.0 (Some k) refl n.is_at) in
        omega arith

    home : (j : ℕ) → j ≢ k → (x : Option (Call × Moment)) → home_of P (enter P core k p) j x ≤ home_of P core j x
    home j ne None = omega arith
    home j ne (Some next) = go (slot_or_not (P.node j) (P.node k) next.0.handler.micro.0 p)
      where
        q : ℕ
        q = next.0.handler.micro.0

        go : ((P.node j ≡ P.node k) × (q ≡ p)) ⊎ ((P.node j ≢ P.node k) ⊎ (q ≢ p)) → home_of P (enter P core k p) j (Some next) ≤ home_of P core j (Some next)
        go (inl here) =
            let none : core.out (P.node j) q ≡ None = ap (λ (v : ℕ). core.out v q) here.0 ∙ (ap (λ (r : ℕ). core.out (P.node k) r) here.1 ∙ can.home) in
            let one : not_out_by j (core.out (P.node j) q) ≡ suc zero = ap (λ (x : Option ℕ). not_out_by j x) none in
            let most : not_out_by j (put_at core.out (P.node k) p (Some k) (P.node j) q) ≤ suc zero = not_out-most j _ in
            omega arith
        go (inr there) =
            let same : not_out_by j (put_at core.out (P.node k) p (Some k) (P.node j) q) ≡ not_out_by j (core.out (P.node j) q) =
            ap (λ (x : Option ℕ). not_out_by j x) (put_at-else {A = Option ℕ} core.out (P.node k) p (P.node j) q (Some k) there) in
            omega arith

    others : (j : ℕ) → j ≢ k → left_of P (enter P core k p) j ≤ left_of P core j
    others j ne = sum_of (turns P j) (core.made j) (core.made j) _ _ _ _ _ _ refl (home j ne (next_step (core.comp j))) (omega arith) (omega arith)

pub end_fewer : (P : Play) (core : Core) (k : ℕ) → CanEnd P core k → left P (finish core k) < left P core
end_fewer P core k can = sum-fewer (left_of P core) (left_of P (finish core k)) core.count k can.admitted mine others
  where
    mine : left_of P (finish core k) k < left_of P core k
    mine =
        let was : to_end (core.ended k) ≡ suc zero = ap to_end can.not_ended in
        let now : to_end (put core.ended k true k) ≡ zero = ap to_end (put-here {A = Bool} core.ended k k true refl) in
        let same : home_of P (finish core k) k (next_step (core.comp k)) ≡ home_of P core k (next_step (core.comp k)) = home (next_step (core.comp k)) in
        omega arith
      where
        home : (x : Option (Call × Moment)) → home_of P (finish core k) k x ≡ home_of P core k x
        home None = refl
        home (Some next) = refl

    others : (j : ℕ) → j ≢ k → left_of P (finish core k) j ≤ left_of P core j
    others j ne =
        let same : to_end (put core.ended k true j) ≡ to_end (core.ended j) = ap to_end (put-else {A = Bool} core.ended k j true ne) in
        sum_of (turns P j) (core.made j) (core.made j) _ _ _ _ _ _ refl (home (next_step (core.comp j))) (omega arith) (omega arith)
      where
        home : (x : Option (Call × Moment)) → home_of P (finish core k) j x ≤ home_of P core j x
        home None = omega arith
        home (Some next) = omega arith

release_fewer : (P : Play) (core : Core) (k p : ℕ) → Invariant P core → CanRelease P core k p → left P (release P core k p) < left P core
release_fewer P core k p i can = sum-fewer (left_of P core) (left_of P (release P core k p)) core.count k can.turn.admitted mine others
  where
    x : ℕ
    x = core.private k (P.node k) p

    lt : core.local (P.node k) p < core.private k (P.node k) p
    lt = can.turn.below

    up : (v q : ℕ) → core.local v q ≤ put_at core.local (P.node k) p (core.private k (P.node k) p) v q
    up v q = go (slot_or_not v (P.node k) q p)
      where
        go : ((v ≡ P.node k) × (q ≡ p)) ⊎ ((v ≢ P.node k) ⊎ (q ≢ p)) → core.local v q ≤ put_at core.local (P.node k) p (core.private k (P.node k) p) v q
        go (inl here) =
            let is : put_at core.local (P.node k) p (core.private k (P.node k) p) v q ≡ core.private k (P.node k) p =
            put_at-here {A = ℕ} core.local (P.node k) p v q (core.private k (P.node k) p) here.0 here.1 in
            let same : core.local v q ≡ core.local (P.node k) p = ap (λ (u : ℕ). core.local u q) here.0 ∙ ap (λ (r : ℕ). core.local (P.node k) r) here.1 in
            let less : core.local (P.node k) p < core.private k (P.node k) p = lt in
            omega arith
        go (inr there) =
            let is : put_at core.local (P.node k) p (core.private k (P.node k) p) v q ≡ core.local v q =
            put_at-else {A = ℕ} core.local (P.node k) p v q (core.private k (P.node k) p) there in
            omega arith

    home : (j : ℕ) → (y : Option (Call × Moment)) → home_of P (release P core k p) j y ≤ home_of P core j y
    home j None = omega arith
    home j (Some next) = omega arith

    others : (j : ℕ) → j ≢ k → left_of P (release P core k p) j ≤ left_of P core j
    others j ne =
        sum_of (turns P j) (core.made j) (core.made j) _ _ _ _ _ _ refl (home j (next_step (core.comp j)))
        (shorts-less (core.private j (P.node j)) (core.local (P.node j)) (λ q. put_at core.local (P.node k) p (core.private k (P.node k) p) (P.node j) q) (named (P.decl j)) (λ q. up (P.node j) q))
        (omega arith)

    mine : left_of P (release P core k p) k < left_of P core k
    mine =
        let fewer : shorts (core.private k (P.node k)) (λ q. put_at core.local (P.node k) p (core.private k (P.node k) p) (P.node k) q) (named (P.decl k))
        < shorts (core.private k (P.node k)) (core.local (P.node k)) (named (P.decl k)) =
        shorts-fewer (core.private k (P.node k)) (core.local (P.node k)) (λ q. put_at core.local (P.node k) p (core.private k (P.node k) p) (P.node k) q) (named (P.decl k)) p
        (λ q. up (P.node k) q) (declared_named (P.decl k) p (turn_declares P core k p i can.turn)) lt
        (put_at-here {A = ℕ} core.local (P.node k) p (P.node k) p (core.private k (P.node k) p) refl refl) in
        let same : home_of P (release P core k p) k (next_step (core.comp k)) ≤ home_of P core k (next_step (core.comp k)) = home k (next_step (core.comp k)) in
        omega arith

leave_at_fewer : (P : Play) (core : Core) (k : ℕ) (c : Call) (m : Moment) → k < core.count → next_step (core.comp k) ≡ Some (c, m)
    → core.out (P.node k) c.handler.micro.0 ≡ Some k → core.made k < turns P k → left P (leave_at P core k c m) < left P core
leave_at_fewer P core k c m lt next is_out within = sum-fewer (left_of P core) (left_of P (leave_at P core k c m)) core.count k lt mine others
  where
    v : ℕ
    v = P.node k

    p : ℕ
    p = c.handler.micro.0

    new : Core
    new = leave_at P core k c m

    up : (u q : ℕ) → core.local u q ≤ (leave_at P core k c m).local u q
    up u q = go (slot_or_not u (P.node k) q c.handler.micro.0)
      where
        x : ℕ
        x = core.local (P.node k) c.handler.micro.0 + raise (P.decl k) (P.step k c.handler.micro (core.boxes (P.node k) c.handler.micro.0) m).1

        go : ((u ≡ P.node k) × (q ≡ c.handler.micro.0)) ⊎ ((u ≢ P.node k) ⊎ (q ≢ c.handler.micro.0)) → core.local u q ≤ (leave_at P core k c m).local u q
        go (inl here) =
            let is : (leave_at P core k c m).local u q ≡ x = put_at-here {A = ℕ} core.local (P.node k) c.handler.micro.0 u q x here.0 here.1 in
            let same : core.local u q ≡ core.local (P.node k) c.handler.micro.0 = ap (λ (w : ℕ). core.local w q) here.0 ∙ ap (λ (r : ℕ). core.local (P.node k) r) here.1 in
            let more : core.local (P.node k) c.handler.micro.0 ≤ x = omega arith in
            subst (λ (y : ℕ). core.local u q ≤ y) (sym is) (subst (λ (y : ℕ). y ≤ x) (sym same) more)
        go (inr there) =
            let is : (leave_at P core k c m).local u q ≡ core.local u q = put_at-else {A = ℕ} core.local (P.node k) c.handler.micro.0 u q x there in
            subst (λ (y : ℕ). core.local u q ≤ y) (sym is) (omega arith)

    short : (j : ℕ) → shorts (core.private j (P.node j)) ((leave_at P core k c m).local (P.node j)) (named (P.decl j)) ≤ shorts (core.private j (P.node j)) (core.local (P.node j)) (named (P.decl j))
    short j = shorts-less (core.private j (P.node j)) (core.local (P.node j)) ((leave_at P core k c m).local (P.node j)) (named (P.decl j)) (λ q. up (P.node j) q)

    home : (j : ℕ) → j ≢ k → (y : Option (Call × Moment)) → home_of P (leave_at P core k c m) j y ≤ home_of P core j y
    home j ne None = omega arith
    home j ne (Some nx) = go (slot_or_not (P.node j) (P.node k) nx.0.handler.micro.0 c.handler.micro.0)
      where
        q : ℕ
        q = nx.0.handler.micro.0

        go : ((P.node j ≡ P.node k) × (q ≡ c.handler.micro.0)) ⊎ ((P.node j ≢ P.node k) ⊎ (q ≢ c.handler.micro.0)) → home_of P (leave_at P core k c m) j (Some nx) ≤ home_of P core j (Some nx)
        go (inl here) =
            let there : core.out (P.node j) q ≡ Some k = ap (λ (u : ℕ). core.out u q) here.0 ∙ (ap (λ (r : ℕ). core.out (P.node k) r) here.1 ∙ is_out) in
            let one : not_out_by j (core.out (P.node j) q) ≡ suc zero = not_out-other k j (core.out (P.node j) q) there ne in
            subst (λ (y : ℕ). home_of P (leave_at P core k c m) j (Some nx) ≤ y) (sym one) (home-most P (leave_at P core k c m) j (Some nx))
        go (inr there) =
            let same : (leave_at P core k c m).out (P.node j) q ≡ core.out (P.node j) q = put_at-else {A = Option ℕ} core.out (P.node k) c.handler.micro.0 (P.node j) q None there in
            subst (λ (y : ℕ). home_of P (leave_at P core k c m) j (Some nx) ≤ y) (ap (λ (x : Option ℕ). not_out_by j x) same) (omega arith)

    others : (j : ℕ) → j ≢ k → left_of P (leave_at P core k c m) j ≤ left_of P core j
    others j ne =
        sum_of (turns P j) (core.made j) ((leave_at P core k c m).made j) _ _ _ _ _ _ (sym (put-else {A = ℕ} core.made k j (suc (core.made k)) ne))
        (subst (λ (d : Computation). home_of P (leave_at P core k c m) j (next_step d) ≤ home_of P core j (next_step (core.comp j)))
        (sym (put-else {A = Computation} core.comp k j _ ne)) (home j ne (next_step (core.comp j))))
        (short j) (omega arith)

    mine : left_of P (leave_at P core k c m) k < left_of P core k
    mine =
        fewer (turns P k) (core.made k) ((leave_at P core k c m).made k) _ _ _ _ (to_end (core.ended k))
        (put-here {A = ℕ} core.made k k (suc (core.made k)) refl) within
        (home-most P (leave_at P core k c m) k (next_step ((leave_at P core k c m).comp k))) (short k)
      where
        fewer : (t n n' h h' s s' e : ℕ) → n' ≡ suc n → n < t → h' ≤ suc zero → s' ≤ s → 2 * (t - n') + (h' + (s' + e)) < 2 * (t - n) + (h + (s + e))
        fewer t n n' h h' s s' e a b d f = omega arith

pub leave_fewer : (P : Play) (core : Core) (k : ℕ) → Invariant P core → CanLeave P core k → left P (leave_next P core k (next_step (core.comp k))) < left P core
leave_fewer P core k i can =
    let o : IsOutRightly P core (P.node k) can.slot k = i.out (P.node k) can.slot k can.out.out in
    let lt : k < core.count = o.admitted in
    let next : IsNextAt (point P k (core.made k)).comp can.slot = o.next in
    let is : next_step (core.comp k) ≡ Some (next.call, next.moment) = ap next_step (i.calls.comp k lt) ∙ next.next in
    let out : core.out (P.node k) next.call.handler.micro.0 ≡ Some k = ap (λ (q : ℕ). core.out (P.node k) q) next.is_at ∙ can.out.out in
    let within : suc (core.made k) ≤ turns P k = next_within P k (core.made k) next.call next.moment next.next (i.calls.made k lt) in
    subst (λ (y : Option (Call × Moment)). left P (leave_next P core k y) < left P core) (sym is)
    (leave_at_fewer P core k next.call next.moment lt is out within)

-- each step that goes on lowers what is left
pub step_fewer : (P : Play) (core : Core) (step : Step) → Invariant P core → IsForward step → IsEnabled P core step → left P (made_by P core step) < left P core
step_fewer P core Step.Admit i f can = absurd f
step_fewer P core (Step.Enter k p) i f can = enter_fewer P core k p can
step_fewer P core (Step.Leave k) i f can = leave_fewer P core k i can
step_fewer P core (Step.Abandon k) i f can = absurd f
step_fewer P core (Step.Release k p) i f can = release_fewer P core k p i can
step_fewer P core (Step.End k) i f can = end_fewer P core k can
step_fewer P core Step.Clear i f can = absurd f

pub begins_with : (P : Play) (core : Core) (step : Step) (new : Core) → IsForward step → IsEnabled P core step → GoesOnTo P (made_by P core step) new → GoesOnTo P core new
begins_with P core step new f can There = Further core step f There can
begins_with P core step new f can (Further mid later g before can') = Further mid later g (begins_with P core step mid f can before) can'

left_running : (P : Play) (core : Core) (k : ℕ) (x : Option (Call × Moment)) → core.stopped ≡ false → (leave_next P core k x).stopped ≡ false
left_running P core k None e = e
left_running P core k (Some next) e = e

still_running : (P : Play) (core : Core) (step : Step) → IsForward step → core.stopped ≡ false → (made_by P core step).stopped ≡ false
still_running P core Step.Admit f e = absurd f
still_running P core (Step.Enter k p) f e = e
still_running P core (Step.Leave k) f e = left_running P core k (next_step (core.comp k)) e
still_running P core (Step.Abandon k) f e = absurd f
still_running P core (Step.Release k p) f e = e
still_running P core (Step.End k) f e = e
still_running P core Step.Clear f e = absurd f

runs_to_end : (P : Play) (n : ℕ) (core : Core) → left P core ≤ n → Invariant P core → core.stopped ≡ false → (new : Core) × GoesOnTo P core new × AllEnded new
runs_to_end P zero core le i running = go (ended_or_goes_on P core i running)
  where
    go : AllEnded core ⊎ ((step : Step) × IsForward step × IsEnabled P core step) → (new : Core) × GoesOnTo P core new × AllEnded new
    go (inl all) = (core, There, all)
    go (inr s) = let lt : left P (made_by P core s.0) < left P core = step_fewer P core s.0 i s.1 s.2 in absurd (omega arith)
runs_to_end P (suc n) core le i running =
    go (ended_or_goes_on P core i running) (λ c h j r. runs_to_end P n c h j r)
  where
    go : AllEnded core ⊎ ((step : Step) × IsForward step × IsEnabled P core step)
        → ((c : Core) → left P c ≤ n → Invariant P c → c.stopped ≡ false → (new : Core) × GoesOnTo P c new × AllEnded new)
        → (new : Core) × GoesOnTo P core new × AllEnded new
    go (inl all) ih = (core, There, all)
    go (inr s) ih =
        let lt : left P (made_by P core s.0) < left P core = step_fewer P core s.0 i s.1 s.2 in
        let rest : (new : Core) × GoesOnTo P (made_by P core s.0) new × AllEnded new =
        ih (made_by P core s.0) (omega arith) (enabled_keeps P core s.0 i s.2) (still_running P core s.0 s.1 running) in
        (rest.0, begins_with P core s.0 rest.0 s.1 s.2 rest.1, rest.2)

-- from every core with no abandoned step, steps that go on lead to the end of all
pub all_can_end : (P : Play) (core : Core) → Invariant P core → core.stopped ≡ false → (new : Core) × GoesOnTo P core new × AllEnded new
all_can_end P core i running = runs_to_end P (left P core) core (omega arith) i running
