-- A local version that moves up keeps the invariant: what Leave and Release share.
use Rattle.std.proofs.Common.{arith, ◌≡◌, ◌≢◌, ℕ, zero, suc, ◌+◌, ◌≤◌, ◌<◌, ◌⊎◌, inl, inr, refl, sym, ap, ◌∙◌, subst, true, Some, None, Option}
use Rattle.samoa_serial.specs.State.{State}
use Rattle.samoa_serial.specs.Calls.{Computation}
use Rattle.samoa_invariant.specs.Slots.{At}
use Rattle.samoa_model.specs.Allowed.{weight}
use Rattle.samoa_invariant.specs.Play.{Play, version, is_bound, attempts, point, stood, turns, Never, NotYet, done, IsIdle}
use Rattle.samoa_invariant.specs.State.{Core, IsNextAt}
use Rattle.samoa_invariant.specs.Inv.{Meets, Owns, Invariant, OutRightly, IsOutRightly, IsDone, EndedRightly}
use Rattle.std.proofs.lemmas.Bool.{cases_eq}
use Rattle.samoa_invariant.proofs.preservation.Versions.{in_order, version-own, version-mono}
use Rattle.samoa_invariant.proofs.refinement.Points.{Apart, Untouched, untouched, never_ends, stood_same}
use Rattle.samoa_invariant.proofs.preservation.Slots.{slot_or_not, AtSlot, at_slots, at_slot-same}

-- the core a with new local versions l, boxes s, calls out o, computations c and steps m:
-- at p of its node computation k, which has its turn, moves to its serial point n, and the local version to x
pub record Moved (P : Play) (a : Core) (l : At ℕ) (s : At State) (o : At (Option ℕ)) (c : ℕ → Computation) (m : ℕ → ℕ) (k p x n : ℕ) : Type 0 where
  pub local_here : (v q : ℕ) → v ≡ P.node k → q ≡ p → l v q ≡ x
  pub local_else : (v q : ℕ) → (v ≢ P.node k) ⊎ (q ≢ p) → l v q ≡ a.local v q
  pub box_here : (v q : ℕ) → v ≡ P.node k → q ≡ p → s v q ≡ (point P k n).states p
  pub box_else : (v q : ℕ) → (v ≢ P.node k) ⊎ (q ≢ p) → s v q ≡ a.boxes v q
  pub out_here : (v q : ℕ) → v ≡ P.node k → q ≡ p → o v q ≡ None
  pub out_else : (v q : ℕ) → (v ≢ P.node k) ⊎ (q ≢ p) → o v q ≡ a.out v q
  pub comp_here : c k ≡ (point P k n).comp
  pub comp_else : (j : ℕ) → j ≢ k → c j ≡ a.comp j
  pub made_here : m k ≡ n
  pub made_else : (j : ℕ) → j ≢ k → m j ≡ a.made j
  pub admitted : k < a.count
  pub owns : Owns P (a.local (P.node k) p) k (P.node k) p
  pub up : a.local (P.node k) p ≤ x
  pub most : x ≤ version P (suc k) (P.node k) p
  pub within : n ≤ turns P k
  pub counted : is_bound (P.decl k) ≡ true → x < version P (suc k) (P.node k) p → x ≡ version P k (P.node k) p + done (point P k n).turns p
  pub never : x ≡ version P (suc k) (P.node k) p → Never (attempts P k) (point P k n).comp p
  pub others : (q : ℕ) → q ≢ p → Apart (attempts P k) (point P k (a.made k)) (point P k n) q
  pub not_yet : (q : ℕ) → q ≢ p → NotYet P k (a.made k) q → NotYet P k n q
  pub out_kept : (q : ℕ) → q ≢ p → a.out (P.node k) q ≡ Some k → IsNextAt (point P k n).comp q

-- by the computation and the slot
by_cases : (P : Play) (k p : ℕ) (Q : ℕ → ℕ → Type 0) → Q k p → ((q : ℕ) → q ≢ p → Q k q)
    → ((j q : ℕ) → j ≢ k → P.node j ≡ P.node k → q ≡ p → Q j q)
    → ((j q : ℕ) → j ≢ k → (P.node j ≢ P.node k) ⊎ (q ≢ p) → Q j q) → (j q : ℕ) → Q j q
by_cases P k p Q mine mine_else other other_else j q = go (cases_eq j k)
  where
    mine_at : (q ≡ p) ⊎ (q ≢ p) → Q k q
    mine_at (inl e) = subst (λ (i : ℕ). Q k i) (sym e) mine
    mine_at (inr ne) = mine_else q ne

    other_at : j ≢ k → ((P.node j ≡ P.node k) × (q ≡ p)) ⊎ ((P.node j ≢ P.node k) ⊎ (q ≢ p)) → Q j q
    other_at ne (inl here) = other j q ne here.0 here.1
    other_at ne (inr there) = other_else j q ne there

    go : (j ≡ k) ⊎ (j ≢ k) → Q j q
    go (inl e) = subst (λ (i : ℕ). Q i q) (sym e) (mine_at (cases_eq q p))
    go (inr ne) = other_at ne (slot_or_not (P.node j) (P.node k) q p)

-- the facts on k, at a slot that is its own
pub record KAt (P : Play) (k n y x v q : ℕ) (s : State) : Type 0 where
  pub owns : Owns P y k v q
  pub up : y ≤ x
  pub most : x ≤ version P (suc k) v q
  pub passed : x ≡ version P (suc k) v q → s ≡ stood P (suc k) v q

k_at : (P : Play) (a : Core) (l : At ℕ) (s : At State) (o : At (Option ℕ)) (c : ℕ → Computation) (m : ℕ → ℕ) (k p x n : ℕ)
    → Moved P a l s o c m k p x n → (v q : ℕ) → v ≡ P.node k → q ≡ p → KAt P k n (a.local v q) x v q (s v q)
k_at P a l s o c m k p x n mv v q e g =
    subst (λ (u : ℕ). KAt P k n (a.local u q) x u q (s u q)) (sym e)
    (subst (λ (r : ℕ). KAt P k n (a.local (P.node k) r) x (P.node k) r (s (P.node k) r)) (sym g)
    (record {
      owns = mv.owns;
      up = mv.up;
      most = mv.most;
      passed = λ is. mv.box_here (P.node k) p refl refl ∙ sym (never_ends P k n p (mv.never is));
    }))

-- another computation at the slot that moved
other_slot : (P : Play) (j k n y x q i : ℕ) (s t : State) → ((h : ℕ) → Meets P h) → j ≢ k → KAt P k n y x (P.node j) q t
    → AtSlot P j q y i s → AtSlot P j q x i t
other_slot P j k n y x q i s t meets ne at_k old = go (in_order j k)
  where
    own : version P (suc j) (P.node j) q ≡ version P j (P.node j) q + weight (P.decl j) q
    own = version-own P j q

    go : (j < k) ⊎ ((j ≡ k) ⊎ (k < j)) → AtSlot P j q x i t
    go (inl lt) =
        let order : version P (suc j) (P.node j) q ≤ version P k (P.node j) q = version-mono P (suc j) k (P.node j) q (omega arith) in
        let from : version P k (P.node j) q ≤ y = at_k.owns.from in
        let up : y ≤ x = at_k.up in
        record {
          counted = λ b o. let below : x < version P (suc j) (P.node j) q = o.below in absurd (omega arith);
          not_yet = λ w below. old.not_yet w (omega arith);
          no_more = λ w past. old.no_more w (omega arith);
          box = λ o. let below : x < version P (suc j) (P.node j) q = o.below in absurd (omega arith);
        }
    go (inr (inl e)) = absurd (ne e)
    go (inr (inr lt)) =
        let order : version P (suc k) (P.node j) q ≤ version P j (P.node j) q = version-mono P (suc k) j (P.node j) q (omega arith) in
        let up : y ≤ x = at_k.up in
        let below_k : y < version P (suc k) (P.node j) q = at_k.owns.below in
        let most : x ≤ version P (suc k) (P.node j) q = at_k.most in
        record {
          counted = λ b o. let from : version P j (P.node j) q ≤ x = o.from in
              let below : x < version P (suc j) (P.node j) q = o.below in
              let u : Untouched P j i q = untouched P j i q (old.not_yet (omega (arith, own)) (omega arith)) in
              let none : done (point P j i).turns q ≡ zero = u.done in omega arith;
          not_yet = λ w below. old.not_yet w (omega arith);
          no_more = λ w past. absurd (omega (arith, own));
          box = λ o. let from : version P j (P.node j) q ≤ x = o.from in
              let below : x < version P (suc j) (P.node j) q = o.below in
              let u : Untouched P j i q = untouched P j i q (old.not_yet (omega (arith, own)) (omega arith)) in
              let same : version P (suc k) (P.node j) q ≡ version P j (P.node j) q = omega arith in
              at_k.passed (omega arith) ∙ (sym (stood_same P (suc k) j (P.node j) q (λ h _. meets h) (omega arith) same) ∙ sym u.states);
        }

pub moved_slots : (P : Play) (a : Core) (l : At ℕ) (s : At State) (o : At (Option ℕ)) (c : ℕ → Computation) (m : ℕ → ℕ) (k p x n : ℕ)
    → ((j : ℕ) → Meets P j) → Invariant P a → Moved P a l s o c m k p x n
    → (j q : ℕ) → j < a.count → AtSlot P j q (l (P.node j) q) (m j) (s (P.node j) q)
moved_slots P a l s o c m k p x n meets i mv =
    by_cases P k p (λ (j q : ℕ). j < a.count → AtSlot P j q (l (P.node j) q) (m j) (s (P.node j) q)) mine mine_else other other_else
  where
    at_p : AtSlot P k p x n ((point P k n).states p)
    at_p =
        let from : version P k (P.node k) p ≤ a.local (P.node k) p = mv.owns.from in
        let up : a.local (P.node k) p ≤ x = mv.up in
        let most : x ≤ version P (suc k) (P.node k) p = mv.most in
        record {
          counted = λ b ow. mv.counted b ow.below;
          not_yet = λ w below. absurd (omega arith);
          no_more = λ w past. mv.never (omega arith);
          box = λ ow. refl;
        }

    mine : k < a.count → AtSlot P k p (l (P.node k) p) (m k) (s (P.node k) p)
    mine lt =
        at_slot-same P k p _ _ _ _ _ _ (sym (mv.local_here (P.node k) p refl refl)) (sym mv.made_here) (sym (mv.box_here (P.node k) p refl refl)) at_p

    mine_else : (q : ℕ) → q ≢ p → k < a.count → AtSlot P k q (l (P.node k) q) (m k) (s (P.node k) q)
    mine_else q ne lt =
        let old : AtSlot P k q (a.local (P.node k) q) (a.made k) (a.boxes (P.node k) q) = at_slots P a i k q lt in
        let apart : Apart (attempts P k) (point P k (a.made k)) (point P k n) q = mv.others q ne in
        let new : AtSlot P k q (a.local (P.node k) q) n (a.boxes (P.node k) q) = record {
          counted = λ b ow. old.counted b ow ∙ ap (λ (d : ℕ). version P k (P.node k) q + d) (sym apart.done);
          not_yet = λ w below. mv.not_yet q ne (old.not_yet w below);
          no_more = λ w past. apart.never (old.no_more w past);
          box = λ ow. old.box ow ∙ sym apart.states;
        } in
        at_slot-same P k q _ _ _ _ _ _ (sym (mv.local_else (P.node k) q (inr ne))) (sym mv.made_here) (sym (mv.box_else (P.node k) q (inr ne))) new

    other : (j q : ℕ) → j ≢ k → P.node j ≡ P.node k → q ≡ p → j < a.count → AtSlot P j q (l (P.node j) q) (m j) (s (P.node j) q)
    other j q ne e g lt =
        at_slot-same P j q _ _ _ _ _ _ (sym (mv.local_here (P.node j) q e g)) (sym (mv.made_else j ne)) refl
        (other_slot P j k n (a.local (P.node j) q) x q (a.made j) (a.boxes (P.node j) q) (s (P.node j) q) meets ne
        (k_at P a l s o c m k p x n mv (P.node j) q e g) (at_slots P a i j q lt))

    other_else : (j q : ℕ) → j ≢ k → (P.node j ≢ P.node k) ⊎ (q ≢ p) → j < a.count → AtSlot P j q (l (P.node j) q) (m j) (s (P.node j) q)
    other_else j q ne there lt =
        at_slot-same P j q _ _ _ _ _ _ (sym (mv.local_else (P.node j) q there)) (sym (mv.made_else j ne)) (sym (mv.box_else (P.node j) q there)) (at_slots P a i j q lt)

moved_most : (P : Play) (a : Core) (l : At ℕ) (s : At State) (o : At (Option ℕ)) (c : ℕ → Computation) (m : ℕ → ℕ) (k p x n : ℕ)
    → Invariant P a → Moved P a l s o c m k p x n → (v q : ℕ) → l v q ≤ version P a.count v q
moved_most P a l s o c m k p x n i mv v q = go (slot_or_not v (P.node k) q p)
  where
    go : ((v ≡ P.node k) × (q ≡ p)) ⊎ ((v ≢ P.node k) ⊎ (q ≢ p)) → l v q ≤ version P a.count v q
    go (inl here) =
        let at_k : KAt P k n (a.local v q) x v q (s v q) = k_at P a l s o c m k p x n mv v q here.0 here.1 in
        let most : x ≤ version P (suc k) v q = at_k.most in
        let lt : k < a.count = mv.admitted in
        let order : version P (suc k) v q ≤ version P a.count v q = version-mono P (suc k) a.count v q (omega arith) in
        let is : l v q ≡ x = mv.local_here v q here.0 here.1 in
        omega arith
    go (inr there) = subst (λ (y : ℕ). y ≤ version P a.count v q) (sym (mv.local_else v q there)) (i.versions.local v q)

moved_idle : (P : Play) (a : Core) (l : At ℕ) (s : At State) (o : At (Option ℕ)) (c : ℕ → Computation) (m : ℕ → ℕ) (k p x n : ℕ)
    → ((j : ℕ) → Meets P j) → Invariant P a → Moved P a l s o c m k p x n → (v q : ℕ) → l v q ≡ version P a.count v q → s v q ≡ stood P a.count v q
moved_idle P a l s o c m k p x n meets i mv v q e = go (slot_or_not v (P.node k) q p)
  where
    go : ((v ≡ P.node k) × (q ≡ p)) ⊎ ((v ≢ P.node k) ⊎ (q ≢ p)) → s v q ≡ stood P a.count v q
    go (inl here) =
        let at_k : KAt P k n (a.local v q) x v q (s v q) = k_at P a l s o c m k p x n mv v q here.0 here.1 in
        let most : x ≤ version P (suc k) v q = at_k.most in
        let lt : k < a.count = mv.admitted in
        let order : version P (suc k) v q ≤ version P a.count v q = version-mono P (suc k) a.count v q (omega arith) in
        let is : l v q ≡ x = mv.local_here v q here.0 here.1 in
        at_k.passed (omega arith) ∙ sym (stood_same P (suc k) a.count v q (λ h _. meets h) (omega arith) (omega arith))
    go (inr there) = mv.box_else v q there ∙ i.boxes.idle v q (sym (mv.local_else v q there) ∙ e)

moved_out : (P : Play) (a : Core) (l : At ℕ) (s : At State) (o : At (Option ℕ)) (c : ℕ → Computation) (m : ℕ → ℕ) (k p x n : ℕ)
    → Invariant P a → Moved P a l s o c m k p x n → OutRightly P (record a { local = l; boxes = s; out = o; comp = c; made = m })
moved_out P a l s o c m k p x n i mv v q j e = go (slot_or_not v (P.node k) q p)
  where
    next_of : (v ≢ P.node k) ⊎ (q ≢ p) → IsOutRightly P a v q j → (j ≡ k) ⊎ (j ≢ k) → IsNextAt (point P j (m j)).comp q
    next_of there old (inr ne) = subst (λ (d : ℕ). IsNextAt (point P j d).comp q) (sym (mv.made_else j ne)) old.next
    next_of (inl elsewhere) old (inl same) = absurd (elsewhere (old.node ∙ ap (λ (h : ℕ). P.node h) same))
    next_of (inr ne) old (inl same) =
        let is_out : a.out v q ≡ Some j = sym (mv.out_else v q (inr ne)) ∙ e in
        let there : v ≡ P.node k = old.node ∙ ap (λ (h : ℕ). P.node h) same in
        let mine : a.out (P.node k) q ≡ Some k = ap (λ (u : ℕ). a.out u q) (sym there) ∙ (is_out ∙ ap (λ (h : ℕ). Some h) same) in
        subst (λ (h : ℕ). IsNextAt (point P h (m h)).comp q) (sym same)
        (subst (λ (d : ℕ). IsNextAt (point P k d).comp q) (sym mv.made_here) (mv.out_kept q ne mine))

    go : ((v ≡ P.node k) × (q ≡ p)) ⊎ ((v ≢ P.node k) ⊎ (q ≢ p)) → IsOutRightly P (record a { local = l; boxes = s; out = o; comp = c; made = m }) v q j
    go (inl here) = absurd (let no : None ≡ Some j = sym (mv.out_here v q here.0 here.1) ∙ e in cc)
    go (inr there) =
        let old : IsOutRightly P a v q j = i.out v q j (sym (mv.out_else v q there) ∙ e) in
        record {
          admitted = old.admitted;
          node = old.node;
          owns = subst (λ (y : ℕ). Owns P y j v q) (sym (mv.local_else v q there)) old.owns;
          next = next_of there old (cases_eq j k);
        }

moved_up : (P : Play) (a : Core) (l : At ℕ) (s : At State) (o : At (Option ℕ)) (c : ℕ → Computation) (m : ℕ → ℕ) (k p x n : ℕ)
    → Moved P a l s o c m k p x n → (v q : ℕ) → a.local v q ≤ l v q
moved_up P a l s o c m k p x n mv v q = go (slot_or_not v (P.node k) q p)
  where
    go : ((v ≡ P.node k) × (q ≡ p)) ⊎ ((v ≢ P.node k) ⊎ (q ≢ p)) → a.local v q ≤ l v q
    go (inl here) =
        let at_k : KAt P k n (a.local v q) x v q (s v q) = k_at P a l s o c m k p x n mv v q here.0 here.1 in
        let up : a.local v q ≤ x = at_k.up in
        let is : l v q ≡ x = mv.local_here v q here.0 here.1 in omega arith
    go (inr there) = let is : l v q ≡ a.local v q = mv.local_else v q there in omega arith

moved_ended : (P : Play) (a : Core) (l : At ℕ) (s : At State) (o : At (Option ℕ)) (c : ℕ → Computation) (m : ℕ → ℕ) (k p x n : ℕ)
    → Invariant P a → Moved P a l s o c m k p x n → EndedRightly P (record a { local = l; boxes = s; out = o; comp = c; made = m })
moved_ended P a l s o c m k p x n i mv j lt e = go (cases_eq j k)
  where
    old : IsDone P a j
    old = i.ended j lt e

    go : (j ≡ k) ⊎ (j ≢ k) → IsDone P (record a { local = l; boxes = s; out = o; comp = c; made = m }) j
    go (inl same) =
        let d : IsDone P a k = subst (λ (h : ℕ). IsDone P a h) same old in
        let own : version P (suc k) (P.node k) p ≡ version P k (P.node k) p + weight (P.decl k) p = version-own P k p in
        let from : version P k (P.node k) p ≤ a.local (P.node k) p = mv.owns.from in
        let below : a.local (P.node k) p < version P (suc k) (P.node k) p = mv.owns.below in
        let past : version P (suc k) (P.node k) p ≤ a.local (P.node k) p = d.past p (omega arith) in
        absurd (omega arith)
    go (inr ne) = record {
      idle = subst (λ (d : ℕ). IsIdle (point P j d).comp) (sym (mv.made_else j ne)) old.idle;
      past = λ q w. let up : a.local (P.node j) q ≤ l (P.node j) q = moved_up P a l s o c m k p x n mv (P.node j) q in
          let past : version P (suc j) (P.node j) q ≤ a.local (P.node j) q = old.past q w in omega arith;
    }

moved_comp : (P : Play) (a : Core) (l : At ℕ) (s : At State) (o : At (Option ℕ)) (c : ℕ → Computation) (m : ℕ → ℕ) (k p x n : ℕ)
    → Invariant P a → Moved P a l s o c m k p x n → (j : ℕ) → j < a.count → c j ≡ (point P j (m j)).comp
moved_comp P a l s o c m k p x n i mv j lt = go (cases_eq j k)
  where
    go : (j ≡ k) ⊎ (j ≢ k) → c j ≡ (point P j (m j)).comp
    go (inl e) = subst (λ (h : ℕ). c h ≡ (point P h (m h)).comp) (sym e) (mv.comp_here ∙ ap (λ (d : ℕ). (point P k d).comp) (sym mv.made_here))
    go (inr ne) = mv.comp_else j ne ∙ (i.calls.comp j lt ∙ ap (λ (d : ℕ). (point P j d).comp) (sym (mv.made_else j ne)))

moved_made : (P : Play) (a : Core) (l : At ℕ) (s : At State) (o : At (Option ℕ)) (c : ℕ → Computation) (m : ℕ → ℕ) (k p x n : ℕ)
    → Invariant P a → Moved P a l s o c m k p x n → (j : ℕ) → j < a.count → m j ≤ turns P j
moved_made P a l s o c m k p x n i mv j lt = go (cases_eq j k)
  where
    go : (j ≡ k) ⊎ (j ≢ k) → m j ≤ turns P j
    go (inl e) = subst (λ (h : ℕ). m h ≤ turns P h) (sym e) (subst (λ (d : ℕ). d ≤ turns P k) (sym mv.made_here) mv.within)
    go (inr ne) = subst (λ (d : ℕ). d ≤ turns P j) (sym (mv.made_else j ne)) (i.calls.made j lt)

pub moved_keeps : (P : Play) (a : Core) (l : At ℕ) (s : At State) (o : At (Option ℕ)) (c : ℕ → Computation) (m : ℕ → ℕ) (k p x n : ℕ)
    → ((j : ℕ) → Meets P j) → Invariant P a → Moved P a l s o c m k p x n → Invariant P (record a { local = l; boxes = s; out = o; comp = c; made = m })
moved_keeps P a l s o c m k p x n meets i mv =
    let slots : (j q : ℕ) → j < a.count → AtSlot P j q (l (P.node j) q) (m j) (s (P.node j) q) = moved_slots P a l s o c m k p x n meets i mv in
    record {
      booked = record { present = i.booked.present; table = i.booked.table; from = i.booked.from; private = i.booked.private };
      versions = record {
        global = i.versions.global;
        local = moved_most P a l s o c m k p x n i mv;
        counted = λ j q lt. let at_slot : AtSlot P j q (l (P.node j) q) (m j) (s (P.node j) q) = slots j q lt in at_slot.counted;
      };
      not_yet = λ j q lt. let at_slot : AtSlot P j q (l (P.node j) q) (m j) (s (P.node j) q) = slots j q lt in at_slot.not_yet;
      no_more = λ j q lt. let at_slot : AtSlot P j q (l (P.node j) q) (m j) (s (P.node j) q) = slots j q lt in at_slot.no_more;
      out = moved_out P a l s o c m k p x n i mv;
      boxes = record {
        owned = λ j q lt. let at_slot : AtSlot P j q (l (P.node j) q) (m j) (s (P.node j) q) = slots j q lt in at_slot.box;
        idle = moved_idle P a l s o c m k p x n meets i mv;
      };
      calls = record { comp = moved_comp P a l s o c m k p x n i mv; made = moved_made P a l s o c m k p x n i mv };
      ended = moved_ended P a l s o c m k p x n i mv;
    }
