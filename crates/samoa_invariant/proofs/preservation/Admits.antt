-- An admission keeps the invariant.
use Rattle.std.proofs.Common.{arith, ◌≡◌, ◌≢◌, ℕ, zero, suc, ◌+◌, ◌≤◌, ◌<◌, ◌⊎◌, inl, inr, refl, sym, ap, ◌∙◌, subst, Bool, true, false}
use Rattle.samoa_serial.specs.Calls.{Computation, start}
use Rattle.samoa_model.specs.Scripts.{Table}
use Rattle.samoa_serial.specs.World.{attempts_of}
use Rattle.samoa_model.specs.Allowed.{weight}
use Rattle.samoa_invariant.specs.Play.{Play, weight_at, version, point, stood, turns, table_at, table_of, IsIdle}
use Rattle.samoa_invariant.specs.State.{Core, put, admit, IsNextAt}
use Rattle.samoa_invariant.specs.Inv.{Meets, Invariant, OutRightly, IsOutRightly, IsDone, EndedRightly}
use Rattle.std.proofs.lemmas.Bool.{cases_eq}
use Rattle.samoa_invariant.proofs.preservation.Versions.{if_here, if_else, version-own}
use Rattle.samoa_invariant.proofs.refinement.Points.{undeclared_at}
use Rattle.samoa_invariant.proofs.preservation.Slots.{put-here, put-else, AtSlot, at_slots, at_slot-same}

pub last_or : (Q : ℕ → Type 0) (n : ℕ) → Q n → ((j : ℕ) → j < n → j ≢ n → Q j) → (j : ℕ) → j < suc n → Q j
last_or Q n last before j lt = go (cases_eq j n)
  where
    go : (j ≡ n) ⊎ (j ≢ n) → Q j
    go (inl e) = subst Q (sym e) last
    go (inr ne) = before j (omega arith) ne

admit_present : (P : Play) (core : Core) → Invariant P core → (v : ℕ) → (admit P core).present v ≡ table_at P (suc core.count) v
admit_present P core i v = go (cases_eq v (P.node core.count))
  where
    k : ℕ
    k = core.count

    go : (v ≡ P.node k) ⊎ (v ≢ P.node k) → (admit P core).present v ≡ table_at P (suc k) v
    go (inl e) =
        put-here {A = Table} core.present (P.node k) v (P.change k (core.present (P.node k))) e
        ∙ (ap (λ (t : Table). P.change k t) (i.booked.present (P.node k))
        ∙ (ap (λ (u : ℕ). P.change k (table_at P k u)) (sym e)
        ∙ sym (if_here {A = Table} v (P.node k) (P.change k (table_at P k v)) (table_at P k v) e)))
    go (inr ne) =
        put-else {A = Table} core.present (P.node k) v (P.change k (core.present (P.node k))) ne
        ∙ (i.booked.present v
        ∙ sym (if_else {A = Table} v (P.node k) (P.change k (table_at P k v)) (table_at P k v) ne))

admit_table : (P : Play) (core : Core) → Invariant P core → P.change core.count (core.present (P.node core.count)) ≡ table_of P core.count
admit_table P core i =
    let k : ℕ = core.count in
    ap (λ (t : Table). P.change k t) (i.booked.present (P.node k))
    ∙ sym (if_here {A = Table} (P.node k) (P.node k) (P.change k (table_at P k (P.node k))) (table_at P k (P.node k)) refl)

admit_slots : (P : Play) (core : Core) → Invariant P core → (j q : ℕ) → j < suc core.count
    → AtSlot P j q (core.local (P.node j) q) (put core.made core.count zero j) (core.boxes (P.node j) q)
admit_slots P core i j q lt =
    last_or (λ (a : ℕ). AtSlot P a q (core.local (P.node a) q) (put core.made k zero a) (core.boxes (P.node a) q)) k
    (at_slot-same P k q _ _ zero _ _ _ refl (sym (put-here {A = ℕ} core.made k k zero refl)) refl last)
    (λ a lt' ne. at_slot-same P a q _ _ (core.made a) _ _ _ refl (sym (put-else {A = ℕ} core.made k a zero ne)) refl (at_slots P core i a q lt'))
    j lt
  where
    k : ℕ
    k = core.count

    le : core.local (P.node core.count) q ≤ version P core.count (P.node core.count) q
    le = i.versions.local (P.node core.count) q

    own : version P (suc core.count) (P.node core.count) q ≡ version P core.count (P.node core.count) q + weight (P.decl core.count) q
    own = version-own P core.count q

    last : AtSlot P core.count q (core.local (P.node core.count) q) zero (core.boxes (P.node core.count) q)
    last = record {
      counted = λ b o. let from : version P core.count (P.node core.count) q ≤ core.local (P.node core.count) q = o.from in omega (arith, le);
      not_yet = λ w below j h. absurd (omega (arith, h));
      no_more = λ w past. absurd (omega (arith, le, own, w, past));
      box = λ o. i.boxes.idle (P.node core.count) q (omega (arith, le, o.from));
    }

admit_idle : (P : Play) (core : Core) → Meets P core.count → Invariant P core → (v p : ℕ) → core.local v p ≡ version P (suc core.count) v p
    → core.boxes v p ≡ stood P (suc core.count) v p
admit_idle P core meets i v p e =
    let le : core.local v p ≤ version P core.count v p = i.versions.local v p in
    let none : weight_at P core.count v p ≡ zero = omega (arith, le, e) in
    i.boxes.idle v p (omega (arith, le, e)) ∙ sym (undeclared_at P core.count v p meets none)

admit_comp : (P : Play) (core : Core) → Invariant P core → (j : ℕ) → j < suc core.count
    → (admit P core).comp j ≡ (point P j (put core.made core.count zero j)).comp
admit_comp P core i =
    let k : ℕ = core.count in
    let new : Table = P.change k (core.present (P.node k)) in
    let first : Computation = start (attempts_of (P.decl k) new) (P.budget k) (P.root k) (P.args k) in
    last_or (λ (a : ℕ). put core.comp k first a ≡ (point P a (put core.made k zero a)).comp) k
    (put-here {A = Computation} core.comp k k first refl
    ∙ (ap (λ (t : Table). start (attempts_of (P.decl k) t) (P.budget k) (P.root k) (P.args k)) (admit_table P core i)
    ∙ ap (λ (n : ℕ). (point P k n).comp) (sym (put-here {A = ℕ} core.made k k zero refl))))
    (λ a lt ne. put-else {A = Computation} core.comp k a first ne
    ∙ (i.calls.comp a lt ∙ ap (λ (n : ℕ). (point P a n).comp) (sym (put-else {A = ℕ} core.made k a zero ne))))

admit_made : (P : Play) (core : Core) → Invariant P core → (j : ℕ) → j < suc core.count → put core.made core.count zero j ≤ turns P j
admit_made P core i =
    let k : ℕ = core.count in
    last_or (λ (a : ℕ). put core.made k zero a ≤ turns P a) k
    (subst (λ (n : ℕ). n ≤ turns P k) (sym (put-here {A = ℕ} core.made k k zero refl)) (omega arith))
    (λ a lt ne. subst (λ (n : ℕ). n ≤ turns P a) (sym (put-else {A = ℕ} core.made k a zero ne)) (i.calls.made a lt))

admit_out : (P : Play) (core : Core) → Invariant P core → OutRightly P (admit P core)
admit_out P core i v p k e =
    let o : IsOutRightly P core v p k = i.out v p k e in
    let lt : k < core.count = o.admitted in
    let ne : k ≢ core.count = λ same. absurd (omega arith) in
    record {
      admitted = omega arith;
      node = o.node;
      owns = o.owns;
      next = subst (λ (n : ℕ). IsNextAt (point P k n).comp p) (sym (put-else {A = ℕ} core.made core.count k zero ne)) o.next;
    }

admit_ended : (P : Play) (core : Core) → Invariant P core → EndedRightly P (admit P core)
admit_ended P core i =
    let k : ℕ = core.count in
    last_or (λ (a : ℕ). put core.ended k false a ≡ true → IsDone P (admit P core) a) k
    (λ e. absurd (let no : false ≡ true = sym (put-here {A = Bool} core.ended k k false refl) ∙ e in cc))
    (λ a lt ne e. let d : IsDone P core a = i.ended a lt (sym (put-else {A = Bool} core.ended k a false ne) ∙ e) in
    record {
      idle = subst (λ (n : ℕ). IsIdle (point P a n).comp) (sym (put-else {A = ℕ} core.made k a zero ne)) d.idle;
      past = d.past;
    })

pub admit_keeps : (P : Play) (core : Core) → Meets P core.count → Invariant P core → Invariant P (admit P core)
admit_keeps P core meets i = record {
  booked = record {
    present = admit_present P core i;
    table = last_or (λ (a : ℕ). (admit P core).table a ≡ table_of P a) core.count
        (put-here {A = Table} core.table core.count core.count _ refl ∙ admit_table P core i)
        (λ a lt ne. put-else {A = Table} core.table core.count a _ ne ∙ i.booked.table a lt);
    from = λ j v p lt. last_or (λ (a : ℕ). (admit P core).from a v p ≡ version P a v p) core.count
        (ap (λ (f : ℕ → ℕ → ℕ). f v p) (put-here {A = ℕ → ℕ → ℕ} core.from core.count core.count core.global refl) ∙ i.versions.global v p)
        (λ a lt' ne. ap (λ (f : ℕ → ℕ → ℕ). f v p) (put-else {A = ℕ → ℕ → ℕ} core.from core.count a core.global ne) ∙ i.booked.from a v p lt')
        j lt;
    private = λ j v p lt. last_or (λ (a : ℕ). (admit P core).private a v p ≡ version P (suc a) v p) core.count
        (ap (λ (f : ℕ → ℕ → ℕ). f v p) (put-here {A = ℕ → ℕ → ℕ} core.private core.count core.count (λ u q. core.global u q + weight_at P core.count u q) refl)
        ∙ ap (λ (x : ℕ). x + weight_at P core.count v p) (i.versions.global v p))
        (λ a lt' ne. ap (λ (f : ℕ → ℕ → ℕ). f v p) (put-else {A = ℕ → ℕ → ℕ} core.private core.count a (λ u q. core.global u q + weight_at P core.count u q) ne) ∙ i.booked.private a v p lt')
        j lt;
  };
  versions = record {
    global = λ v p. ap (λ (x : ℕ). x + weight_at P core.count v p) (i.versions.global v p);
    local = λ v p. let le : core.local v p ≤ version P core.count v p = i.versions.local v p in omega arith;
    counted = λ j q lt. let a : AtSlot P j q (core.local (P.node j) q) (put core.made core.count zero j) (core.boxes (P.node j) q) = admit_slots P core i j q lt in a.counted;
  };
  not_yet = λ j q lt. let a : AtSlot P j q (core.local (P.node j) q) (put core.made core.count zero j) (core.boxes (P.node j) q) = admit_slots P core i j q lt in a.not_yet;
  no_more = λ j q lt. let a : AtSlot P j q (core.local (P.node j) q) (put core.made core.count zero j) (core.boxes (P.node j) q) = admit_slots P core i j q lt in a.no_more;
  out = admit_out P core i;
  boxes = record {
    owned = λ j q lt. let a : AtSlot P j q (core.local (P.node j) q) (put core.made core.count zero j) (core.boxes (P.node j) q) = admit_slots P core i j q lt in a.box;
    idle = admit_idle P core meets i;
  };
  calls = record { comp = admit_comp P core i; made = admit_made P core i };
  ended = admit_ended P core i;
}
