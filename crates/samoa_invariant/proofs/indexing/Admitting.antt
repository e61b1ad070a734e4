-- The index goes on with an admission, and begins anew with a clear.
use Rattle.std.proofs.Common.{arith, ◌≡◌, ◌≢◌, ◌↔◌, ℕ, suc, ◌+◌, ◌≤◌, ◌<◌, ◌⊎◌, inl, inr, refl, sym, ap, ◌∙◌, subst, Bool, true, false, ◌&&◌, ◌==◌, if◌then◌else◌, Option, Some, None, eq-eqb, ne_eqb}
use Rattle.std.proofs.lemmas.Bool.{cases_eq}
use Rattle.samoa_model.specs.Allowed.{weight}
use Rattle.samoa_invariant.specs.Slots.{At}
use Rattle.samoa_invariant.specs.Play.{Play, weight_at}
use Rattle.samoa_invariant.specs.State.{CanEnd, CanRelease, Core, Step, admit, made_by, put}
use Rattle.samoa_invariant.specs.Inv.{Invariant}
use Rattle.samoa_invariant.specs.Index.{Declares, Index, IsAfter, IsFree, IsHead, IsHeadOf, IsIndexed, IsLast, IsNextOf, IsTail, IsTailOf, IsUnmarked, MayEnter, Notes, TellsNamed, TellsNotes, admitted, is_tail, or_else}
use Rattle.samoa_invariant.proofs.preservation.Slots.{put-else, put-here}
use Rattle.samoa_invariant.proofs.preservation.Versions.{in_order, weight_at-is}
use Rattle.samoa_invariant.proofs.indexing.Carried.{Carries, carried_end, carried_enter, carried_release}
use Rattle.samoa_invariant.proofs.indexing.Moves.{is_or_not}

private_else : (P : Play) (core : Core) (v p j : ℕ) → j < core.count → (admit P core).private j v p ≡ core.private j v p
private_else P core v p j lt = ap (λ (f : At ℕ). f v p) (put-else core.private core.count j _ (λ (e : j ≡ core.count). omega arith))

private_here : (P : Play) (core : Core) (v p : ℕ) → (admit P core).private core.count v p ≡ core.global v p + weight_at P core.count v p
private_here P core v p = ap (λ (f : At ℕ). f v p) (put-here core.private core.count core.count _ refl)

-- who is admitted comes last in its queues, and first where they were empty
head_on : (P : Play) (core : Core) (v p k : ℕ) → IsHead P core v p k → IsHead P (admit P core) v p k
head_on P core v p k head = record {
  admitted = omega (arith, head.admitted);
  declares = head.declares;
  short = omega (arith, private_else P core v p k head.admitted, head.short);
  before = λ j less d. omega (arith, private_else P core v p j (omega (arith, head.admitted, less)), head.before j less d);
}

free_heads : (P : Play) (core : Core) (v p : ℕ) → Invariant P core → IsFree P core v p → Declares P v p core.count → IsHead P (admit P core) v p core.count
free_heads P core v p inv free d = record {
  admitted = omega arith;
  declares = d;
  short = omega (arith, private_here P core v p, inv.versions.global v p, inv.versions.local v p, weight_at-is P core.count v p d.node, d.some);
  before = λ j less here. omega (arith, private_else P core v p j less, free j less here);
}

still_free : (P : Play) (core : Core) (v p : ℕ) → IsFree P core v p → (Declares P v p core.count → ⊥) → IsFree P (admit P core) v p
still_free P core v p free none j lt d = go (cases_eq j core.count)
  where
    go : (j ≡ core.count) ⊎ (j ≢ core.count) → (admit P core).private j v p ≤ core.local v p
    go (inl same) = absurd (none (subst (λ (n : ℕ). Declares P v p n) same d))
    go (inr ne) = omega (arith, private_else P core v p j (omega arith), free j (omega arith) d)

head_named : (P : Play) (core : Core) (v p : ℕ) (x : Option ℕ) → Invariant P core → IsHeadOf P core v p x → Declares P v p core.count → IsHeadOf P (admit P core) v p (or_else x core.count)
head_named P core v p None inv free d = free_heads P core v p inv free d
head_named P core v p (Some j) inv head d = head_on P core v p j head

head_not : (P : Play) (core : Core) (v p : ℕ) (x : Option ℕ) → IsHeadOf P core v p x → (Declares P v p core.count → ⊥) → IsHeadOf P (admit P core) v p x
head_not P core v p None free none = still_free P core v p free none
head_not P core v p (Some j) head none = head_on P core v p j head

tail_named : (P : Play) (first count v p : ℕ) → first ≤ count → Declares P v p count → IsTail P first (suc count) v p count
tail_named P first count v p from d = record { from = from; admitted = omega arith; declares = d; last = λ j more lt. absurd (omega arith) }

tail_not : (P : Play) (first count v p : ℕ) (x : Option ℕ) → IsTailOf P first count v p x → (Declares P v p count → ⊥) → IsTailOf P first (suc count) v p x
tail_not P first count v p None old none = λ j from lt d. go j from lt d (cases_eq j count)
  where
    go : (j : ℕ) → first ≤ j → j < suc count → Declares P v p j → (j ≡ count) ⊎ (j ≢ count) → ⊥
    go j from lt d (inl same) = none (subst (λ (n : ℕ). Declares P v p n) same d)
    go j from lt d (inr ne) = old j from (omega arith) d
tail_not P first count v p (Some t) old none = record {
  from = old.from;
  admitted = omega (arith, old.admitted);
  declares = old.declares;
  last = λ j more lt d. go j more lt d (cases_eq j count);
}
  where
    go : (j : ℕ) → t < j → j < suc count → Declares P v p j → (j ≡ count) ⊎ (j ≢ count) → ⊥
    go j more lt d (inl same) = none (subst (λ (n : ℕ). Declares P v p n) same d)
    go j more lt d (inr ne) = old.last j more (omega arith) d

-- the tail is who is last
tail_is : (P : Play) (first count v p : ℕ) (x : Option ℕ) (j : ℕ) → IsTailOf P first count v p x → first ≤ j → j < count → Declares P v p j
    → ((i : ℕ) → j < i → i < count → Declares P v p i → ⊥) → x ≡ Some j
tail_is P first count v p None j none from lt d last = absurd (none j from lt d)
tail_is P first count v p (Some t) j tail from lt d last = go (in_order t j)
  where
    go : (t < j) ⊎ ((t ≡ j) ⊎ (j < t)) → Some t ≡ Some j
    go (inl less) = absurd (tail.last j less lt d)
    go (inr (inl same)) = ap (λ (n : ℕ). Some n) same
    go (inr (inr more)) = absurd (last t more tail.admitted tail.declares)

-- who came last before has who is admitted next
next_named : (P : Play) (first count v p j : ℕ) → IsTail P first count v p j → Declares P v p count → IsAfter P (suc count) j p count
next_named P first count v p j tail d = record {
  admitted = omega arith;
  later = tail.admitted;
  declares = record { node = sym tail.declares.node ∙ d.node; some = d.some };
  between = λ i more less here. tail.last i more less (record { node = tail.declares.node ∙ here.node; some = here.some });
}

next_not : (P : Play) (count j p : ℕ) (x : Option ℕ) → IsNextOf P count j p x → (IsLast P count j p → Declares P (P.node j) p count → ⊥) → IsNextOf P (suc count) j p x
next_not P count j p None last none = λ i more lt d. go i more lt d (cases_eq i count)
  where
    go : (i : ℕ) → j < i → i < suc count → Declares P (P.node j) p i → (i ≡ count) ⊎ (i ≢ count) → ⊥
    go i more lt d (inl same) = none last (subst (λ (n : ℕ). Declares P (P.node j) p n) same d)
    go i more lt d (inr ne) = last i more (omega arith) d
next_not P count j p (Some i) after none = record { admitted = omega (arith, after.admitted); later = after.later; declares = after.declares; between = after.between }

-- the tests of an admission
or_not : (b : Bool) → (b ≡ true) ⊎ (b ≡ false)
or_not true = inl refl
or_not false = inr refl

and_here : (v node : ℕ) (b : Bool) → v ≡ node → b ≡ true → ((v == node) && b) ≡ true
and_here v node b e is = rw (eq-eqb v node e, is) refl

and_false : (b : Bool) → (b && false) ≡ false
and_false true = refl
and_false false = refl

and_else : (v node : ℕ) (b : Bool) → (v ≢ node) ⊎ (b ≡ false) → ((v == node) && b) ≡ false
and_else v node b (inl ne) = rw (ne_eqb v node ne) refl
and_else v node b (inr isnt) = rw isnt (and_false (v == node))

is_tail-here : (x : Option ℕ) (j : ℕ) → x ≡ Some j → is_tail x j ≡ true
is_tail-here x j e = ap (λ (y : Option ℕ). is_tail y j) e ∙ eq-eqb j j refl

is_tail-else : (x : Option ℕ) (j : ℕ) → x ≢ Some j → is_tail x j ≡ false
is_tail-else None j ne = refl
is_tail-else (Some t) j ne = ne_eqb t j (λ (e : t ≡ j). ne (ap (λ (n : ℕ). Some n) e))

-- each computation but who is admitted is as before
carries_on : (P : Play) (core : Core) (j : ℕ) → j ≢ core.count → Carries P core (admit P core) j
carries_on P core j ne = record {
  admitted = λ lt. omega arith;
  comp = put-else core.comp core.count j _ ne;
  table = put-else core.table core.count j _ ne;
  from = λ q. ap (λ (f : At ℕ). f (P.node j) q) (put-else core.from core.count j _ ne);
  private = λ q. ap (λ (f : At ℕ). f (P.node j) q) (put-else core.private core.count j _ ne);
  ended = put-else core.ended core.count j false ne;
  out = λ v q e. e;
}

carries_back : (P : Play) (core : Core) (j : ℕ) → j ≢ core.count → Carries P (admit P core) core j
carries_back P core j ne = record {
  admitted = λ lt. omega arith;
  comp = sym (put-else core.comp core.count j _ ne);
  table = sym (put-else core.table core.count j _ ne);
  from = λ q. sym (ap (λ (f : At ℕ). f (P.node j) q) (put-else core.from core.count j _ ne));
  private = λ q. sym (ap (λ (f : At ℕ). f (P.node j) q) (put-else core.private core.count j _ ne));
  ended = sym (put-else core.ended core.count j false ne);
  out = λ v q e. e;
}

named_or_not : (P : Play) (core : Core) (named : ℕ → Bool) → TellsNamed P core.count named → (v p : ℕ)
    → (((v == P.node core.count) && named p) ≡ true × Declares P v p core.count) ⊎ (((v == P.node core.count) && named p) ≡ false × (Declares P v p core.count → ⊥))
named_or_not P core named names v p = go (cases_eq v (P.node core.count)) (or_not (named p))
  where
    go : (v ≡ P.node core.count) ⊎ (v ≢ P.node core.count) → (named p ≡ true) ⊎ (named p ≡ false)
        → (((v == P.node core.count) && named p) ≡ true × Declares P v p core.count) ⊎ (((v == P.node core.count) && named p) ≡ false × (Declares P v p core.count → ⊥))
    go (inl e) (inl is) = inl (and_here v (P.node core.count) (named p) e is, record { node = e; some = (names p).0 is })
    go (inl e) (inr isnt) = inr (and_else v (P.node core.count) (named p) (inr isnt), λ d. let never : true ≡ false = sym ((names p).1 d.some) ∙ isnt in absurd cc)
    go (inr ne) b = inr (and_else v (P.node core.count) (named p) (inl ne), λ d. ne d.node)

-- who is admitted comes last in the queues that it declares, and this is noted of it
pub admitted_indexed : (P : Play) (first : ℕ) (core : Core) (index : Index) (named : ℕ → Bool) (notes : Notes) → Invariant P core → IsIndexed P first core index
    → TellsNamed P core.count named → TellsNotes P (made_by P core Step.Admit) core.count notes
    → IsIndexed P first (made_by P core Step.Admit) (admitted index core.count (P.node core.count) named notes)
admitted_indexed P first core index named notes inv is names may = record {
  begun = omega (arith, is.begun);
  cleared = λ j less. put-else core.ended core.count j false (λ (e : j ≡ core.count). omega (arith, is.begun)) ∙ is.cleared j less;
  heads = λ u q. heads u q (named_or_not P core named names u q);
  tails = λ u q. tails u q (named_or_not P core named names u q);
  nexts = λ j q from lt some. nexts j q from lt some (cases_eq j core.count);
  ready = λ j from lt. ready j from lt (cases_eq j core.count);
  restless = λ j q now. restless j q now (cases_eq j core.count);
  closing = λ j now. closing j now (cases_eq j core.count);
  unadmitted = λ j le. unadmitted j le;
}
  where
    heads : (u q : ℕ) → (((u == P.node core.count) && named q) ≡ true × Declares P u q core.count) ⊎ (((u == P.node core.count) && named q) ≡ false × (Declares P u q core.count → ⊥))
        → IsHeadOf P (admit P core) u q ((admitted index core.count (P.node core.count) named notes).head u q)
    heads u q (inl (e, d)) = rw e (head_named P core u q (index.head u q) inv (is.heads u q) d)
    heads u q (inr (e, none)) = rw e (head_not P core u q (index.head u q) (is.heads u q) none)

    tails : (u q : ℕ) → (((u == P.node core.count) && named q) ≡ true × Declares P u q core.count) ⊎ (((u == P.node core.count) && named q) ≡ false × (Declares P u q core.count → ⊥))
        → IsTailOf P first (suc core.count) u q ((admitted index core.count (P.node core.count) named notes).tail u q)
    tails u q (inl (e, d)) = rw e (tail_named P first core.count u q is.begun d)
    tails u q (inr (e, none)) = rw e (tail_not P first core.count u q (index.tail u q) (is.tails u q) none)

    nexts : (j q : ℕ) → first ≤ j → j < suc core.count → 0 < weight (P.decl j) q → (j ≡ core.count) ⊎ (j ≢ core.count)
        → IsNextOf P (suc core.count) j q ((admitted index core.count (P.node core.count) named notes).next j q)
    nexts j q from lt some (inl e) = rw (eq-eqb j core.count e) (λ i more less d. absurd (omega arith))
    nexts j q from lt some (inr ne) = rw (ne_eqb j core.count ne) (go (or_not (named q)) (is_or_not (index.tail (P.node core.count) q) j))
      where
        old : IsNextOf P core.count j q (index.next j q)
        old = is.nexts j q from (omega arith) some

        unnamed : named q ≡ false → Declares P (P.node j) q core.count → ⊥
        unnamed isnt d = let never : true ≡ false = sym ((names q).1 d.some) ∙ isnt in absurd cc

        go : (named q ≡ true) ⊎ (named q ≡ false) → (index.tail (P.node core.count) q ≡ Some j) ⊎ (index.tail (P.node core.count) q ≢ Some j)
            → IsNextOf P (suc core.count) j q (if named q && is_tail (index.tail (P.node core.count) q) j then Some core.count else index.next j q)
        go (inr isnt) tail = rw isnt (next_not P core.count j q (index.next j q) old (λ last d. unnamed isnt d))
        go (inl named) (inl e) =
            rw (named, is_tail-here (index.tail (P.node core.count) q) j e)
            (next_named P first core.count (P.node core.count) q j (subst (λ (x : Option ℕ). IsTailOf P first core.count (P.node core.count) q x) e (is.tails (P.node core.count) q))
            (record { node = refl; some = (names q).0 named }))
        go (inl named) (inr isnt) =
            rw (named, is_tail-else (index.tail (P.node core.count) q) j isnt)
            (next_not P core.count j q (index.next j q) old (λ last d. isnt (tail_is P first core.count (P.node core.count) q (index.tail (P.node core.count) q) j
            (is.tails (P.node core.count) q) from (omega arith) (record { node = sym d.node; some = some })
            (λ i more less here. last i more less (record { node = d.node ∙ here.node; some = here.some })))))

    ready : (j : ℕ) → first ≤ j → j < suc core.count → (j ≡ core.count) ⊎ (j ≢ core.count) → put index.ready core.count notes.enters j ≡ true ↔ MayEnter P (admit P core) j
    ready j from lt (inl e) =
        subst (λ (n : ℕ). put index.ready core.count notes.enters n ≡ true ↔ MayEnter P (admit P core) n) (sym e)
        (subst (λ (b : Bool). b ≡ true ↔ MayEnter P (admit P core) core.count) (sym (put-here index.ready core.count core.count notes.enters refl)) may.entry)
    ready j from lt (inr ne) =
        let old : index.ready j ≡ true ↔ MayEnter P core j = is.ready j from (omega arith) in
        (λ on. let m : MayEnter P core j = old.0 (sym (put-else index.ready core.count j notes.enters ne) ∙ on) in (m.0, carried_enter P core (admit P core) j m.0 (carries_on P core j ne) refl (λ home. home) m.1), λ m. put-else index.ready core.count j notes.enters ne ∙ old.1 (m.0, carried_enter P (admit P core) core j m.0 (carries_back P core j ne) refl (λ home. home) m.1))

    restless : (j q : ℕ) → CanRelease P (admit P core) j q → (j ≡ core.count) ⊎ (j ≢ core.count) → put index.restless core.count notes.restless j ≡ true
    restless j q now (inl e) = put-here index.restless core.count j notes.restless e ∙ may.release q (subst (λ (n : ℕ). CanRelease P (admit P core) n q) e now)
    restless j q now (inr ne) = put-else index.restless core.count j notes.restless ne ∙ is.restless j q (carried_release P (admit P core) core j q (carries_back P core j ne) refl now)

    closing : (j : ℕ) → CanEnd P (admit P core) j → (j ≡ core.count) ⊎ (j ≢ core.count) → put index.closing core.count notes.closing j ≡ true
    closing j now (inl e) = put-here index.closing core.count j notes.closing e ∙ may.end (subst (λ (n : ℕ). CanEnd P (admit P core) n) e now)
    closing j now (inr ne) = put-else index.closing core.count j notes.closing ne ∙ is.closing j (carried_end P (admit P core) core j (carries_back P core j ne) (λ q some le. le) now)

    unadmitted : (j : ℕ) → suc core.count ≤ j → IsUnmarked (admitted index core.count (P.node core.count) named notes) j
    unadmitted j le =
        let ne : j ≢ core.count = λ (e : j ≡ core.count). omega arith in
        let old : IsUnmarked index j = is.unadmitted j (omega arith) in
        record {
          ready = put-else index.ready core.count j notes.enters ne ∙ old.ready;
          restless = put-else index.restless core.count j notes.restless ne ∙ old.restless;
          closing = put-else index.closing core.count j notes.closing ne ∙ old.closing;
        }
