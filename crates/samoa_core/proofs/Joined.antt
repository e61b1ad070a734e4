-- A computation that was just admitted joins its queues.
use Rattle.std.proofs.Common.{arith, ◌≡◌, ◌≢◌, ◌⊎◌, inl, inr, ◌↔◌, ℕ, suc, ◌+◌, ◌-◌, ◌*◌, ◌<◌, ◌≤◌, refl, sym, ap, subst, ◌∙◌, List, ◌++◌, length, set, Bool, true, false, ◌&&◌, ◌==◌, if◌then◌else◌, Option, Some, None}
use Rattle.std.specs.Prelude.{nat_lt, slice_get}
use Rattle.std.proofs.lemmas.Bool.{cases_eq, eq-eqb, le-ltb, lt-ltb, ltb-true, ne_eqb}
use Rattle.samoa_model.specs.Allowed.{weight}
use Rattle.samoa_model.specs.declared.record.Ext.{Ext}
use Rattle.samoa_model.specs.declared.record.Step.{Step}
use Rattle.samoa_invariant.specs.Index.{Index, IsIndexed, IsTailOf, TellsNamed, TellsNotes, is_tail, left, or_else, admitted as admitted_by}
use Rattle.samoa_invariant.specs.Inv.{Invariant}
use Rattle.samoa_invariant.specs.Play.{Agree, Play}
use Rattle.samoa_invariant.specs.State as model
use Rattle.samoa_invariant.specs.Runs.{IsRun, Trace, ext_at, play, state, with_ext}
use Rattle.samoa_invariant.proofs.indexing.Admitting.{admitted_indexed}
use Rattle.samoa_invariant.proofs.indexing.Calm.{indexed-agree}
use Rattle.samoa_invariant.proofs.representation.Traces.{invariant, is_run-with_ext, state-ext, state-step}
use Rattle.samoa_control.specs.Admission.{admitted}
use Rattle.samoa_control.specs.Grids.{Grid}
use Rattle.samoa_control.specs.Since.{cleared_comps}
use Rattle.samoa_control.specs.Sound.{IsSound}
use Rattle.samoa_control.proofs.Admitted.{agree}
use Rattle.samoa_control.proofs.Declares.{declares_known}
use Rattle.samoa_control.proofs.Grids.{grid-same, grid-set, grid-within}
use Rattle.samoa_control.proofs.Since.{cleared-ext, cleared-step}
use Rattle.samoa_control.specs.Known.{decl_number}
use Rattle.samoa_core.specs.Indexed.{IsIndexedBy, IsKeptAt, Keeps, Table}
use Rattle.samoa_core.specs.Joining.{HasAdmitted, HasRowFor, Joins, TailsWithin, WasKeptFor, joined, last_node, last_one, named_to}
use Rattle.samoa_core.specs.Passing.{HasLeft}
use Rattle.samoa_core.specs.Rows.{IsBlank, Rows, linked}
use Rattle.samoa_core.proofs.Tables.{table-append, table-blank, table-same, table-set}

-- tests of those that are named among the first ones
none_first : (b : Bool) (p : ℕ) → (b && nat_lt p 0) ≡ false
none_first true p = le-ltb p 0 (omega arith)
none_first false p = refl

next_same : (b : Bool) (p m : ℕ) → p ≢ m → (b && nat_lt p (m + 1)) ≡ (b && nat_lt p m)
next_same false p m ne = refl
next_same true p m ne = go (below p m)
  where
    below : (i n : ℕ) → (i < n) ⊎ (n ≤ i)
    below i n = grind arith

    go : (p < m) ⊎ (m ≤ p) → nat_lt p (m + 1) ≡ nat_lt p m
    go (inl lt) = lt-ltb p (m + 1) (omega (arith, lt)) ∙ sym (lt-ltb p m lt)
    go (inr le) = le-ltb p (m + 1) (omega (arith, le, ne)) ∙ sym (le-ltb p m le)

not_yet : (b : Bool) (m : ℕ) → (b && nat_lt m m) ≡ false
not_yet true m = le-ltb m m (omega arith)
not_yet false m = refl

now_named : (b : Bool) (m : ℕ) → b ≡ true → (b && nat_lt m (m + 1)) ≡ true
now_named b m e = rw e (lt-ltb m (m + 1) (omega arith))

not_named : (b : Bool) (p m : ℕ) → b ≡ false → (b && nat_lt p (m + 1)) ≡ (b && nat_lt p m)
not_named b p m e = rw e refl

and_first : (a b : Bool) → (a && b) ≡ true → a ≡ true
and_first true b e = refl
and_first false b e = e

both_false : (b : Bool) → (b && false) ≡ false
both_false true = refl
both_false false = refl

-- who comes next, by whether the computation comes after j
abbrev after_if : Index → ℕ → ℕ → ℕ → Bool → Option ℕ
after_if g k j p b = if j == k then None else (if b then Some k else g.next j p)

abbrev first_if : Index → ℕ → ℕ → ℕ → Bool → Option ℕ
first_if g k u p b = if b then or_else (g.head u p) k else g.head u p

abbrev last_if : Index → ℕ → ℕ → ℕ → Bool → Option ℕ
last_if g k u p b = if b then Some k else g.tail u p

-- so far of the first microprotocols
abbrev to : (ℕ → Bool) → ℕ → ℕ → Bool
to nm m p = nm p && nat_lt p m

-- the lists are as they were in another way
keeps-same : (nodes columns first count : ℕ) (rows : Rows) (g h : Index) → ((u p : ℕ) → h.head u p ≡ g.head u p) → ((u p : ℕ) → h.tail u p ≡ g.tail u p) → ((j p : ℕ) → h.next j p ≡ g.next j p)
    → h.ready ≡ g.ready → h.restless ≡ g.restless → h.closing ≡ g.closing → Keeps nodes columns first count rows g → Keeps nodes columns first count rows h
keeps-same nodes columns first count rows g h head tail next ready restless closing keeps = record {
  micros = keeps.micros;
  heads = grid-same nodes columns rows.heads g.head h.head head keeps.heads;
  tails = grid-same nodes columns rows.tails g.tail h.tail tail keeps.tails;
  nexts = table-same (count - first) columns rows.nexts (λ (i p : ℕ). g.next (first + i) p) (λ (i p : ℕ). h.next (first + i) p) (λ i p lt. next (first + i) p) keeps.nexts;
  sized = keeps.sized;
  ready = λ k from. keeps.ready k from ∙ ap (λ (f : ℕ → Bool). f k) (sym ready);
  restless = λ k from. keeps.restless k from ∙ ap (λ (f : ℕ → Bool). f k) (sym restless);
  closing = λ k from. keeps.closing k from ∙ ap (λ (f : ℕ → Bool). f k) (sym closing);
}

-- a microprotocol that isn't named changes nothing
keeps-unnamed : (nodes columns first count : ℕ) (rows : Rows) (g : Index) (k v m : ℕ) (nm : ℕ → Bool) → nm m ≡ false → Keeps nodes columns first count rows (joined g k v (to nm m))
    → Keeps nodes columns first count rows (joined g k v (to nm (m + 1)))
keeps-unnamed nodes columns first count rows g k v m nm unnamed keeps =
    keeps-same nodes columns first count rows (joined g k v (to nm m)) (joined g k v (to nm (m + 1)))
    (λ u p. ap (λ (b : Bool). first_if g k u p ((u == v) && b)) (same p (cases_eq p m)))
    (λ u p. ap (λ (b : Bool). last_if g k u p ((u == v) && b)) (same p (cases_eq p m)))
    (λ j p. ap (λ (b : Bool). after_if g k j p (b && is_tail (g.tail v p) j)) (same p (cases_eq p m)))
    refl refl refl keeps
  where
    same : (p : ℕ) → (p ≡ m) ⊎ (p ≢ m) → to nm (m + 1) p ≡ to nm m p
    same p (inl e) = not_named (nm p) p m (ap nm e ∙ unnamed)
    same p (inr ne) = next_same (nm p) p m ne

-- none has joined yet
keeps-none : (nodes columns first k : ℕ) (rows : Rows) (nexts : List (Option ℕ)) (g : Index) (v : ℕ) (nm : ℕ → Bool) → first ≤ k → Keeps nodes columns first k rows g
    → IsBlank columns (k - first) rows.nexts nexts → suc (k - first) * columns ≤ length rows.nexts → Keeps nodes columns first (suc k) (record rows { nexts = nexts }) (joined g k v (to nm 0))
keeps-none nodes columns first k rows nexts g v nm le keeps blank long = record {
  micros = keeps.micros;
  heads = grid-same nodes columns rows.heads g.head (joined g k v (to nm 0)).head (λ u p. ap (λ (b : Bool). first_if g k u p b) (unnamed u p)) keeps.heads;
  tails = grid-same nodes columns rows.tails g.tail (joined g k v (to nm 0)).tail (λ u p. ap (λ (b : Bool). last_if g k u p b) (unnamed u p)) keeps.tails;
  nexts = subst (λ (n : ℕ). Table n columns nexts (λ (i p : ℕ). (joined g k v (to nm 0)).next (first + i) p)) one_more
      (table-blank (k - first) columns rows.nexts nexts (λ (i p : ℕ). g.next (first + i) p) (λ (i p : ℕ). (joined g k v (to nm 0)).next (first + i) p) keeps.nexts blank long
      (λ p. rw (eq-eqb (first + (k - first)) k (omega (arith, le))) refl)
      (λ i p lt. old i p lt));
  sized = record { ready = keeps.sized.ready; restless = keeps.sized.restless; closing = keeps.sized.closing };
  ready = keeps.ready;
  restless = keeps.restless;
  closing = keeps.closing;
}
  where
    one_more : suc (k - first) ≡ suc k - first
    one_more = omega (arith, le)

    unnamed : (u p : ℕ) → ((u == v) && to nm 0 p) ≡ false
    unnamed u p = ap (λ (b : Bool). (u == v) && b) (none_first (nm p) p) ∙ both_false (u == v)

    old : (i p : ℕ) → i < k - first → (joined g k v (to nm 0)).next (first + i) p ≡ g.next (first + i) p
    old i p lt =
        ap (λ (b : Bool). after_if g k (first + i) p (b && is_tail (g.tail v p) (first + i))) (none_first (nm p) p)
        ∙ ap (λ (b : Bool). if b then None else g.next (first + i) p) (ne_eqb (first + i) k (λ e. omega (arith, e, lt)))

-- and one that is named puts it at the end of that queue
keeps-named : (nodes columns first k : ℕ) (rows : Rows) (g : Index) (v m : ℕ) (nm : ℕ → Bool) (head last : Option ℕ) → first ≤ k → v < nodes → m < columns → nm m ≡ true
    → ((j : ℕ) → g.tail v m ≡ Some j → (first ≤ j) × (j < k)) → slice_get rows.heads (v * columns + m) ≡ Some head → slice_get rows.tails (v * columns + m) ≡ Some last
    → Keeps nodes columns first (suc k) rows (joined g k v (to nm m))
    → Keeps nodes columns first (suc k) (record (linked rows first last m k) { heads = set rows.heads (v * columns + m) (or_else head k); tails = set rows.tails (v * columns + m) (Some k) })
    (joined g k v (to nm (m + 1)))
keeps-named nodes columns first k rows g v m nm head last le lt below named within is_head is_last keeps = done last refl
  where
    new : Index
    new = joined g k v (to nm (m + 1))

    elsewhere : (u p : ℕ) → (u ≢ v) ⊎ (p ≢ m) → ((u == v) && to nm (m + 1) p) ≡ ((u == v) && to nm m p)
    elsewhere u p (inl ne) = rw (ne_eqb u v ne) refl
    elsewhere u p (inr ne) = ap (λ (b : Bool). (u == v) && b) (next_same (nm p) p m ne)

    here : ((v == v) && to nm (m + 1) m) ≡ true
    here = rw (eq-eqb v v refl, now_named (nm m) m named) refl

    before : ((v == v) && to nm m m) ≡ false
    before = ap (λ (b : Bool). (v == v) && b) (not_yet (nm m) m) ∙ both_false (v == v)

    first_was : head ≡ g.head v m
    first_was = let both : Some head ≡ Some ((joined g k v (to nm m)).head v m) = sym is_head ∙ keeps.heads.value v m lt below in
        let read : head ≡ (joined g k v (to nm m)).head v m = cc in
        read ∙ ap (λ (b : Bool). first_if g k v m b) before

    last_was : last ≡ g.tail v m
    last_was = let both : Some last ≡ Some ((joined g k v (to nm m)).tail v m) = sym is_last ∙ keeps.tails.value v m lt below in
        let read : last ≡ (joined g k v (to nm m)).tail v m = cc in
        read ∙ ap (λ (b : Bool). last_if g k v m b) before

    heads : Grid nodes columns (set rows.heads (v * columns + m) (or_else head k)) new.head
    heads =
        grid-set nodes columns rows.heads (joined g k v (to nm m)).head new.head v m (or_else head k) lt below keeps.heads
        (ap (λ (b : Bool). first_if g k v m b) here ∙ ap (λ (x : Option ℕ). or_else x k) (sym first_was))
        (λ u p ne. ap (λ (b : Bool). first_if g k u p b) (elsewhere u p ne))

    tails : Grid nodes columns (set rows.tails (v * columns + m) (Some k)) new.tail
    tails =
        grid-set nodes columns rows.tails (joined g k v (to nm m)).tail new.tail v m (Some k) lt below keeps.tails
        (ap (λ (b : Bool). last_if g k v m b) here)
        (λ u p ne. ap (λ (b : Bool). last_if g k u p b) (elsewhere u p ne))

    -- of who wasn't last in this queue nothing changes
    not_after : (j p : ℕ) → (p ≢ m) ⊎ ((p ≡ m) × (is_tail (g.tail v m) j ≡ false)) → new.next j p ≡ (joined g k v (to nm m)).next j p
    not_after j p (inl ne) = ap (λ (b : Bool). after_if g k j p (b && is_tail (g.tail v p) j)) (next_same (nm p) p m ne)
    not_after j p (inr e) =
        let isnt : is_tail (g.tail v p) j ≡ false = ap (λ (q : ℕ). is_tail (g.tail v q) j) e.0 ∙ e.1 in
        ap (λ (b : Bool). after_if g k j p b) (ap (λ (b : Bool). to nm (m + 1) p && b) isnt ∙ both_false (to nm (m + 1) p))
        ∙ sym (ap (λ (b : Bool). after_if g k j p b) (ap (λ (b : Bool). to nm m p && b) isnt ∙ both_false (to nm m p)))

    done : (x : Option ℕ) → last ≡ x
        → Keeps nodes columns first (suc k) (record (linked rows first last m k) { heads = set rows.heads (v * columns + m) (or_else head k); tails = set rows.tails (v * columns + m) (Some k) }) new
    done None e = subst (λ (x : Option ℕ). Keeps nodes columns first (suc k) (record (linked rows first x m k) { heads = set rows.heads (v * columns + m) (or_else head k); tails = set rows.tails (v * columns + m) (Some k) }) new) (sym e) (record {
      micros = keeps.micros;
      heads = heads;
      tails = tails;
      nexts = table-same (suc k - first) columns rows.nexts (λ (i p : ℕ). (joined g k v (to nm m)).next (first + i) p) (λ (i p : ℕ). new.next (first + i) p) (λ i p ri. not_after (first + i) p (none i p (cases_eq p m))) keeps.nexts;
      sized = record { ready = keeps.sized.ready; restless = keeps.sized.restless; closing = keeps.sized.closing };
      ready = keeps.ready;
      restless = keeps.restless;
      closing = keeps.closing;
    })
      where
        none : (i p : ℕ) → (p ≡ m) ⊎ (p ≢ m) → (p ≢ m) ⊎ ((p ≡ m) × (is_tail (g.tail v m) (first + i) ≡ false))
        none i p (inr ne) = inl ne
        none i p (inl is) = inr (is, ap (λ (x : Option ℕ). is_tail x (first + i)) (sym last_was ∙ e))
    done (Some t) e = subst (λ (x : Option ℕ). Keeps nodes columns first (suc k) (record (linked rows first x m k) { heads = set rows.heads (v * columns + m) (or_else head k); tails = set rows.tails (v * columns + m) (Some k) }) new) (sym e) (record {
      micros = keeps.micros;
      heads = heads;
      tails = tails;
      nexts = subst (λ (c : ℕ). Table (suc k - first) columns (set rows.nexts ((t - first) * c + m) (Some k)) (λ (i p : ℕ). new.next (first + i) p)) (sym keeps.micros)
          (table-set (suc k - first) columns rows.nexts (λ (i p : ℕ). (joined g k v (to nm m)).next (first + i) p) (λ (i p : ℕ). new.next (first + i) p) (t - first) m (Some k)
          (omega (arith, from, less)) below keeps.nexts there (λ i p ri ne. not_after (first + i) p (others i p ne (cases_eq p m))));
      sized = record { ready = keeps.sized.ready; restless = keeps.sized.restless; closing = keeps.sized.closing };
      ready = keeps.ready;
      restless = keeps.restless;
      closing = keeps.closing;
    })
      where
        tail_is : g.tail v m ≡ Some t
        tail_is = sym last_was ∙ e

        from : first ≤ t
        from = (within t tail_is).0

        less : t < k
        less = (within t tail_is).1

        back : first + (t - first) ≡ t
        back = omega (arith, from)

        there : new.next (first + (t - first)) m ≡ Some k
        there =
            ap (λ (j : ℕ). new.next j m) back
            ∙ (ap (λ (b : Bool). if b then None else (if to nm (m + 1) m && is_tail (g.tail v m) t then Some k else g.next t m)) (ne_eqb t k (λ same. omega (arith, same, less)))
            ∙ ap (λ (b : Bool). if b then Some k else g.next t m)
            (ap (λ (b : Bool). b && is_tail (g.tail v m) t) (now_named (nm m) m named) ∙ (ap (λ (x : Option ℕ). is_tail x t) tail_is ∙ eq-eqb t t refl)))

        others : (i p : ℕ) → (i ≢ t - first) ⊎ (p ≢ m) → (p ≡ m) ⊎ (p ≢ m) → (p ≢ m) ⊎ ((p ≡ m) × (is_tail (g.tail v m) (first + i) ≡ false))
        others i p ne (inr other) = inl other
        others i p (inr other) (inl is) = inl other
        others i p (inl ne) (inl is) = inr (is, ap (λ (x : Option ℕ). is_tail x (first + i)) tail_is ∙ ne_eqb t (first + i) (λ same. ne (omega (arith, same))))

-- the last one that was admitted, at a trace
pub record IsLast (t : Trace) (comp : ℕ) : Type 0 where
  pub since : cleared_comps t < comp
  pub last : comp ≡ length t.exts

last-is : (t : Trace) (comp : ℕ) → IsSound t → IsLast t comp → comp - 1 ≡ last_one t
last-is t comp sound is = ap (λ (n : ℕ). n - 1) (is.last ∙ sym sound.all)

one-more : (t : Trace) (comp : ℕ) → IsSound t → IsLast t comp → suc (last_one t) ≡ (state t).count
one-more t comp sound is = let since = is.since in let last = is.last in let all : (state t).count ≡ length t.exts = sound.all in omega (arith, since, last, all)

from-first : (t : Trace) (comp : ℕ) → IsSound t → IsLast t comp → cleared_comps t ≤ last_one t
from-first t comp sound is = let since = is.since in let last = is.last in let all : (state t).count ≡ length t.exts = sound.all in omega (arith, since, last, all)

pub joins-none : (t : Trace) (rows : Rows) (nexts : List (Option ℕ)) (g : Index) (comp : ℕ) → IsSound t → IsLast t comp → WasKeptFor t rows g
    → IsBlank (length t.script.micros) (comp - 1 - cleared_comps t) rows.nexts nexts → ((state t).count - cleared_comps t) * length t.script.micros ≤ length rows.nexts
    → Joins t (record rows { nexts = nexts }) g 0
joins-none t rows nexts g comp sound is kept blank long =
    subst (λ (n : ℕ). Keeps t.script.nodes (length t.script.micros) (cleared_comps t) n (record rows { nexts = nexts }) (joined g (last_one t) (last_node t) (named_to t 0))) (one-more t comp sound is)
    (keeps-none t.script.nodes (length t.script.micros) (cleared_comps t) (last_one t) rows nexts g (last_node t) (λ (p : ℕ). nat_lt 0 (weight ((play t).decl (last_one t)) p)) (from-first t comp sound is) kept
    (subst (λ (n : ℕ). IsBlank (length t.script.micros) (n - cleared_comps t) rows.nexts nexts) (last-is t comp sound is) blank)
    (subst (λ (n : ℕ). n * length t.script.micros ≤ length rows.nexts) size long))
  where
    size : (state t).count - cleared_comps t ≡ suc (last_one t - cleared_comps t)
    size = let more = one-more t comp sound is in let from = from-first t comp sound is in omega (arith, more, from)

-- as its row was made
pub joins-blank : (t : Trace) (rows new : Rows) (g : Index) (comp at first : ℕ) → IsSound t → IsLast t comp → WasKeptFor t rows g → ((state t).count - cleared_comps t) * length t.script.micros ≤ length rows.nexts
    → at ≡ comp - 1 - first → first ≡ cleared_comps t → ((nexts : List (Option ℕ)) × (new ≡ record rows { nexts = nexts }) × IsBlank rows.micros at rows.nexts nexts) → Joins t new g 0
joins-blank t rows new g comp at first sound is kept long e same made =
    subst (λ (x : Rows). Joins t x g 0) (sym made.1)
    (joins-none t rows made.0 g comp sound is kept
    (subst (λ (n : ℕ). IsBlank n (comp - 1 - cleared_comps t) rows.nexts made.0) kept.micros
    (subst (λ (n : ℕ). IsBlank rows.micros n rows.nexts made.0) (e ∙ ap (λ (n : ℕ). comp - 1 - n) same) made.2))
    long)

-- a microprotocol that it doesn't declare
pub joins-unnamed : (t : Trace) (rows : Rows) (g : Index) (comp m : ℕ) (b : Bool) → IsSound t → IsLast t comp → b ≡ false → (b ≡ true) ↔ (0 < weight ((play t).decl (comp - 1)) m) → Joins t rows g m → Joins t rows g (m + 1)
joins-unnamed t rows g comp m b sound is unnamed test joins =
    keeps-unnamed t.script.nodes (length t.script.micros) (cleared_comps t) (state t).count rows g (last_one t) (last_node t) m (λ (p : ℕ). nat_lt 0 (weight ((play t).decl (last_one t)) p))
    (le-ltb 0 (weight ((play t).decl (last_one t)) m) (none (below 0 (weight ((play t).decl (comp - 1)) m)))) joins
  where
    below : (i n : ℕ) → (i < n) ⊎ (n ≤ i)
    below i n = grind arith

    none : (0 < weight ((play t).decl (comp - 1)) m) ⊎ (weight ((play t).decl (comp - 1)) m ≤ 0) → weight ((play t).decl (last_one t)) m ≤ 0
    none (inl some) = absurd (let never : true ≡ false = sym (test.1 some) ∙ unnamed in cc)
    none (inr le) = subst (λ (n : ℕ). weight ((play t).decl n) m ≤ 0) (last-is t comp sound is) le

-- and one that it does
pub joins-named : (t : Trace) (rows : Rows) (g : Index) (comp m : ℕ) (head last : Option ℕ) → IsSound t → IsLast t comp → (play t).node (comp - 1) < t.script.nodes → m < length t.script.micros
    → 0 < weight ((play t).decl (comp - 1)) m → TailsWithin t g → slice_get rows.heads ((play t).node (comp - 1) * length t.script.micros + m) ≡ Some head
    → slice_get rows.tails ((play t).node (comp - 1) * length t.script.micros + m) ≡ Some last → Joins t rows g m
    → Joins t (record (linked rows (cleared_comps t) last m (comp - 1)) {
      heads = set rows.heads ((play t).node (comp - 1) * length t.script.micros + m) (or_else head (comp - 1));
      tails = set rows.tails ((play t).node (comp - 1) * length t.script.micros + m) (Some (comp - 1));
    }) g (m + 1)
joins-named t rows g comp m head last sound is node below some within is_head is_last joins =
    subst (λ (k : ℕ). Joins t (record (linked rows (cleared_comps t) last m k) {
      heads = set rows.heads ((play t).node k * length t.script.micros + m) (or_else head k);
      tails = set rows.tails ((play t).node k * length t.script.micros + m) (Some k);
    }) g (m + 1)) (sym same)
    (subst (λ (n : ℕ). Keeps t.script.nodes (length t.script.micros) (cleared_comps t) n (record (linked rows (cleared_comps t) last m k) {
      heads = set rows.heads (last_node t * length t.script.micros + m) (or_else head k);
      tails = set rows.tails (last_node t * length t.script.micros + m) (Some k);
    }) (joined g k (last_node t) (named_to t (m + 1)))) more
    (keeps-named t.script.nodes (length t.script.micros) (cleared_comps t) k rows g (last_node t) m (λ (p : ℕ). nat_lt 0 (weight ((play t).decl k) p)) head last (from-first t comp sound is)
    (subst (λ (n : ℕ). (play t).node n < t.script.nodes) same node) below (lt-ltb 0 (weight ((play t).decl k) m) (subst (λ (n : ℕ). 0 < weight ((play t).decl n) m) same some))
    (λ j e. within (last_node t) m j e)
    (subst (λ (n : ℕ). slice_get rows.heads ((play t).node n * length t.script.micros + m) ≡ Some head) same is_head)
    (subst (λ (n : ℕ). slice_get rows.tails ((play t).node n * length t.script.micros + m) ≡ Some last) same is_last)
    (subst (λ (n : ℕ). Keeps t.script.nodes (length t.script.micros) (cleared_comps t) n rows (joined g k (last_node t) (named_to t m))) (sym more) joins)))
  where
    k : ℕ
    k = last_one t

    same : comp - 1 ≡ k
    same = last-is t comp sound is

    more : suc k ≡ (state t).count
    more = one-more t comp sound is

-- as the lists were written
pub joins-linked : (t : Trace) (rows new : Rows) (g : Index) (comp m slot first : ℕ) → IsSound t → IsLast t comp → (play t).node (comp - 1) < t.script.nodes → m < length t.script.micros
    → 0 < weight ((play t).decl (comp - 1)) m → slot ≡ (play t).node (comp - 1) * length t.script.micros + m → first ≡ cleared_comps t → TailsWithin t g → Joins t rows g m
    → ((head last : Option ℕ) → slice_get rows.heads slot ≡ Some head → slice_get rows.tails slot ≡ Some last
    → new ≡ record (linked rows first last m (comp - 1)) { heads = set rows.heads slot (or_else head (comp - 1)); tails = set rows.tails slot (Some (comp - 1)) })
    → Joins t new g (m + 1)
joins-linked t rows new g comp m slot first sound is node below some at from within joins by =
    subst (λ (x : Rows). Joins t x g (m + 1)) (sym made) (joins-named t rows g comp m head last sound is node below some within is_head is_last joins)
  where
    place : ℕ
    place = (play t).node (comp - 1) * length t.script.micros + m

    head : Option ℕ
    head = (joined g (last_one t) (last_node t) (named_to t m)).head ((play t).node (comp - 1)) m

    last : Option ℕ
    last = (joined g (last_one t) (last_node t) (named_to t m)).tail ((play t).node (comp - 1)) m

    is_head : slice_get rows.heads place ≡ Some head
    is_head = joins.heads.value ((play t).node (comp - 1)) m node below

    is_last : slice_get rows.tails place ≡ Some last
    is_last = joins.tails.value ((play t).node (comp - 1)) m node below

    made : new ≡ record (linked rows (cleared_comps t) last m (comp - 1)) { heads = set rows.heads place (or_else head (comp - 1)); tails = set rows.tails place (Some (comp - 1)) }
    made =
        subst (λ (n : ℕ). new ≡ record (linked rows n last m (comp - 1)) { heads = set rows.heads place (or_else head (comp - 1)); tails = set rows.tails place (Some (comp - 1)) }) from
        (subst (λ (n : ℕ). new ≡ record (linked rows first last m (comp - 1)) { heads = set rows.heads n (or_else head (comp - 1)); tails = set rows.tails n (Some (comp - 1)) }) at
        (by head last (ap (λ (n : ℕ). slice_get rows.heads n) at ∙ is_head) (ap (λ (n : ℕ). slice_get rows.tails n) at ∙ is_last)))

-- the last one of a queue, as it is read
pub tail-read : (t : Trace) (rows : Rows) (g : Index) (comp m j : ℕ) → IsSound t → IsLast t comp → (play t).node (comp - 1) < t.script.nodes → m < length t.script.micros → TailsWithin t g
    → Joins t rows g m → slice_get rows.tails ((play t).node (comp - 1) * length t.script.micros + m) ≡ Some (Some j) → (cleared_comps t ≤ j) × (j < last_one t)
tail-read t rows g comp m j sound is node below within joins e =
    within (last_node t) m j (let both : Some (Some j) ≡ Some ((joined g (last_one t) (last_node t) (named_to t m)).tail (last_node t) m) = sym here ∙ joins.tails.value (last_node t) m (subst (λ (n : ℕ). (play t).node n < t.script.nodes) same node) below in
    let read : Some j ≡ (joined g (last_one t) (last_node t) (named_to t m)).tail (last_node t) m = cc in
    sym (read ∙ ap (λ (b : Bool). last_if g (last_one t) (last_node t) m b) before))
  where
    same : comp - 1 ≡ last_one t
    same = last-is t comp sound is

    here : slice_get rows.tails (last_node t * length t.script.micros + m) ≡ Some (Some j)
    here = subst (λ (n : ℕ). slice_get rows.tails ((play t).node n * length t.script.micros + m) ≡ Some (Some j)) same e

    before : ((last_node t == last_node t) && named_to t m m) ≡ false
    before = ap (λ (b : Bool). (last_node t == last_node t) && b) (not_yet (nat_lt 0 (weight ((play t).decl (last_one t)) m)) m) ∙ both_false (last_node t == last_node t)

-- so there is a row for who comes next after it
pub tail-row : (t : Trace) (rows : Rows) (g : Index) (m j : ℕ) → m < length t.script.micros → Joins t rows g m → cleared_comps t ≤ j → j < last_one t → (j - cleared_comps t) * rows.micros + m < length rows.nexts
tail-row t rows g m j below joins from lt =
    let within : (j - cleared_comps t) * length t.script.micros + m < ((state t).count - cleared_comps t) * length t.script.micros =
    grid-within ((state t).count - cleared_comps t) (length t.script.micros) (j - cleared_comps t) m (omega (arith, from, lt)) below in
    let long : ((state t).count - cleared_comps t) * length t.script.micros ≤ length rows.nexts = joins.nexts.long in
    subst (λ (c : ℕ). (j - cleared_comps t) * c + m < length rows.nexts) (sym joins.micros) (omega (arith, within, long))

-- it is in all its queues, and may enter, or have a release or its end due
pub has-admitted : (t : Trace) (rows : Rows) (g : Index) (comp : ℕ) → IsSound t → IsLast t comp
    → HasLeft t rows (joined g (last_one t) (last_node t) (named_to t (length t.script.micros))) comp → HasAdmitted t rows g
has-admitted t rows g comp sound is has = record {
  notes = has.notes;
  tells = subst (λ (k : ℕ). TellsNotes (play t) (state t) k has.notes) (last-is t comp sound is) has.tells;
  keeps = subst (λ (k : ℕ). IsKeptAt t rows (left (joined g (last_one t) (last_node t) (named_to t (length t.script.micros))) k has.notes)) (last-is t comp sound is) has.keeps;
}

-- an admission, as the model has it
agree-back : (P Q : Play) (n : ℕ) → Agree P Q n → Agree Q P n
agree-back P Q n a = record {
  first_states = sym a.first_states;
  first_tables = sym a.first_tables;
  node = λ k lt. sym (a.node k lt);
  decl = λ k lt. sym (a.decl k lt);
  change = λ k lt. sym (a.change k lt);
  step = λ k lt. sym (a.step k lt);
  budget = λ k lt. sym (a.budget k lt);
  root = λ k lt. sym (a.root k lt);
  args = λ k lt. sym (a.args k lt);
}

-- what an admission leads to
pub record Admits (t : Trace) (ext : Ext) : Type 0 where
  pub cleared : cleared_comps (admitted t ext) ≡ cleared_comps t
  pub made : state (admitted t ext) ≡ model.made_by (play (admitted t ext)) (state t) model.Step.Admit
  pub last : last_one (admitted t ext) ≡ (state t).count

pub admits : (t : Trace) (ext : Ext) → IsRun t → Admits t ext
admits t ext run =
    let w : Trace = with_ext t ext in
    let run_w : IsRun w = is_run-with_ext t ext run in
    let made : state (admitted t ext) ≡ model.made_by (play w) (state t) model.Step.Admit =
    state-step w (Step.Admit (length t.exts + 1)) run_w ∙ ap (λ (core : model.Core). model.made_by (play w) core model.Step.Admit) (state-ext t ext run) in
    record {
      cleared = cleared-step w (Step.Admit (length t.exts + 1)) run_w ∙ cleared-ext t ext;
      made = made;
      last = (let one : suc (state t).count - 1 ≡ (state t).count = omega arith in ap (λ (core : model.Core). core.count - 1) made ∙ one);
    }

-- more rows change nothing
pub grown : (t : Trace) (rows : Rows) (more : List (Option ℕ)) (g : Index) → IsKeptAt t rows g → IsKeptAt t (record rows { nexts = rows.nexts ++ more }) g
grown t rows more g keeps = record {
  micros = keeps.micros;
  heads = keeps.heads;
  tails = keeps.tails;
  nexts = table-append ((state t).count - cleared_comps t) (length t.script.micros) rows.nexts more (λ (i p : ℕ). g.next (cleared_comps t + i) p) keeps.nexts;
  sized = record { ready = keeps.sized.ready; restless = keeps.sized.restless; closing = keeps.sized.closing };
  ready = keeps.ready;
  restless = keeps.restless;
  closing = keeps.closing;
}

-- the lists that were kept before it, with more rows
pub was-kept : (t : Trace) (ext : Ext) (rows : Rows) (more : List (Option ℕ)) (g : Index) → IsRun t → IsKeptAt t rows g → WasKeptFor (admitted t ext) (record rows { nexts = rows.nexts ++ more }) g
was-kept t ext rows more g run keeps =
    let a : Admits t ext = admits t ext run in
    subst (λ (n : ℕ). Keeps t.script.nodes (length t.script.micros) n (last_one (admitted t ext)) (record rows { nexts = rows.nexts ++ more }) g) (sym a.cleared)
    (subst (λ (n : ℕ). Keeps t.script.nodes (length t.script.micros) (cleared_comps t) n (record rows { nexts = rows.nexts ++ more }) g) (sym a.last) (grown t rows more g keeps))

pub grown-by : (t : Trace) (rows : Rows) (more : List (Option ℕ)) → IsIndexedBy t rows → IsIndexedBy t (record rows { nexts = rows.nexts ++ more })
grown-by t rows more by = record { index = by.index; keeps = grown t rows more by.index by.keeps; is = by.is }

-- who comes last was admitted before
pub tails-within : (t : Trace) (ext : Ext) (g : Index) → IsRun t → IsIndexed (play t) (cleared_comps t) (state t) g → TailsWithin (admitted t ext) g
tails-within t ext g run is v p j e =
    let a : Admits t ext = admits t ext run in
    go a (subst (λ (x : Option ℕ). IsTailOf (play t) (cleared_comps t) (state t).count v p x) e (is.tails v p))
  where
    go : Admits t ext → IsTailOf (play t) (cleared_comps t) (state t).count v p (Some j) → (cleared_comps (admitted t ext) ≤ j) × (j < last_one (admitted t ext))
    go a tail = let from = tail.from in let lt = tail.admitted in let cleared = a.cleared in let last = a.last in (omega (arith, from, cleared), omega (arith, lt, last))

pub has-row : (t : Trace) (ext : Ext) (rows : Rows) (more : List (Option ℕ)) → IsSound t → IsIndexedBy t rows → (length t.exts + 1 - cleared_comps t) * rows.micros ≤ length (rows.nexts ++ more)
    → HasRowFor (admitted t ext) (record rows { nexts = rows.nexts ++ more })
has-row t ext rows more sound by long =
    let a : Admits t ext = admits t ext sound.run in
    let all : (state t).count ≡ length t.exts = sound.all in
    let cleared = a.cleared in
    let count : (state (admitted t ext)).count ≡ suc (state t).count = ap (λ (core : model.Core). core.count) a.made in
    let rows_of : length t.exts + 1 - cleared_comps t ≡ (state (admitted t ext)).count - cleared_comps (admitted t ext) = omega (arith, all, cleared, count) in
    record {
      index = by.index;
      kept = was-kept t ext rows more by.index sound.run by.keeps;
      within = tails-within t ext by.index sound.run by.is;
      long = subst (λ (c : ℕ). ((state (admitted t ext)).count - cleared_comps (admitted t ext)) * c ≤ length (rows.nexts ++ more)) by.keeps.micros
          (subst (λ (n : ℕ). n * rows.micros ≤ length (rows.nexts ++ more)) rows_of long);
    }

-- it is indexed
pub admitted-by : (t : Trace) (ext : Ext) (rows : Rows) (g : Index) → IsSound t → IsSound (admitted t ext) → IsIndexed (play t) (cleared_comps t) (state t) g → HasAdmitted (admitted t ext) rows g
    → IsIndexedBy (admitted t ext) rows
admitted-by t ext rows g before sound is has =
    let u : Trace = admitted t ext in
    let a : Admits t ext = admits t ext before.run in
    let all : (state t).count ≡ length t.exts = before.all in
    record {
      index = admitted_index;
      keeps = has.keeps;
      is = subst (λ (n : ℕ). IsIndexed (play u) n (state u) admitted_index) (sym a.cleared)
          (subst (λ (core : model.Core). IsIndexed (play u) (cleared_comps t) core admitted_index) (sym a.made)
          (subst (λ (k : ℕ). IsIndexed (play u) (cleared_comps t) (model.made_by (play u) (state t) model.Step.Admit) (of k)) (sym a.last)
          (admitted_indexed (play u) (cleared_comps t) (state t) g (named_to u (length u.script.micros)) has.notes
          (subst (λ (core : model.Core). Invariant (play u) core) (state-ext t ext before.run) (invariant (with_ext t ext) (is_run-with_ext t ext before.run)))
          (indexed-agree (play t) (play u) (cleared_comps t) (state t) g
          (agree-back (play u) (play t) (state t).count (subst (λ (n : ℕ). Agree (play u) (play t) n) (sym all) (agree t.script t.cells t.exts ext))) is)
          (subst (λ (k : ℕ). TellsNamed (play u) k (named_to u (length u.script.micros))) a.last tells_named)
          (subst (λ (core : model.Core). TellsNotes (play u) core (state t).count has.notes) a.made
          (subst (λ (k : ℕ). TellsNotes (play u) (state u) k has.notes) a.last has.tells)))));
    }
  where
    of : ℕ → Index
    of k = admitted_by g k ((play (admitted t ext)).node k) (named_to (admitted t ext) (length t.script.micros)) has.notes

    admitted_index : Index
    admitted_index = of (last_one (admitted t ext))

    tells_named : TellsNamed (play (admitted t ext)) (last_one (admitted t ext)) (named_to (admitted t ext) (length t.script.micros))
    tells_named p = (
      (λ both. ltb-true 0 (weight ((play (admitted t ext)).decl (last_one (admitted t ext))) p) (first_of both)),
      (λ some. rw (lt-ltb 0 (weight ((play (admitted t ext)).decl (last_one (admitted t ext))) p) some, lt-ltb p (length t.script.micros) (known p some)) refl),
    )
      where
        first_of : named_to (admitted t ext) (length t.script.micros) p ≡ true → nat_lt 0 (weight ((play (admitted t ext)).decl (last_one (admitted t ext))) p) ≡ true
        first_of both = and_first (nat_lt 0 (weight ((play (admitted t ext)).decl (last_one (admitted t ext))) p)) (nat_lt p (length t.script.micros)) both

        known : (q : ℕ) → 0 < weight ((play (admitted t ext)).decl (last_one (admitted t ext))) q → q < length t.script.micros
        known q some = declares_known t.script sound.in_range (decl_number t.script (ext_at (admitted t ext).exts (last_one (admitted t ext)))) q some

-- as the lists grew
pub has-row-by : (t u : Trace) (ext : Ext) (rows new : Rows) (count first : ℕ) → IsSound t → IsIndexedBy t rows → u ≡ admitted t ext
    → ((more : List (Option ℕ)) × (new ≡ record rows { nexts = rows.nexts ++ more })) → count ≡ length t.exts → first ≡ cleared_comps t → (count + 1 - first) * rows.micros ≤ length new.nexts → HasRowFor u new
has-row-by t u ext rows new count first sound by e grown all same long =
    subst (λ (x : Trace). HasRowFor x new) (sym e)
    (subst (λ (r : Rows). HasRowFor (admitted t ext) r) (sym grown.1)
    (has-row t ext rows grown.0 sound by
    (subst (λ (r : Rows). (length t.exts + 1 - cleared_comps t) * rows.micros ≤ length r.nexts) grown.1
    (subst (λ (n : ℕ). (length t.exts + 1 - n) * rows.micros ≤ length new.nexts) same
    (subst (λ (n : ℕ). (n + 1 - first) * rows.micros ≤ length new.nexts) all long)))))

pub admits-indexed : (t u : Trace) (ext : Ext) (rows mid new : Rows) → IsSound t → IsSound u → IsIndexedBy t rows → u ≡ admitted t ext
    → ((more : List (Option ℕ)) × (mid ≡ record rows { nexts = rows.nexts ++ more })) → ((g : Index) → WasKeptFor u mid g → TailsWithin u g → HasAdmitted u new g) → IsIndexedBy u new
admits-indexed t u ext rows mid new sound is by e grown has =
    subst (λ (x : Trace). IsIndexedBy x new) (sym e)
    (admitted-by t ext new by.index sound (subst (λ (x : Trace). IsSound x) e is) by.is
    (subst (λ (x : Trace). (g : Index) → WasKeptFor x mid g → TailsWithin x g → HasAdmitted x new g) e has by.index
    (subst (λ (r : Rows). WasKeptFor (admitted t ext) r by.index) (sym grown.1) (was-kept t ext rows grown.0 by.index sound.run by.keeps))
    (tails-within t ext by.index sound.run by.is)))
