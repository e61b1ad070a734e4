-- Handler steps that come back, and releases: what may be noted after them, and the index that comes of it.
use Rattle.std.proofs.Common.{arith, ◌≡◌, ◌⊎◌, inl, inr, ◌↔◌, ℕ, ◌-◌, ◌<◌, ◌≤◌, refl, sym, subst, length, Bool, true, false, Some}
use Rattle.samoa_versions.specs.Ready.{is_member}
use Rattle.samoa_model.specs.declared.record.Step.{Step}
use Rattle.samoa_invariant.specs.Index.{Index, left}
use Rattle.samoa_invariant.specs.State as model
use Rattle.samoa_invariant.specs.Runs.{IsDue, Trace, play, state, with_step}
use Rattle.samoa_control.specs.Since.{cleared_comps}
use Rattle.samoa_control.specs.Sound.{IsSound}
use Rattle.samoa_control.specs.Turns.{Going, IsAway}
use Rattle.samoa_control.proofs.Asked.{enter-since, out-at, release-since}
use Rattle.samoa_control.proofs.Facts.{back}
use Rattle.samoa_control.proofs.Passes.{due-within}
use Rattle.samoa_control.proofs.Since.{cleared-step}
use Rattle.samoa_core.specs.Indexed.{IsIndexedBy, IsKeptAt}
use Rattle.samoa_core.specs.Passing.{CanPass, HasLeft, HasReleased, MarksEntry, Passes}
use Rattle.samoa_core.specs.Rows.{Rows}
use Rattle.samoa_core.proofs.Passed.{IsHere, release-calm}
use Rattle.samoa_core.proofs.Stepped.{abandoned-marks, abandoned-on, left-holds, left-on, left-passes, next-since, released-has, released-on}

pub release-here : (t : Trace) (comp p : ℕ) → IsSound t → IsDue t (Step.Release comp p) → IsHere t comp
release-here t comp p sound due = let is = release-since t comp p sound due in record { since = is.0; admitted = is.1 }

pub back-here : (t : Trace) (g : Going) → IsSound t → IsAway t g → IsHere t g.comp
back-here t g sound away = let is = back t g sound away in let there = is.there in let first = away.first in record { since = is.since; admitted = omega (arith, there, first) }

-- a computation is still there after a step
pub here-after : (t u : Trace) (step : Step) (comp : ℕ) → IsSound t → u ≡ with_step t step → IsHere t comp → IsHere u comp
here-after t u step comp sound e here = subst (λ (x : Trace). IsHere x comp) (sym e) (record {
  since = subst (λ (n : ℕ). n < comp) (sym (cleared-step t step sound.run)) here.since;
  admitted = here.admitted;
})

out-of : (t : Trace) (g : Going) → IsSound t → IsAway t g → model.IsOut (play t) (state t) (g.comp - 1) g.micro
out-of t g sound away = record { admitted = (back t g sound away).leaves.out.admitted; out = away.out }

-- the queue may go on after what came back
pub leave-can : (t u : Trace) (rows rows1 : Rows) (g : Going) → IsSound t → IsAway t g → u ≡ with_step t (Step.Leave g.comp) → IsIndexedBy t rows
    → ((x : Index) → IsKeptAt u rows x → HasLeft u rows1 x g.comp) → CanPass u rows1 g.comp g.micro
leave-can t u rows rows1 g sound away e by marks = subst (λ (x : Trace). CanPass x rows1 g.comp g.micro) (sym e) (record {
  index = left by.index (g.comp - 1) has.notes;
  keeps = has.keeps;
  since = subst (λ (n : ℕ). n < g.comp) (sym (cleared-step t (Step.Leave g.comp) sound.run)) here.since;
  admitted = here.admitted;
  within = (back t g sound away).within;
  next = λ j is. next j is;
})
  where
    here : IsHere t g.comp
    here = back-here t g sound away

    has : HasLeft (with_step t (Step.Leave g.comp)) rows1 by.index g.comp
    has = subst (λ (x : Trace). (y : Index) → IsKeptAt x rows y → HasLeft x rows1 y g.comp) e marks by.index (left-on t rows by.index g.comp sound.run by.keeps)

    next : (j : ℕ) → by.index.next (g.comp - 1) g.micro ≡ Some j → (cleared_comps (with_step t (Step.Leave g.comp)) ≤ j) × (j < length t.exts)
    next j is =
        let since = next-since t by.index (g.comp - 1) g.micro j sound.run by.is (out-at t (g.comp - 1) g.micro sound.run (out-of t g sound away)).turn is in
        (subst (λ (n : ℕ). n ≤ j) (sym (cleared-step t (Step.Leave g.comp) sound.run)) since.0, subst (λ (n : ℕ). j < n) sound.all since.1)

pub leave-holds : (t u : Trace) (rows rows1 : Rows) (g : Going) → IsSound t → IsAway t g → u ≡ with_step t (Step.Leave g.comp) → IsIndexedBy t rows
    → ((x : Index) → IsKeptAt u rows x → HasLeft u rows1 x g.comp)
    → (state u).local ((play u).node (g.comp - 1)) g.micro < (state u).private (g.comp - 1) ((play u).node (g.comp - 1)) g.micro → IsIndexedBy u rows1
leave-holds t u rows rows1 g sound away e by marks short = subst (λ (x : Trace). IsIndexedBy x rows1) (sym e)
    (left-holds t rows1 by.index g.comp g.micro sound.run by.is (out-of t g sound away)
    (subst (λ (x : Trace). (state x).local ((play x).node (g.comp - 1)) g.micro < (state x).private (g.comp - 1) ((play x).node (g.comp - 1)) g.micro) e short)
    (subst (λ (x : Trace). (y : Index) → IsKeptAt x rows y → HasLeft x rows1 y g.comp) e marks by.index (left-on t rows by.index g.comp sound.run by.keeps)))

pub leave-passes : (t u : Trace) (rows rows1 rows2 : Rows) (g : Going) → IsSound t → IsAway t g → u ≡ with_step t (Step.Leave g.comp) → IsIndexedBy t rows
    → ((x : Index) → IsKeptAt u rows x → HasLeft u rows1 x g.comp) → ((x : Index) → IsKeptAt u rows1 x → Passes u rows2 x g.comp g.micro)
    → (state u).private (g.comp - 1) ((play u).node (g.comp - 1)) g.micro ≤ (state u).local ((play u).node (g.comp - 1)) g.micro → IsIndexedBy u rows2
leave-passes t u rows rows1 rows2 g sound away e by marks passes past = subst (λ (x : Trace). IsIndexedBy x rows2) (sym e)
    (left-passes t rows2 by.index g.comp g.micro has.notes sound.run by.is (out-of t g sound away)
    (subst (λ (x : Trace). (state x).private (g.comp - 1) ((play x).node (g.comp - 1)) g.micro ≤ (state x).local ((play x).node (g.comp - 1)) g.micro) e past)
    has.tells
    (subst (λ (x : Trace). (y : Index) → IsKeptAt x rows1 y → Passes x rows2 y g.comp g.micro) e passes (left by.index (g.comp - 1) has.notes) has.keeps))
  where
    has : HasLeft (with_step t (Step.Leave g.comp)) rows1 by.index g.comp
    has = subst (λ (x : Trace). (y : Index) → IsKeptAt x rows y → HasLeft x rows1 y g.comp) e marks by.index (left-on t rows by.index g.comp sound.run by.keeps)

-- the queue went on, of the numbers as they are read
pub has-passed : (u : Trace) (rows : Rows) (x : Index) (comp c micro p : ℕ) → comp ≡ c → micro ≡ p → Passes u rows x comp micro → Passes u rows x c p
has-passed u rows x comp c micro p same at passes = subst (λ (n : ℕ). Passes u rows x c n) at (subst (λ (n : ℕ). Passes u rows x n micro) same passes)

-- whether it holds the microprotocol is told by a test
pub is-over : (u : Trace) (comp c micro p : ℕ) (b : Bool) → comp ≡ c → micro ≡ p
    → (b ≡ true) ↔ ((state u).local ((play u).node (comp - 1)) micro < (state u).private (comp - 1) ((play u).node (comp - 1)) micro) → (b ≡ true → ⊥)
    → (state u).private (c - 1) ((play u).node (c - 1)) p ≤ (state u).local ((play u).node (c - 1)) p
is-over u comp c micro p b same at test above =
    subst (λ (n : ℕ). (state u).private (n - 1) ((play u).node (n - 1)) p ≤ (state u).local ((play u).node (n - 1)) p) same
    (subst (λ (n : ℕ). (state u).private (comp - 1) ((play u).node (comp - 1)) n ≤ (state u).local ((play u).node (comp - 1)) n) at
    (go (lt_or_le ((state u).local ((play u).node (comp - 1)) micro) ((state u).private (comp - 1) ((play u).node (comp - 1)) micro))))
  where
    lt_or_le : (i n : ℕ) → (i < n) ⊎ (n ≤ i)
    lt_or_le i n = grind arith

    go : ((state u).local ((play u).node (comp - 1)) micro < (state u).private (comp - 1) ((play u).node (comp - 1)) micro)
        ⊎ ((state u).private (comp - 1) ((play u).node (comp - 1)) micro ≤ (state u).local ((play u).node (comp - 1)) micro)
        → (state u).private (comp - 1) ((play u).node (comp - 1)) micro ≤ (state u).local ((play u).node (comp - 1)) micro
    go (inl lt) = absurd (above (test.1 lt))
    go (inr le) = le

pub holds-still : (u : Trace) (comp c micro p : ℕ) (b : Bool) → comp ≡ c → micro ≡ p
    → (b ≡ true) ↔ ((state u).local ((play u).node (comp - 1)) micro < (state u).private (comp - 1) ((play u).node (comp - 1)) micro) → (b ≡ false → ⊥)
    → (state u).local ((play u).node (c - 1)) p < (state u).private (c - 1) ((play u).node (c - 1)) p
holds-still u comp c micro p true same at test above =
    subst (λ (n : ℕ). (state u).local ((play u).node (n - 1)) p < (state u).private (n - 1) ((play u).node (n - 1)) p) same
    (subst (λ (n : ℕ). (state u).local ((play u).node (comp - 1)) n < (state u).private (comp - 1) ((play u).node (comp - 1)) n) at (test.0 refl))
holds-still u comp c micro p false same at test above = absurd (above refl)

-- what was taken back
pub abandon-indexed : (t u : Trace) (rows rows1 : Rows) (g : Going) → IsSound t → IsAway t g → u ≡ with_step t (Step.Abandon g.comp) → IsIndexedBy t rows
    → ((x : Index) → IsKeptAt u rows x → MarksEntry u rows1 x g.comp) → IsIndexedBy u rows1
abandon-indexed t u rows rows1 g sound away e by marks = subst (λ (x : Trace). IsIndexedBy x rows1) (sym e)
    (abandoned-marks t rows1 by.index g.comp g.micro sound.run by.is (out-of t g sound away)
    (subst (λ (x : Trace). (y : Index) → IsKeptAt x rows y → MarksEntry x rows1 y g.comp) e marks by.index (abandoned-on t rows by.index g.comp sound.run by.keeps)))

-- a release
pub release-can : (t u : Trace) (rows : Rows) (comp micro : ℕ) → IsSound t → IsDue t (Step.Release comp micro) → u ≡ with_step t (Step.Release comp micro) → IsIndexedBy t rows → CanPass u rows comp micro
release-can t u rows comp micro sound due e by = subst (λ (x : Trace). CanPass x rows comp micro) (sym e) (record {
  index = by.index;
  keeps = released-on t rows by.index comp micro sound.run by.keeps;
  since = subst (λ (n : ℕ). n < comp) (sym (cleared-step t (Step.Release comp micro) sound.run)) here.since;
  admitted = here.admitted;
  within = due-within t comp micro sound due;
  next = λ j is. next j is;
})
  where
    here : IsHere t comp
    here = release-here t comp micro sound due

    next : (j : ℕ) → by.index.next (comp - 1) micro ≡ Some j → (cleared_comps (with_step t (Step.Release comp micro)) ≤ j) × (j < length t.exts)
    next j is =
        let since = next-since t by.index (comp - 1) micro j sound.run by.is due.enabled.turn is in
        (subst (λ (n : ℕ). n ≤ j) (sym (cleared-step t (Step.Release comp micro) sound.run)) since.0, subst (λ (n : ℕ). j < n) sound.all since.1)

has-of : (t u : Trace) (rows rows1 : Rows) (comp micro : ℕ) → IsSound t → u ≡ with_step t (Step.Release comp micro) → (by : IsIndexedBy t rows)
    → ((x : Index) → IsKeptAt u rows x → HasReleased u rows1 x comp micro) → HasReleased (with_step t (Step.Release comp micro)) rows1 by.index comp micro
has-of t u rows rows1 comp micro sound e by has =
    subst (λ (x : Trace). (y : Index) → IsKeptAt x rows y → HasReleased x rows1 y comp micro) e has by.index (released-on t rows by.index comp micro sound.run by.keeps)

pub release-indexed : (t u : Trace) (rows rows1 : Rows) (comp micro : ℕ) → IsSound t → IsDue t (Step.Release comp micro) → u ≡ with_step t (Step.Release comp micro) → IsIndexedBy t rows
    → ((x : Index) → IsKeptAt u rows x → HasReleased u rows1 x comp micro) → IsIndexedBy u rows1
release-indexed t u rows rows1 comp micro sound due e by has =
    subst (λ (x : Trace). IsIndexedBy x rows1) (sym e) (released-has t rows1 by.index comp micro sound.run by.is due (has-of t u rows rows1 comp micro sound e by has))

pub release-keeps-calm : (t u : Trace) (rows rows1 : Rows) (comp micro : ℕ) → IsSound t → IsDue t (Step.Release comp micro) → u ≡ with_step t (Step.Release comp micro) → IsIndexedBy t rows
    → ((x : Index) → IsKeptAt u rows x → HasReleased u rows1 x comp micro) → (i : ℕ) → i ≤ comp - 1 - cleared_comps t → is_member rows1.restless i ≡ is_member rows.restless i
release-keeps-calm t u rows rows1 comp micro sound due e by has i le =
    release-calm t rows rows1 by.index comp micro i sound (release-here t comp micro sound due) by.is due by.keeps (has-of t u rows rows1 comp micro sound e by has)
    (cleared-step t (Step.Release comp micro) sound.run) le
