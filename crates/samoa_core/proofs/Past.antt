-- How far a pass of releases or of ends has come, and what it leaves.
use Rattle.std.proofs.Common.{arith, ◌≡◌, ◌≢◌, ◌⊎◌, inl, inr, ◌↔◌, ℕ, suc, ◌+◌, ◌-◌, ◌<◌, ◌≤◌, refl, sym, ap, subst, ◌∙◌, List, length, set, Bool, true, false, if◌then◌else◌}
use Rattle.std.specs.Int.{bit_at}
use Rattle.std.proofs.lemmas.Bool.{cases_eq, cases_lt, eq-eqb}
use Rattle.std.proofs.lemmas.Grind.{get_or-set_at}
use Rattle.std.proofs.lemmas.List.{get_or-set_other}
use Rattle.samoa_versions.specs.Ready.{is_member}
use Rattle.samoa_model.specs.declared.record.Step.{Step}
use Rattle.samoa_invariant.specs.Index.{unclosing, unrestless}
use Rattle.samoa_invariant.specs.State as model
use Rattle.samoa_invariant.specs.Runs.{IsDue, IsRun, Trace, play, state, with_step}
use Rattle.samoa_invariant.specs.Settling.{EndsAll, EndsBefore, ReleasesAll, ReleasesBefore, ReleasesOf}
use Rattle.samoa_invariant.proofs.indexing.Handling.{unclosing_indexed, unrestless_indexed}
use Rattle.samoa_invariant.proofs.indexing.Leading.{ends_done, ends_on, least_enters, none_enters, releases_done, releases_on, stopped_enters}
use Rattle.samoa_invariant.proofs.settling.Making.{due-open, ends_before-make, ends_before-none, ends_before-skip, releases_before-make, releases_before-none, releases_of-make, releases_of-none, releases_of-skip}
use Rattle.samoa_invariant.proofs.settling.Releasing.{ends-leave, releases-leave}
use Rattle.samoa_invariant.proofs.representation.Traces.{state-step}
use Rattle.samoa_control.specs.Later.{IsLater, IsStill}
use Rattle.samoa_control.specs.Since.{cleared_comps}
use Rattle.samoa_control.specs.Sound.{IsSound, StillNeeds}
use Rattle.samoa_control.proofs.Later.{later-made, still-unmoved}
use Rattle.samoa_control.proofs.Passes.{due-within}
use Rattle.samoa_core.specs.Indexed.{IsIndexedBy}
use Rattle.samoa_core.specs.Rows.{Rows}
use Rattle.samoa_core.specs.Settling.{EndsPast, NoneBelow, ReleasesPast}
use Rattle.samoa_core.proofs.Kept.{keeps-closing, keeps-restless}
use Rattle.samoa_core.proofs.Members.{member-past}
use Rattle.samoa_core.proofs.Passed.{IsHere, most-here}

suc_is : (n : ℕ) → suc n ≡ n + 1
suc_is n = omega arith

before-here : (n : ℕ) → 0 < n → n - 1 + 1 ≡ n
before-here n some = omega (arith, some)

-- the releases of a computation, one more of which is made
pub released : (before now u : Trace) (c m : ℕ) → IsRun before → ReleasesOf before now c m → IsDue now (Step.Release c m) → u ≡ with_step now (Step.Release c m) → ReleasesOf before u c (m + 1)
released before now u c m run r due e =
    subst (λ (x : Trace). ReleasesOf before x c (m + 1)) (sym e) (subst (λ (n : ℕ). ReleasesOf before (with_step now (Step.Release c m)) c n) (suc_is m) (releases_of-make before now c m run r due))

-- a release changes nothing of what a computation needs
pub needs-on : (t u : Trace) (c m needed : ℕ) → IsRun t → u ≡ with_step t (Step.Release c m) → StillNeeds t c needed → StillNeeds u c needed
needs-on t u c m needed run e needs = subst (λ (x : Trace). StillNeeds x c needed) (sym e) (record {
  bits = λ p within.
      subst (λ (core : model.Core). (bit_at needed p ≡ 0) ↔ model.Quiet ((play t).decl (c - 1)) (core.table (c - 1)) (core.comp (c - 1)) p)
      (sym (state-step t (Step.Release c m) run)) (needs.bits p within);
})

-- a member of a set was admitted
pub restless-admitted : (t : Trace) (rows : Rows) (at : ℕ) → IsIndexedBy t rows → is_member rows.restless at ≡ true → cleared_comps t + at < (state t).count
restless-admitted t rows at by member = go (cases_lt (cleared_comps t + at) (state t).count)
  where
    back : cleared_comps t + at - cleared_comps t ≡ at
    back = omega arith

    go : (cleared_comps t + at < (state t).count) ⊎ ((state t).count ≤ cleared_comps t + at) → cleared_comps t + at < (state t).count
    go (inl lt) = lt
    go (inr le) =
        let marked : by.index.restless (cleared_comps t + at) ≡ true =
        sym (by.keeps.restless (cleared_comps t + at) (omega arith)) ∙ (ap (λ (n : ℕ). is_member rows.restless n) back ∙ member) in
        let never : true ≡ false = sym marked ∙ (by.is.unadmitted (cleared_comps t + at) le).restless in
        cc

pub closing-admitted : (t : Trace) (rows : Rows) (at : ℕ) → IsIndexedBy t rows → is_member rows.closing at ≡ true → cleared_comps t + at < (state t).count
closing-admitted t rows at by member = go (cases_lt (cleared_comps t + at) (state t).count)
  where
    back : cleared_comps t + at - cleared_comps t ≡ at
    back = omega arith

    go : (cleared_comps t + at < (state t).count) ⊎ ((state t).count ≤ cleared_comps t + at) → cleared_comps t + at < (state t).count
    go (inl lt) = lt
    go (inr le) =
        let marked : by.index.closing (cleared_comps t + at) ≡ true =
        sym (by.keeps.closing (cleared_comps t + at) (omega arith)) ∙ (ap (λ (n : ℕ). is_member rows.closing n) back ∙ member) in
        let never : true ≡ false = sym marked ∙ (by.is.unadmitted (cleared_comps t + at) le).closing in
        cc

pub ready-admitted : (t : Trace) (rows : Rows) (at : ℕ) → IsIndexedBy t rows → is_member rows.ready at ≡ true → cleared_comps t + at < (state t).count
ready-admitted t rows at by member = go (cases_lt (cleared_comps t + at) (state t).count)
  where
    back : cleared_comps t + at - cleared_comps t ≡ at
    back = omega arith

    go : (cleared_comps t + at < (state t).count) ⊎ ((state t).count ≤ cleared_comps t + at) → cleared_comps t + at < (state t).count
    go (inl lt) = lt
    go (inr le) =
        let marked : by.index.ready (cleared_comps t + at) ≡ true =
        sym (by.keeps.ready (cleared_comps t + at) (omega arith)) ∙ (ap (λ (n : ℕ). is_member rows.ready n) back ∙ member) in
        let never : true ≡ false = sym marked ∙ (by.is.unadmitted (cleared_comps t + at) le).ready in
        cc

-- the pass has come to the least that is marked, or is complete
pub releases-least : (before now : Trace) (rows : Rows) (past at : ℕ) → IsSound now → ReleasesPast before now rows past → is_member rows.restless at ≡ true → past < cleared_comps now + at + 1
releases-least before now rows past at sound is member =
    let le = member-past rows.restless (past - cleared_comps now) at is.below member in
    let from = is.from in
    omega (arith, le, from)

pub releases-come : (before now : Trace) (rows : Rows) (past at : ℕ) → IsSound now → ReleasesPast before now rows past → is_member rows.restless at ≡ true → NoneBelow rows.restless at
    → ReleasesPast before now rows (cleared_comps now + at + 1 - 1)
releases-come before now rows past at sound is member none = subst (λ (n : ℕ). ReleasesPast before now rows n) same (record {
  made = subst (λ (n : ℕ). ReleasesBefore before now n) (suc_is (first + at))
      (releases_on before now first by.index (past + 1) (first + at) sound.run by.is is.made (let lt = releases-least before now rows past at sound is member in omega (arith, lt))
      (λ j from less. sym (by.keeps.restless j from) ∙ none (j - first) (omega (arith, from, less))));
  below = subst (λ (n : ℕ). NoneBelow rows.restless n) (let e : at ≡ first + at - first = omega arith in e) none;
  from = omega arith;
  indexed = by;
})
  where
    first : ℕ
    first = cleared_comps now

    by : IsIndexedBy now rows
    by = is.indexed

    same : first + at ≡ first + at + 1 - 1
    same = omega arith

pub ends-least : (before now : Trace) (rows : Rows) (past at : ℕ) → IsSound now → EndsPast before now rows past → is_member rows.closing at ≡ true → past < cleared_comps now + at + 1
ends-least before now rows past at sound is member =
    let le = member-past rows.closing (past - cleared_comps now) at is.below member in
    let from = is.from in
    omega (arith, le, from)

pub ends-come : (before now : Trace) (rows : Rows) (past at : ℕ) → IsSound now → EndsPast before now rows past → is_member rows.closing at ≡ true → NoneBelow rows.closing at
    → EndsPast before now rows (cleared_comps now + at + 1 - 1)
ends-come before now rows past at sound is member none = subst (λ (n : ℕ). EndsPast before now rows n) same (record {
  made = subst (λ (n : ℕ). EndsBefore before now n) (suc_is (first + at))
      (ends_on before now first by.index (past + 1) (first + at) by.is is.made (let lt = ends-least before now rows past at sound is member in omega (arith, lt))
      (λ j from less. sym (by.keeps.closing j from) ∙ none (j - first) (omega (arith, from, less))));
  below = subst (λ (n : ℕ). NoneBelow rows.closing n) (let e : at ≡ first + at - first = omega arith in e) none;
  from = omega arith;
  indexed = by;
})
  where
    first : ℕ
    first = cleared_comps now

    by : IsIndexedBy now rows
    by = is.indexed

    same : first + at ≡ first + at + 1 - 1
    same = omega arith

-- a mark is taken from whom no release, or end, is due of
pub calmed : (u : Trace) (rows : Rows) (comp : ℕ) → IsSound u → IsHere u comp → IsIndexedBy u rows → ((p : ℕ) → IsDue u (Step.Release comp p) → ⊥)
    → IsIndexedBy u (record rows { restless = set rows.restless (comp - 1 - cleared_comps u) false })
calmed u rows comp sound here by none =
    let since = here.since in
    record {
      index = unrestless by.index (comp - 1);
      keeps = keeps-restless u.script.nodes (length u.script.micros) (cleared_comps u) (state u).count rows by.index (comp - 1) false (omega (arith, since)) (most-here u comp sound here) by.keeps;
      is = unrestless_indexed (play u) (cleared_comps u) (state u) (comp - 1) by.index (λ p can. none p (record { number = omega (arith, since); enabled = can })) by.is;
    }

pub closed : (u : Trace) (rows : Rows) (comp : ℕ) → IsSound u → IsHere u comp → IsIndexedBy u rows → (IsDue u (Step.End comp) → ⊥)
    → IsIndexedBy u (record rows { closing = set rows.closing (comp - 1 - cleared_comps u) false })
closed u rows comp sound here by none =
    let since = here.since in
    record {
      index = unclosing by.index (comp - 1);
      keeps = keeps-closing u.script.nodes (length u.script.micros) (cleared_comps u) (state u).count rows by.index (comp - 1) false (omega (arith, since)) (most-here u comp sound here) by.keeps;
      is = unclosing_indexed (play u) (cleared_comps u) (state u) (comp - 1) by.index (λ can. none (record { number = omega (arith, since); enabled = can })) by.is;
    }

-- none of the releases of a computation is due once they were made
pub none-of : (t u : Trace) (comp n : ℕ) → IsSound u → length u.script.micros ≤ n → ReleasesOf t u comp n → (p : ℕ) → IsDue u (Step.Release comp p) → ⊥
none-of t u comp n sound all of p due = let lt : p < length u.script.micros = due-within u comp p sound due in of.none p (omega (arith, lt, all)) due

-- so no place up to its own is a member
none-up : (members old : List Bool) (at n : ℕ) → at < length members → n ≡ at + 1 → NoneBelow old at → ((i : ℕ) → i ≤ at → is_member members i ≡ is_member old i) → NoneBelow (set members at false) n
none-up members old at n within e below same i lt = go (cases_eq i at)
  where
    go : (i ≡ at) ⊎ (i ≢ at) → is_member (set members at false) i ≡ false
    go (inl here) = get_or-set_at members at i false false here within
    go (inr ne) = get_or-set_other members at i false false ne ∙ (same i (omega (arith, lt, e)) ∙ below i (omega (arith, lt, e, ne)))

pub releases-next : (before t u : Trace) (rows new : Rows) (comp n : ℕ) → IsRun before → IsSound u → IsHere u comp → cleared_comps u ≡ cleared_comps t → length u.script.micros ≤ n
    → ReleasesPast before t rows (comp - 1) → ReleasesOf t u comp n → IsIndexedBy u new
    → ((i : ℕ) → i ≤ comp - 1 - cleared_comps t → is_member new.restless i ≡ is_member rows.restless i)
    → ReleasesPast before u (record new { restless = set new.restless (comp - 1 - cleared_comps u) false }) comp
releases-next before t u rows new comp n run sound here first all is of by same =
    let since = here.since in
    let some : 0 < comp = omega (arith, since) in
    record {
      made = subst (λ (c : ℕ). ReleasesBefore before u c) (suc_is comp)
          (releases_before-make before t u comp n run (subst (λ (c : ℕ). ReleasesBefore before t c) (before-here comp some) is.made) of
          (λ p le due. let lt : p < length u.script.micros = due-within u comp p sound due in omega (arith, le, lt, all)));
      below = none-up new.restless rows.restless (comp - 1 - cleared_comps u) (comp - cleared_comps u) (let size = by.keeps.sized.restless in let lt = most-here u comp sound here in omega (arith, size, lt)) (omega (arith, since))
          (subst (λ (c : ℕ). NoneBelow rows.restless (comp - 1 - c)) (sym first) is.below)
          (subst (λ (c : ℕ). (i : ℕ) → i ≤ comp - 1 - c → is_member new.restless i ≡ is_member rows.restless i) (sym first) same);
      from = omega (arith, since);
      indexed = calmed u new comp sound here by (none-of t u comp n sound all of);
    }

pub ends-next : (before t u : Trace) (rows : Rows) (comp : ℕ) → IsSound u → IsHere u comp → cleared_comps u ≡ cleared_comps t → EndsPast before t rows (comp - 1) → EndsBefore before u (comp + 1) → IsIndexedBy u rows
    → EndsPast before u (record rows { closing = set rows.closing (comp - 1 - cleared_comps u) false }) comp
ends-next before t u rows comp sound here first is made by =
    let since = here.since in
    record {
      made = made;
      below = none-up rows.closing rows.closing (comp - 1 - cleared_comps u) (comp - cleared_comps u) (let size = by.keeps.sized.closing in let lt = most-here u comp sound here in omega (arith, size, lt)) (omega (arith, since))
          (subst (λ (c : ℕ). NoneBelow rows.closing (comp - 1 - c)) (sym first) is.below) (λ i le. refl);
      from = omega (arith, since);
      indexed = closed u rows comp sound here by (λ due. made.none comp (omega arith) due);
    }

-- an end is made, or isn't due
pub ended : (before now u : Trace) (c : ℕ) → IsRun before → EndsBefore before now c → IsDue now (Step.End c) → u ≡ with_step now (Step.End c) → EndsBefore before u (c + 1)
ended before now u c run r due e =
    subst (λ (x : Trace). EndsBefore before x (c + 1)) (sym e) (subst (λ (n : ℕ). EndsBefore before (with_step now (Step.End c)) n) (suc_is c) (ends_before-make before now c run r due))

pub ends-until : (before now : Trace) (rows : Rows) (comp : ℕ) → 0 < comp → EndsPast before now rows (comp - 1) → EndsBefore before now comp
ends-until before now rows comp some is = subst (λ (n : ℕ). EndsBefore before now n) (before-here comp some) is.made

-- an end that was made isn't due
pub end-over : (t u : Trace) (comp : ℕ) → IsRun t → u ≡ with_step t (Step.End comp) → IsDue u (Step.End comp) → ⊥
end-over t u comp run e due = go (subst (λ (x : Trace). IsDue x (Step.End comp)) e due)
  where
    go : IsDue (with_step t (Step.End comp)) (Step.End comp) → ⊥
    go again =
        let ended : (state (with_step t (Step.End comp))).ended (comp - 1) ≡ true =
        ap (λ (core : model.Core). core.ended (comp - 1)) (state-step t (Step.End comp) run) ∙ ap (λ (b : Bool). if b then true else (state t).ended (comp - 1)) (eq-eqb (comp - 1) (comp - 1) refl) in
        let not_ended : (state (with_step t (Step.End comp))).ended (comp - 1) ≡ false = again.enabled.not_ended in
        cc

-- a computation is there later, too
pub here-later : (t u : Trace) (comp : ℕ) → IsLater t u → IsHere t comp → IsHere u comp
here-later t u comp later here = record {
  since = subst (λ (n : ℕ). n < comp) (sym later.cleared) here.since;
  admitted = subst (λ (n : ℕ). comp ≤ n) (sym (ap length later.exts)) here.admitted;
}

pub later-of : (t u : Trace) (comp n : ℕ) → IsRun t → ReleasesOf t u comp n → IsLater t u
later-of t u comp n run of = later-made t u of.steps run of.made

-- a pass begins after those that were cleared away
nothing-below : (members : List Bool) (n : ℕ) → NoneBelow members (n - n)
nothing-below members n i lt = absurd (omega (arith, lt))

pub releases-begin : (t : Trace) (rows : Rows) → IsSound t → IsIndexedBy t rows → ReleasesPast t t rows (cleared_comps t)
releases-begin t rows sound by = record {
  made = releases_before-none t (cleared_comps t + 1)
      (λ j p lt due. let first : 0 < j = due.number in due-open t j p sound.run due (sound.past (j - 1) (omega (arith, lt, first))));
  below = nothing-below rows.restless (cleared_comps t);
  from = omega arith;
  indexed = by;
}

pub ends-begin : (t : Trace) (rows : Rows) → IsSound t → IsIndexedBy t rows → EndsPast t t rows (cleared_comps t)
ends-begin t rows sound by = record {
  made = ends_before-none t (cleared_comps t + 1) (λ j lt due. unended j lt due);
  below = nothing-below rows.closing (cleared_comps t);
  from = omega arith;
  indexed = by;
}
  where
    unended : (j : ℕ) → j < cleared_comps t + 1 → IsDue t (Step.End j) → ⊥
    unended j lt due =
        let first : 0 < j = due.number in
        let ended : (state t).ended (j - 1) ≡ true = sound.past (j - 1) (omega (arith, lt, first)) in
        let not_ended : (state t).ended (j - 1) ≡ false = due.enabled.not_ended in
        cc

-- what a pass leaves
pub record IsPassed (t u : Trace) : Type 0 where
  pub still : IsStill (state t) u
  pub later : IsLater t u
  pub not_more : model.left (play u) (state u) ≤ model.left (play t) (state t)

pub releases-passed : (t u : Trace) → IsRun t → ReleasesAll t u → IsPassed t u
releases-passed t u run all =
    let leaves = releases-leave t u run all in
    record { still = still-unmoved t u leaves.unmoved; later = later-made t u all.steps run all.made; not_more = leaves.not_more }

pub ends-passed : (t u : Trace) → IsRun t → EndsAll t u → IsPassed t u
ends-passed t u run all =
    let leaves = ends-leave t u run all in
    record { still = still-unmoved t u leaves.unmoved; later = later-made t u all.steps run all.made; not_more = leaves.not_more }

-- who is picked
pub pick-due : (t : Trace) (rows : Rows) (at : ℕ) → IsSound t → IsIndexedBy t rows → (state t).stopped ≡ false → is_member rows.ready at ≡ true → NoneBelow rows.ready at
    → (micro : ℕ) × IsDue t (Step.Enter (cleared_comps t + at + 1) micro)
pick-due t rows at sound by runs member below =
    let first : ℕ = cleared_comps t in
    let back : first + at - first ≡ at = omega arith in
    let is = least_enters t first by.index (first + at) sound.run by.is runs (omega arith) (ready-admitted t rows at by member)
    (sym (by.keeps.ready (first + at) (omega arith)) ∙ (ap (λ (n : ℕ). is_member rows.ready n) back ∙ member))
    (λ j from less. sym (by.keeps.ready j from) ∙ below (j - first) (omega (arith, from, less))) in
    (is.micro, subst (λ (c : ℕ). IsDue t (Step.Enter c is.micro)) (suc_is (first + at)) is.due)

pub pick-least : (t : Trace) (rows : Rows) (at : ℕ) → IsSound t → IsIndexedBy t rows → (state t).stopped ≡ false → is_member rows.ready at ≡ true → NoneBelow rows.ready at
    → (earlier micro : ℕ) → earlier < cleared_comps t + at + 1 → IsDue t (Step.Enter earlier micro) → ⊥
pick-least t rows at sound by runs member below earlier micro lt due =
    let first : ℕ = cleared_comps t in
    let back : first + at - first ≡ at = omega arith in
    let is = least_enters t first by.index (first + at) sound.run by.is runs (omega arith) (ready-admitted t rows at by member)
    (sym (by.keeps.ready (first + at) (omega arith)) ∙ (ap (λ (n : ℕ). is_member rows.ready n) back ∙ member))
    (λ j from less. sym (by.keeps.ready j from) ∙ below (j - first) (omega (arith, from, less))) in
    is.least earlier micro (omega (arith, lt)) due

pub pick-none : (t : Trace) (rows : Rows) → IsSound t → IsIndexedBy t rows → ((i : ℕ) → is_member rows.ready i ≡ false) → (comp micro : ℕ) → IsDue t (Step.Enter comp micro) → ⊥
pick-none t rows sound by none comp micro due =
    none_enters t (cleared_comps t) by.index sound.run by.is (λ k from. sym (by.keeps.ready k from) ∙ none (k - cleared_comps t)) comp micro due
