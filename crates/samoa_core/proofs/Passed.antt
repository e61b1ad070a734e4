-- What a step notes in the lists.
use Rattle.std.proofs.Common.{arith, ◌≡◌, ◌↔◌, ℕ, ◌+◌, ◌-◌, ◌*◌, ◌<◌, ◌≤◌, sym, ap, subst, ◌∙◌, length, set, Bool, true, false, Option, Some, None}
use Rattle.std.specs.Prelude.{slice_get}
use Rattle.samoa_versions.specs.Ready.{is_member}
use Rattle.samoa_model.specs.declared.record.Step.{Step}
use Rattle.samoa_invariant.specs.Index.{Index, IsIndexed, MayEnter, TellsEntry, TellsNext, abandoned, passed_on}
use Rattle.samoa_invariant.specs.Slots.{put_at}
use Rattle.samoa_invariant.specs.State as model
use Rattle.samoa_invariant.specs.Runs.{IsDue, Trace, play, state, with_step}
use Rattle.samoa_control.specs.Admission.{most_admitted}
use Rattle.samoa_control.specs.Since.{cleared_comps}
use Rattle.samoa_control.specs.Sound.{IsSound}
use Rattle.samoa_control.proofs.Grids.{grid-within}
use Rattle.samoa_core.specs.Indexed.{IsKeptAt}
use Rattle.samoa_core.specs.Passing.{CanPass, HasLeft, HasReleased, IsGreeted, MarksEntry, Passes}
use Rattle.samoa_core.specs.Rows.{Rows}
use Rattle.samoa_core.proofs.Kept.{keeps-closing, keeps-head, keeps-ready, keeps-restless}
use Rattle.samoa_core.proofs.Stepped.{place-most, released-calm}
use Rattle.samoa_core.proofs.Tables.{table-within}

-- a computation that was admitted since the last clear
pub record IsHere (t : Trace) (comp : ℕ) : Type 0 where
  pub since : cleared_comps t < comp
  pub admitted : comp ≤ length t.exts

-- as numbers from 0 have it
pub greeted-here : (t : Trace) (number : ℕ) → cleared_comps t ≤ number → number < length t.exts → IsHere t (number + 1)
greeted-here t number from lt = record { since = omega (arith, from); admitted = omega (arith, lt) }

from-here : (t : Trace) (comp : ℕ) → IsHere t comp → cleared_comps t ≤ comp - 1
from-here t comp here = let since = here.since in omega (arith, since)

count-here : (t : Trace) (comp : ℕ) → IsSound t → IsHere t comp → comp - 1 < (state t).count
count-here t comp sound here = let since = here.since in let admitted = here.admitted in let all : (state t).count ≡ length t.exts = sound.all in omega (arith, since, admitted, all)

pub most-here : (t : Trace) (comp : ℕ) → IsSound t → IsHere t comp → comp - 1 - cleared_comps t < most_admitted
most-here t comp sound here = place-most t (comp - 1) sound.run (count-here t comp sound here)

pub marks-entry : (t : Trace) (rows : Rows) (g : Index) (comp : ℕ) (enters : Bool) → IsSound t → IsHere t comp → (enters ≡ true) ↔ MayEnter (play t) (state t) (comp - 1) → IsKeptAt t rows g
    → MarksEntry t (record rows { ready = set rows.ready (comp - 1 - cleared_comps t) enters }) g comp
marks-entry t rows g comp enters sound here tells keeps = record {
  enters = enters;
  tells = tells;
  keeps = keeps-ready t.script.nodes (length t.script.micros) (cleared_comps t) (state t).count rows g (comp - 1) enters (from-here t comp here) (most-here t comp sound here) keeps;
}

pub has-left : (t : Trace) (rows : Rows) (g : Index) (comp : ℕ) (restless closing : Bool) → IsSound t → IsHere t comp
    → ((micro : ℕ) → IsDue t (Step.Release comp micro) → restless ≡ true) → (IsDue t (Step.End comp) → closing ≡ true) → MarksEntry t rows g comp
    → HasLeft t (record rows { restless = set rows.restless (comp - 1 - cleared_comps t) restless; closing = set rows.closing (comp - 1 - cleared_comps t) closing }) g comp
has-left t rows g comp restless closing sound here releases ends has =
    let k : ℕ = comp - 1 in
    let v : ℕ = t.script.nodes in
    let n : ℕ = length t.script.micros in
    let first : ℕ = cleared_comps t in
    let mid : Rows = record rows { restless = set rows.restless (k - first) restless } in
    let marked : Index = abandoned g k has.enters in
    let since = here.since in
    record {
      notes = record { enters = has.enters; restless = restless; closing = closing };
      tells = record {
        entry = has.tells;
        release = λ micro can. releases micro (record { number = omega (arith, since); enabled = can });
        end = λ can. ends (record { number = omega (arith, since); enabled = can });
      };
      keeps = keeps-closing v n first (state t).count mid (record marked { restless = model.put marked.restless k restless }) k closing (from-here t comp here) (most-here t comp sound here)
          (keeps-restless v n first (state t).count rows marked k restless (from-here t comp here) (most-here t comp sound here) has.keeps);
    }

pub is-greeted : (t : Trace) (rows : Rows) (g : Index) (number : ℕ) → IsSound t → IsHere t (number + 1) → MarksEntry t rows g (number + 1)
    → IsGreeted t (record rows { restless = set rows.restless (number + 1 - 1 - cleared_comps t) true }) g number
is-greeted t rows g number sound here has =
    subst (λ (k : ℕ). IsGreeted t (record rows { restless = set rows.restless (number + 1 - 1 - cleared_comps t) true }) g k) same (record {
      enters = has.enters;
      tells = has.tells;
      keeps = keeps-restless t.script.nodes (length t.script.micros) (cleared_comps t) (state t).count rows (abandoned g (number + 1 - 1) has.enters) (number + 1 - 1) true
          (from-here t (number + 1) here) (most-here t (number + 1) sound here) has.keeps;
    })
  where
    same : number + 1 - 1 ≡ number
    same = omega arith

pub next-read : (t : Trace) (rows : Rows) (g : Index) (comp micro : ℕ) (x : Option ℕ) → IsSound t → IsHere t comp → micro < length t.script.micros → IsKeptAt t rows g
    → slice_get rows.nexts ((comp - 1 - cleared_comps t) * rows.micros + micro) ≡ Some x → g.next (comp - 1) micro ≡ x
next-read t rows g comp micro x sound here within keeps e =
    let from = from-here t comp here in
    let lt = count-here t comp sound here in
    let k : ℕ = comp - 1 in
    let same : cleared_comps t + (k - cleared_comps t) ≡ k = omega (arith, from) in
    let value : slice_get rows.nexts ((k - cleared_comps t) * length t.script.micros + micro) ≡ Some (g.next (cleared_comps t + (k - cleared_comps t)) micro) =
    keeps.nexts.value (k - cleared_comps t) micro (omega (arith, from, lt)) within in
    let both : Some (g.next (cleared_comps t + (k - cleared_comps t)) micro) ≡ Some x =
    sym value ∙ (ap (λ (n : ℕ). slice_get rows.nexts ((k - cleared_comps t) * n + micro)) (sym keeps.micros) ∙ e) in
    let read : g.next (cleared_comps t + (k - cleared_comps t)) micro ≡ x = cc in
    subst (λ (i : ℕ). g.next i micro ≡ x) same read

-- who comes next, as it is read where the queue may go on
pub next-of : (t : Trace) (rows : Rows) (g : Index) (comp micro at first : ℕ) (x : Option ℕ) → IsSound t → CanPass t rows comp micro → at ≡ comp - 1 - first → first ≡ cleared_comps t → IsKeptAt t rows g
    → slice_get rows.nexts (at * rows.micros + micro) ≡ Some x → g.next (comp - 1) micro ≡ x
next-of t rows g comp micro at first x sound can e same keeps read =
    next-read t rows g comp micro x sound (record { since = can.since; admitted = can.admitted }) can.within keeps
    (subst (λ (n : ℕ). slice_get rows.nexts (n * rows.micros + micro) ≡ Some x) (e ∙ ap (λ (n : ℕ). comp - 1 - n) same) read)

passes-by : (t : Trace) (rows : Rows) (g : Index) (comp micro : ℕ) (x : Option ℕ) (enters : Bool) → g.next (comp - 1) micro ≡ x → TellsNext (play t) (state t) x enters
    → IsKeptAt t rows (passed_on g ((play t).node (comp - 1)) micro x enters) → Passes t rows g comp micro
passes-by t rows g comp micro x enters e tells keeps = record {
  enters = enters;
  tells = subst (λ (y : Option ℕ). TellsNext (play t) (state t) y enters) (sym e) tells;
  keeps = subst (λ (y : Option ℕ). IsKeptAt t rows (passed_on g ((play t).node (comp - 1)) micro y enters)) (sym e) keeps;
}

pub passes-none : (t : Trace) (rows : Rows) (g : Index) (comp micro : ℕ) → (play t).node (comp - 1) < t.script.nodes → micro < length t.script.micros → g.next (comp - 1) micro ≡ None
    → IsKeptAt t rows g → Passes t (record rows { heads = set rows.heads ((play t).node (comp - 1) * length t.script.micros + micro) None }) g comp micro
passes-none t rows g comp micro lt within e keeps =
    passes-by t (record rows { heads = set rows.heads ((play t).node (comp - 1) * length t.script.micros + micro) None }) g comp micro None false e (λ j no. cc)
    (keeps-head t.script.nodes (length t.script.micros) (cleared_comps t) (state t).count rows g ((play t).node (comp - 1)) micro None lt within keeps)

-- the lists with another head
pub kept-head : (t : Trace) (rows : Rows) (g : Index) (comp micro : ℕ) (x : Option ℕ) → (play t).node (comp - 1) < t.script.nodes → micro < length t.script.micros → IsKeptAt t rows g
    → IsKeptAt t (record rows { heads = set rows.heads ((play t).node (comp - 1) * length t.script.micros + micro) x }) (record g { head = put_at g.head ((play t).node (comp - 1)) micro x })
kept-head t rows g comp micro x lt within keeps =
    keeps-head t.script.nodes (length t.script.micros) (cleared_comps t) (state t).count rows g ((play t).node (comp - 1)) micro x lt within keeps

pub passes-some : (t : Trace) (rows : Rows) (g : Index) (comp micro j : ℕ) → g.next (comp - 1) micro ≡ Some j
    → IsGreeted t rows (record g { head = put_at g.head ((play t).node (comp - 1)) micro (Some j) }) j → Passes t rows g comp micro
passes-some t rows g comp micro j e greeted =
    passes-by t rows g comp micro (Some j) greeted.enters e tells greeted.keeps
  where
    tells : TellsNext (play t) (state t) (Some j) greeted.enters
    tells i is = let same : j ≡ i = cc in subst (λ (n : ℕ). TellsEntry (play t) (state t) n greeted.enters) same greeted.tells

-- a release notes that the end may be due
pub kept-closing : (t : Trace) (rows : Rows) (g : Index) (comp : ℕ) → IsSound t → IsHere t comp → IsKeptAt t rows g
    → IsKeptAt t (record rows { closing = set rows.closing (comp - 1 - cleared_comps t) true }) (record g { closing = model.put g.closing (comp - 1) true })
kept-closing t rows g comp sound here keeps =
    keeps-closing t.script.nodes (length t.script.micros) (cleared_comps t) (state t).count rows g (comp - 1) true (from-here t comp here) (most-here t comp sound here) keeps

pub can-close : (t : Trace) (rows : Rows) (comp micro : ℕ) → IsSound t → IsHere t comp → CanPass t rows comp micro
    → CanPass t (record rows { closing = set rows.closing (comp - 1 - cleared_comps t) true }) comp micro
can-close t rows comp micro sound here can = record {
  index = record can.index { closing = model.put can.index.closing (comp - 1) true };
  keeps = kept-closing t rows can.index comp sound here can.keeps;
  since = can.since;
  admitted = can.admitted;
  within = can.within;
  next = can.next;
}

pub has-released : (t : Trace) (rows : Rows) (g : Index) (comp micro : ℕ) → Passes t rows (record g { closing = model.put g.closing (comp - 1) true }) comp micro → HasReleased t rows g comp micro
has-released t rows g comp micro has = record { enters = has.enters; tells = has.tells; keeps = has.keeps }

-- a release marks no one restless up to its own place
pub release-calm : (t : Trace) (rows new : Rows) (g : Index) (comp micro i : ℕ) → IsSound t → IsHere t comp → IsIndexed (play t) (cleared_comps t) (state t) g → IsDue t (Step.Release comp micro)
    → IsKeptAt t rows g → HasReleased (with_step t (Step.Release comp micro)) new g comp micro → cleared_comps (with_step t (Step.Release comp micro)) ≡ cleared_comps t
    → i ≤ comp - 1 - cleared_comps t → is_member new.restless i ≡ is_member rows.restless i
release-calm t rows new g comp micro i sound here is due keeps has same le =
    let first : ℕ = cleared_comps t in
    let from = from-here t comp here in
    let back : first + i - first ≡ i = omega arith in
    let there : first + i - cleared_comps (with_step t (Step.Release comp micro)) ≡ i = ap (λ (n : ℕ). first + i - n) same ∙ back in
    sym (ap (λ (n : ℕ). is_member new.restless n) there)
    ∙ (has.keeps.restless (first + i) (omega (arith, same))
    ∙ (released-calm t g comp micro has.enters (first + i) sound.run is due (omega (arith, le, from))
    ∙ (sym (keeps.restless (first + i) (omega arith)) ∙ ap (λ (n : ℕ). is_member rows.restless n) back)))
