-- The index leads whoever picks the next handler step, or settles: it takes the least member of a set each time.
use Rattle.std.proofs.Common.{arith, ◌≡◌, ◌-◌, ℕ, suc, ◌≤◌, ◌<◌, sym, ◌∙◌, subst, true, false}
use Rattle.samoa_model.specs.declared.record.Step.{Step}
use Rattle.samoa_invariant.specs.State.{CanEnd, CanEnter, CanRelease}
use Rattle.samoa_invariant.specs.Index.{Index, IsIndexed, MayEnter}
use Rattle.samoa_invariant.specs.Picking.{IsFirstToEnter, NoEnterIsDue}
use Rattle.samoa_invariant.specs.Runs.{IsDue, IsRun, Trace, play, state}
use Rattle.samoa_invariant.specs.Settling.{EndsAll, EndsBefore, ReleasesAll, ReleasesBefore}
use Rattle.samoa_invariant.proofs.preservation.Slots.{turn_owns}
use Rattle.samoa_invariant.proofs.preservation.Versions.{place_of}
use Rattle.samoa_invariant.proofs.representation.Traces.{invariant}
use Rattle.samoa_invariant.proofs.settling.Making.{ends_before-all, ends_before-skip, releases_before-all, releases_before-skip}
use Rattle.samoa_invariant.proofs.indexing.Clearing.{enters_running, open_from, running_enters}
use Rattle.samoa_invariant.proofs.indexing.Stepping.{owner_from}

-- whose Enter is due is marked
enter_marked : (t : Trace) (first : ℕ) (index : Index) (comp p : ℕ) → IsRun t → IsIndexed (play t) first (state t) index → IsDue t (Step.Enter comp p)
    → (first ≤ comp - 1) × (index.ready (comp - 1) ≡ true)
enter_marked t first index comp p run is due =
    let can : CanEnter (play t) (state t) (comp - 1) p = due.enabled in
    let from : first ≤ comp - 1 =
    owner_from (play t) first (state t) (comp - 1) p index (invariant t run) is can.turn.admitted (turn_owns (play t) (state t) (comp - 1) p (invariant t run) can.turn) in
    (from, (is.ready (comp - 1) from can.turn.admitted).1 (p, enters_running (play t) (state t) (comp - 1) p can))

-- the least that is ready is the first to enter, in a core that isn't stopped
pub least_enters : (t : Trace) (first : ℕ) (index : Index) (k : ℕ) → IsRun t → IsIndexed (play t) first (state t) index → (state t).stopped ≡ false → first ≤ k → k < (state t).count
    → index.ready k ≡ true → ((j : ℕ) → first ≤ j → j < k → index.ready j ≡ false) → IsFirstToEnter t (suc k)
least_enters t first index k run is runs from lt marked below =
    let may : MayEnter (play t) (state t) k = (is.ready k from lt).0 marked in
    record {
      micro = may.0;
      due = record {
        number = omega arith;
        enabled = subst (λ (i : ℕ). CanEnter (play t) (state t) i may.0) (place_of k) (running_enters (play t) (state t) k may.0 runs may.1);
      };
      least = λ earlier p less due.
          let number : 0 < earlier = due.number in
          let there = enter_marked t first index earlier p run is due in
          let never : true ≡ false = sym there.1 ∙ below (earlier - 1) there.0 (omega arith) in
          cc;
    }

-- where none is ready, or the core is stopped, no Enter is due
pub none_enters : (t : Trace) (first : ℕ) (index : Index) → IsRun t → IsIndexed (play t) first (state t) index → ((k : ℕ) → first ≤ k → index.ready k ≡ false) → NoEnterIsDue t
none_enters t first index run is none comp p due =
    let there = enter_marked t first index comp p run is due in
    let never : true ≡ false = sym there.1 ∙ none (comp - 1) there.0 in
    cc

pub stopped_enters : (t : Trace) → (state t).stopped ≡ true → NoEnterIsDue t
stopped_enters t stopped comp p due =
    let can : CanEnter (play t) (state t) (comp - 1) p = due.enabled in
    let never : true ≡ false = sym stopped ∙ can.running in
    cc

-- where none before k is restless, no release before k is due
release_marked : (t : Trace) (first : ℕ) (index : Index) (comp p : ℕ) → IsRun t → IsIndexed (play t) first (state t) index → IsDue t (Step.Release comp p)
    → (first ≤ comp - 1) × (index.restless (comp - 1) ≡ true)
release_marked t first index comp p run is due =
    let can : CanRelease (play t) (state t) (comp - 1) p = due.enabled in
    (owner_from (play t) first (state t) (comp - 1) p index (invariant t run) is can.turn.admitted (turn_owns (play t) (state t) (comp - 1) p (invariant t run) can.turn), is.restless (comp - 1) p can)

-- so a pass of releases that has come to one computation has come to the least restless one, or to its end
pub releases_on : (t u : Trace) (first : ℕ) (index : Index) (c k : ℕ) → IsRun u → IsIndexed (play u) first (state u) index → ReleasesBefore t u c → c ≤ suc k
    → ((j : ℕ) → first ≤ j → j < k → index.restless j ≡ false) → ReleasesBefore t u (suc k)
releases_on t u first index c k run is before le none =
    releases_before-skip t u c (suc k) before le (λ j p from less due.
    let number : 0 < j = due.number in
    let there = release_marked u first index j p run is due in
    let never : true ≡ false = sym there.1 ∙ none (j - 1) there.0 (omega arith) in
    cc)

pub releases_done : (t u : Trace) (first : ℕ) (index : Index) (c : ℕ) → IsRun u → IsIndexed (play u) first (state u) index → ReleasesBefore t u c
    → ((j : ℕ) → first ≤ j → index.restless j ≡ false) → ReleasesAll t u
releases_done t u first index c run is before none =
    releases_before-all t u c before (λ j p from due.
    let there = release_marked u first index j p run is due in
    let never : true ≡ false = sym there.1 ∙ none (j - 1) there.0 in
    cc)

-- and the same of ends
end_marked : (t : Trace) (first : ℕ) (index : Index) (comp : ℕ) → IsIndexed (play t) first (state t) index → IsDue t (Step.End comp)
    → (first ≤ comp - 1) × (index.closing (comp - 1) ≡ true)
end_marked t first index comp is due =
    let can : CanEnd (play t) (state t) (comp - 1) = due.enabled in
    (open_from (play t) first (state t) index (comp - 1) is can.not_ended, is.closing (comp - 1) can)

pub ends_on : (t u : Trace) (first : ℕ) (index : Index) (c k : ℕ) → IsIndexed (play u) first (state u) index → EndsBefore t u c → c ≤ suc k
    → ((j : ℕ) → first ≤ j → j < k → index.closing j ≡ false) → EndsBefore t u (suc k)
ends_on t u first index c k is before le none =
    ends_before-skip t u c (suc k) before le (λ j from less due.
    let number : 0 < j = due.number in
    let there = end_marked u first index j is due in
    let never : true ≡ false = sym there.1 ∙ none (j - 1) there.0 (omega arith) in
    cc)

pub ends_done : (t u : Trace) (first : ℕ) (index : Index) (c : ℕ) → IsIndexed (play u) first (state u) index → EndsBefore t u c
    → ((j : ℕ) → first ≤ j → index.closing j ≡ false) → EndsAll t u
ends_done t u first index c is before none =
    ends_before-all t u c before (λ j from due.
    let there = end_marked u first index j is due in
    let never : true ≡ false = sym there.1 ∙ none (j - 1) there.0 in
    cc)
