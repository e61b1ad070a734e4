-- What holds of a computation of which a release is due, and what it is past.
use Rattle.std.proofs.Common.{arith, ◌≡◌, ◌⊎◌, inl, inr, ◌↔◌, ℕ, ◌+◌, ◌-◌, ◌<◌, ◌≤◌, refl, sym, ap, ◌∙◌, List, [], ◌∷◌, map, length, Bool, true, false, not, Some}
use Rattle.std.specs.Prelude.{slice_get}
use Rattle.samoa_model.specs.declared.ids.NodeId.{NodeId}
use Rattle.samoa_model.specs.Allowed.{weight}
use Rattle.samoa_model.specs.Paths.{MayRelease, handlers_by}
use Rattle.samoa_model.specs.Scripts.{Table}
use Rattle.samoa_model.specs.declared.ids.HandlerId.{HandlerId}
use Rattle.samoa_model.specs.declared.record.Step.{Step}
use Rattle.samoa_model.specs.declared.script.Decl.{Decl}
use Rattle.samoa_serial.specs.declared.call.Active.{Active}
use Rattle.samoa_serial.specs.Calls.{Computation}
use Rattle.samoa_invariant.specs.Inv.{Invariant}
use Rattle.samoa_invariant.specs.Play.{IsIdle}
use Rattle.samoa_invariant.specs.Runs.{IsDue, IsRun, Trace, ext_at, play, state}
use Rattle.samoa_invariant.proofs.refinement.Ends.{idle_is_whole}
use Rattle.samoa_invariant.proofs.preservation.Slots.{turn_declares}
use Rattle.samoa_invariant.proofs.representation.Traces.{invariant}
use Rattle.samoa_invariant.proofs.preservation.Versions.{version-own}
use Rattle.samoa_control.specs.Forms.{waits_for_rest}
use Rattle.samoa_control.specs.Known.{decl_number}
use Rattle.samoa_control.specs.Running.{IsRunning, turn_of}
use Rattle.samoa_control.specs.declared.running.Interval.{Interval}
use Rattle.samoa_control.specs.declared.running.Running.{Running}
use Rattle.samoa_control.specs.Sound.{IsPast, IsSound}
use Rattle.samoa_control.proofs.Declares.{declares_known}

-- what is released is a microprotocol of the stack
pub due-within : (t : Trace) (c p : ℕ) → IsSound t → IsDue t (Step.Release c p) → p < length t.script.micros
due-within t c p sound due =
    declares_known t.script sound.in_range (decl_number t.script (ext_at t.exts (c - 1))) p (turn_declares (play t) (state t) (c - 1) p (invariant t sound.run) due.enabled.turn)

-- under a set and a bound, nothing is left where a release is due
none_active : (xs : List Active) → (let hs : List HandlerId = map (λ a. a.call.handler) xs in hs) ≡ [] → xs ≡ []
none_active [] e = refl
none_active (x ∷ xs) e = cc

waits-idle : (t : Trace) (k : ℕ) (d : Decl) (table : Table) (p : ℕ) → IsRun t → k < (state t).count → waits_for_rest d ≡ true
    → MayRelease d (map (λ a. a.call.handler) ((state t).comp k).active) (handlers_by table (map (λ w. w.event) ((state t).comp k).waiting)) p → IsIdle ((state t).comp k)
waits-idle t k d table p run lt waits may = idle (none_active ((state t).comp k).active (active d waits may))
  where
    active : (e : Decl) → waits_for_rest e ≡ true
        → MayRelease e (map (λ a. a.call.handler) ((state t).comp k).active) (handlers_by table (map (λ w. w.event) ((state t).comp k).waiting)) p
        → map (λ a. a.call.handler) ((state t).comp k).active ≡ []
    active (Decl.Set micros) waits may = may.none_active
    active (Decl.Bound bounds) waits may = may.none_active
    active (Decl.Route vertices roots edges) waits may = cc

    idle : ((state t).comp k).active ≡ [] → IsIdle ((state t).comp k)
    idle none = record { active = none; waiting = ap (λ (c : Computation). c.waiting) (idle_is_whole (play t) (state t) k (invariant t run) lt none) }

-- a release is due only of what nothing is left of, if its declaration waits for the rest
pub due-idle : (t : Trace) (c p : ℕ) → IsRun t → waits_for_rest ((play t).decl (c - 1)) ≡ true → IsDue t (Step.Release c p) → IsIdle ((state t).comp (c - 1))
due-idle t c p run waits due =
    waits-idle t (c - 1) ((play t).decl (c - 1)) ((state t).table (c - 1)) p run due.enabled.turn.admitted waits due.enabled.quiet

-- a turn is as long as the weight
pub turn-long : (t : Trace) (k p : ℕ) → IsRun t → k < (state t).count
    → (state t).from k ((play t).node k) p + weight ((play t).decl k) p ≡ (state t).private k ((play t).node k) p
turn-long t k p run lt =
    let i : Invariant (play t) (state t) = invariant t run in
    let low = i.booked.from k ((play t).node k) p lt in
    let high = i.booked.private k ((play t).node k) p lt in
    let sum = version-own (play t) k p in
    omega (arith, low, high, sum)

-- what is past
pub past-test : (t : Trace) (k p low high local : ℕ) (b : Bool) → IsRun t → k < (state t).count → low ≡ (state t).from k ((play t).node k) p → high ≡ (state t).private k ((play t).node k) p
    → local ≡ (state t).local ((play t).node k) p → (b ≡ true) ↔ ((high ≤ low) ⊎ (high ≤ local)) → (b ≡ true) ↔ IsPast (play t) (state t) k p
past-test t k p low high local b run lt is_low is_high is_local test = ((λ yes. to (test.0 yes)), (λ past. test.1 (from past (zero_or_not (weight ((play t).decl k) p)))))
  where
    long : (state t).from k ((play t).node k) p + weight ((play t).decl k) p ≡ (state t).private k ((play t).node k) p
    long = turn-long t k p run lt

    zero_or_not : (n : ℕ) → (n ≡ 0) ⊎ (0 < n)
    zero_or_not n = grind arith

    to : (high ≤ low) ⊎ (high ≤ local) → IsPast (play t) (state t) k p
    to (inl le) some = absurd (omega (arith, long, is_low, is_high, le, some))
    to (inr le) some = omega (arith, is_high, is_local, le)

    from : IsPast (play t) (state t) k p → (weight ((play t).decl k) p ≡ 0) ⊎ (0 < weight ((play t).decl k) p) → (high ≤ low) ⊎ (high ≤ local)
    from past (inl none) = inl (omega (arith, long, is_low, is_high, none))
    from past (inr some) = let le = past some in inr (omega (arith, is_high, is_local, le))

pub past-at : (t : Trace) (k p : ℕ) (r : Running) (turn : Interval) (local : ℕ) (b : Bool) → IsSound t → IsRunning t.script t.exts (state t) k r → p < length t.script.micros
    → slice_get r.turns.items p ≡ Some turn → local ≡ (state t).local r.node.0 p → (b ≡ true) ↔ ((turn.to ≤ turn.from) ⊎ (turn.to ≤ local)) → (b ≡ true) ↔ IsPast (play t) (state t) k p
past-at t k p r turn local b sound is below there is_local test =
    let same : Some turn ≡ Some (turn_of (state t) k (ext_at t.exts k).node.0 p) = sym there ∙ is.turns.value p below in
    let here : turn ≡ turn_of (state t) k (ext_at t.exts k).node.0 p = cc in
    past-test t k p turn.from turn.to local b sound.run is.admitted (ap (λ (i : Interval). i.from) here) (ap (λ (i : Interval). i.to) here)
    (is_local ∙ ap (λ (n : NodeId). (state t).local n.0 p) is.node) test

-- where something is left, a declaration of whose releases one is due doesn't wait for the rest
pub not-waiting : (t : Trace) (c p : ℕ) (idle waits : Bool) → IsRun t → IsDue t (Step.Release c p) → (idle ≡ true) ↔ IsIdle ((state t).comp (c - 1)) → idle ≡ false
    → waits ≡ waits_for_rest ((play t).decl (c - 1)) → not waits ≡ true
not-waiting t c p idle waits run due test busy is = go waits refl
  where
    go : (b : Bool) → waits ≡ b → not waits ≡ true
    go true e = let yes : idle ≡ true = test.1 (due-idle t c p run (sym is ∙ e) due) in cc
    go false e = ap not e

-- where each of the first microprotocols is past, all are
pub all-past : (t : Trace) (k n : ℕ) → IsSound t → length t.script.micros ≤ n → ((p : ℕ) → p < n → IsPast (play t) (state t) k p) → (p : ℕ) → IsPast (play t) (state t) k p
all-past t k n sound le past p some =
    let lt : p < length t.script.micros = declares_known t.script sound.in_range (decl_number t.script (ext_at t.exts k)) p some in
    past p (omega (arith, lt, le)) some
