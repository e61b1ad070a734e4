-- What the invariant gives: serial answers, serial states, and the next step.
use Rattle.std.proofs.Common.{arith, ◌≡◌, ℕ, suc, ◌≤◌, ◌<◌, ◌⊎◌, inl, inr, refl, sym, ap, ◌∙◌, subst, [], true, Some, None}
use Rattle.samoa_serial.specs.Calls.{Computation}
use Rattle.samoa_serial.specs.Alone.{Machine}
use Rattle.samoa_serial.proofs.Refine.{ended}
use Rattle.samoa_invariant.specs.Play.{Play, version, point, stood, whole_of}
use Rattle.samoa_invariant.specs.State.{Core, AllEnded, Reached, Opening, Later, empty}
use Rattle.samoa_invariant.specs.Inv.{Invariant, IsDone, IsOutRightly, HasSerialAnswer}
use Rattle.samoa_invariant.proofs.preservation.Versions.{version-mono, all_before_past}
use Rattle.samoa_invariant.proofs.refinement.Points.{point_idle, some_or_none}
use Rattle.samoa_invariant.proofs.preservation.Forms.{enabled_keeps}

pub empty_keeps : (P : Play) → Invariant P (empty P)
empty_keeps P = record {
  booked = record { present = λ v. refl; table = λ k lt. absurd (omega arith); from = λ k v p lt. absurd (omega arith); private = λ k v p lt. absurd (omega arith) };
  versions = record { global = λ v p. refl; local = λ v p. omega arith; counted = λ k p lt. absurd (omega arith) };
  not_yet = λ k p lt. absurd (omega arith);
  no_more = λ k p lt. absurd (omega arith);
  out = λ v p k e. absurd (let no : None ≡ Some k = e in cc);
  boxes = record { owned = λ k p lt. absurd (omega arith); idle = λ v p e. refl };
  calls = record { comp = λ k lt. absurd (omega arith); made = λ k lt. absurd (omega arith) };
  ended = λ k lt. absurd (omega arith);
}

pub reached_keeps : (P : Play) (core : Core) → Reached P core → Invariant P core
reached_keeps P core Opening = empty_keeps P
reached_keeps P core (Later before step r can) = enabled_keeps P before step (reached_keeps P before r) can

-- nothing active: the whole event's calls, and nothing waits
pub idle_is_whole : (P : Play) (core : Core) (k : ℕ) → Invariant P core → k < core.count → (core.comp k).active ≡ [] → core.comp k ≡ (ended (whole_of P k)).comp
idle_is_whole P core k i lt e =
    let is : core.comp k ≡ (point P k (core.made k)).comp = i.calls.comp k lt in
    is ∙ ap (λ (m : Machine). m.comp) (point_idle P k (core.made k) (sym (ap (λ (c : Computation). c.active) is) ∙ e))

-- an ended computation has the entries and the ending of the whole event, whether or not others have ended
pub ended_answers : (P : Play) (core : Core) (k : ℕ) → Invariant P core → k < core.count → core.ended k ≡ true → HasSerialAnswer P core k
ended_answers P core k i lt e =
    let d : IsDone P core k = i.ended k lt e in
    let idle : (core.comp k).active ≡ [] = ap (λ (c : Computation). c.active) (i.calls.comp k lt) ∙ d.idle.active in
    let is : core.comp k ≡ (ended (whole_of P k)).comp = idle_is_whole P core k i lt idle in
    record { entries = ap (λ (c : Computation). c.entries) is; ending = ap (λ (c : Computation). c.answer) is }

-- where all have ended every slot is past all
pub all_past : (P : Play) (core : Core) → Invariant P core → AllEnded core → (v p : ℕ) → core.local v p ≡ version P core.count v p
all_past P core i all v p =
    let le : core.local v p ≤ version P core.count v p = i.versions.local v p in
    let ge : version P core.count v p ≤ core.local v p =
    all_before_past P (core.local v p) core.count v p
    (λ j lt e w. let d : IsDone P core j = i.ended j lt (all j lt) in
    subst (λ (u : ℕ). version P (suc j) u p ≤ core.local u p) (sym e) (d.past p w)) in
    omega arith

pub final_states : (P : Play) (core : Core) → Invariant P core → AllEnded core → (v p : ℕ) → core.boxes v p ≡ stood P core.count v p
final_states P core i all v p = i.boxes.idle v p (all_past P core i all v p)

pub nothing_out : (P : Play) (core : Core) → Invariant P core → AllEnded core → (v p k : ℕ) → core.out v p ≡ Some k → ⊥
nothing_out P core i all v p k e =
    let o : IsOutRightly P core v p k = i.out v p k e in
    let lt : k < core.count = o.admitted in
    let below : core.local v p < version P (suc k) v p = o.owns.below in
    let order : version P (suc k) v p ≤ version P core.count v p = version-mono P (suc k) core.count v p (omega arith) in
    let past : core.local v p ≡ version P core.count v p = all_past P core i all v p in
    omega arith

pub all_home : (P : Play) (core : Core) → Invariant P core → AllEnded core → (v p : ℕ) → core.out v p ≡ None
all_home P core i all v p = go (some_or_none (core.out v p))
  where
    go : (core.out v p ≡ None) ⊎ ((k : ℕ) × (core.out v p ≡ Some k)) → core.out v p ≡ None
    go (inl none) = none
    go (inr some) = absurd (nothing_out P core i all v p some.0 some.1)
