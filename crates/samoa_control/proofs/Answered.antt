-- What is read of computations that have ended, and the clear.
use Rattle.std.proofs.Common.{arith, ◌≡◌, ℕ, ◌-◌, ◌*◌, ◌<◌, ◌≤◌, min, refl, sym, ap, subst, ◌∙◌, List, [], ◌∷◌, ◌++◌, length, true, Option, Some}
use Rattle.samoa_model.specs.declared.record.Ending.{Ending}
use Rattle.samoa_calls.specs.Handed.{ending_at, ending_of}
use Rattle.samoa_serial.specs.Calls.{Computation}
use Rattle.samoa_serial.specs.declared.call.Active.{Active}
use Rattle.samoa_serial.specs.declared.call.Waiting.{Waiting}
use Rattle.samoa_invariant.specs.Inv.{Invariant, IsDone}
use Rattle.samoa_invariant.specs.Play.{point}
use Rattle.samoa_invariant.specs.State as model
use Rattle.samoa_invariant.specs.Runs.{IsServed, Trace, cleared, ext_at, play, served_at, state, with_clear}
use Rattle.samoa_invariant.proofs.representation.Traces.{held_not_cleared, invariant, is_run-with_clear, served, state-clear}
use Rattle.samoa_control.specs.Later.{IsStill}
use Rattle.samoa_control.specs.Room.{to_come}
use Rattle.samoa_control.specs.Since.{cleared_comps}
use Rattle.samoa_control.specs.Sound.{IsSound}
use Rattle.samoa_control.specs.Kept.{Fields, Holds, Kept, trace_of}
use Rattle.samoa_control.proofs.Ended.{ended-come}
use Rattle.samoa_control.proofs.Rules.{decl-of}
use Rattle.samoa_control.proofs.Since.{cleared-clear}

-- a computation that has ended has the entries and the answer of the serial run
served_is : (t : Trace) (comp : ℕ) → IsSound t → cleared_comps t < comp → comp ≤ length t.exts → (state t).ended (comp - 1) ≡ true → IsServed t comp
served_is t comp sound since most ended =
    let all : (state t).count ≡ length t.exts = sound.all in
    served t comp sound.run (omega (arith, since)) (omega (arith, most, all)) ended

pub entries_are : (t : Trace) (comp : ℕ) → IsSound t → cleared_comps t < comp → comp ≤ length t.exts → (state t).ended (comp - 1) ≡ true
    → ((state t).comp (comp - 1)).entries ≡ (served_at t comp).world.entries
entries_are t comp sound since most ended = (served_is t comp sound since most ended).entries

pub ending_is : (t : Trace) (comp : ℕ) → IsSound t → cleared_comps t < comp → comp ≤ length t.exts → (state t).ended (comp - 1) ≡ true
    → ending_of ((state t).comp (comp - 1)) ≡ Some (served_at t comp).value
ending_is t comp sound since most ended =
    let k : ℕ = comp - 1 in
    let all : (state t).count ≡ length t.exts = sound.all in
    let i : Invariant (play t) (state t) = invariant t sound.run in
    let lt : k < (state t).count = omega (arith, since, most, all) in
    let d : IsDone (play t) (state t) k = i.ended k lt ended in
    let is : (state t).comp k ≡ (point (play t) k ((state t).made k)).comp = i.calls.comp k lt in
    let active : ((state t).comp k).active ≡ [] = ap (λ (c : Computation). c.active) is ∙ d.idle.active in
    let waiting : ((state t).comp k).waiting ≡ [] = ap (λ (c : Computation). c.waiting) is ∙ d.idle.waiting in
    at ((state t).comp k).active ((state t).comp k).waiting ((state t).comp k).answer active waiting ∙ (served_is t comp sound since most ended).ending
  where
    at : (xs : List Active) (ws : List Waiting) (answer : Option Ending) → xs ≡ [] → ws ≡ [] → ending_at xs ws answer ≡ answer
    at [] [] answer e f = refl
    at [] (w ∷ ws) answer e f = cc
    at (x ∷ xs) ws answer e f = cc

abbrev pub cleared_fields : Fields → List ℕ → ℕ → ℕ → Fields
cleared_fields fs clears first promised = record fs { held = 0; clears = clears; first = first; promised = promised; running = [] }

pub kept-clear : (fs : Fields) (first promised : ℕ) → Kept fs → model.AllEnded (state (trace_of fs)) → 0 < (state (trace_of fs)).cells → first ≡ length fs.exts
    → promised ≡ min fs.promised (3 * first)
    → Kept (cleared_fields fs (fs.clears ++ length fs.journal ∷ []) first promised)
kept-clear fs first promised kept all held is_first is_promised =
    let t : Trace = trace_of fs in
    let core : model.Core = state t in
    let count : core.count ≡ length fs.exts = kept.holds.admitted in
    let new : Fields = cleared_fields fs (fs.clears ++ length fs.journal ∷ []) first promised in
    let enough : to_come (play t) core ≤ fs.promised = kept.promised in
    let few : to_come (play t) core ≤ 3 * core.count =
    ended-come fs.script (play t) core (invariant t kept.is_run)
    (λ k lt. decl-of fs.script (ext_at fs.exts k) kept.in_range (kept.known k (omega (arith, lt, count)))) all in
    let left : to_come (play t) core ≤ promised = omega arith in
    let holds : Holds new (cleared core) = record {
      admitted = kept.holds.admitted;
      held = refl;
      within = omega arith;
      present = kept.holds.present;
      global = kept.holds.global;
      local = kept.holds.local;
      slots = kept.holds.slots;
      size = omega arith;
      running = λ i r is. cc;
      past = λ k lt. all k (omega arith);
      unended = kept.holds.unended;
      away = kept.holds.away;
      stopped = kept.holds.stopped;
    } in
    record {
      in_range = kept.in_range;
      masks = kept.masks;
      epochs = kept.epochs;
      tables = kept.tables;
      micros = kept.micros;
      known = kept.known;
      is_run = is_run-with_clear t kept.is_run all (held_not_cleared t held);
      first = is_first ∙ (sym count ∙ sym (cleared-clear t));
      first_most = omega arith;
      clears_room = λ some. absurd (omega (arith, some));
      promised = subst (λ (c : model.Core). to_come (play t) c ≤ promised) (sym (state-clear t)) left;
      holds = subst (λ (c : model.Core). Holds new c) (sym (state-clear t)) holds;
    }

-- nor does a clear
pub still-cleared : (t : Trace) → IsStill (state t) (with_clear t)
still-cleared t = record { out = λ v p. ap (λ (c : model.Core). c.out v p) (state-clear t); stopped = ap (λ (c : model.Core). c.stopped) (state-clear t) }

pub none-held : (t : Trace) → (state (with_clear t)).cells ≡ 0
none-held t = ap (λ (c : model.Core). c.cells) (state-clear t)
