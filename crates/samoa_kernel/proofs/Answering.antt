-- What the steps in a core show of an answer.
use Rattle.std.proofs.Common.{arith, ◌≡◌, ℕ, zero, suc, ◌+◌, ◌-◌, ◌<◌, ◌≤◌, length, Bool, true, false, Option, Some, None, refl, ap, sym, ◌∙◌, subst}
use Rattle.std.specs.Prelude.{IsTrue, ◌↔◌}
use Rattle.samoa_model.specs.Range.{IsExtOf, IsInRange}
use Rattle.samoa_model.specs.declared.record.Step.{Step}
use Rattle.samoa_serial.specs.declared.call.Call.{Call}
use Rattle.samoa_serial.specs.Alone.{next_step}
use Rattle.samoa_serial.specs.Kinds.{Seen}
use Rattle.samoa_invariant.specs.Inv.{Owns}
use Rattle.samoa_invariant.specs.Picking.{NoEnterIsDue}
use Rattle.samoa_invariant.specs.Slots.{put_at}
use Rattle.samoa_invariant.specs.State as model
use Rattle.samoa_invariant.specs.State.{AllEnded, IsSettled, NothingOut}
use Rattle.samoa_invariant.specs.Runs.{IsDue, IsRun, Trace, ext_at, has_abandon, play, state, with_step}
use Rattle.samoa_invariant.proofs.preservation.Versions.{owns_declares}
use Rattle.samoa_invariant.proofs.progress.Onward.{none-ended}
use Rattle.samoa_invariant.proofs.representation.Standing.{stopped_is}
use Rattle.samoa_invariant.proofs.representation.Traces.{count-most, invariant, points, state-step}
use Rattle.samoa_control.specs.Known.{decl_number}
use Rattle.samoa_control.specs.Places.{away, away_in}
use Rattle.samoa_control.specs.Turns.{Going, IsAway}
use Rattle.samoa_control.proofs.Counts.{away-back}
use Rattle.samoa_control.proofs.Declares.{declares_known}
use Rattle.samoa_control.proofs.Facts.{same-call}
use Rattle.samoa_kernel.specs.Boards.{IsAtPoint, IsBusy, begun}
use Rattle.samoa_kernel.specs.declared.board.Entered.{Entered}
use Rattle.samoa_kernel.specs.Answers.{IsAnswer, IsExact}

-- a handler step that has begun was due at its microprotocol, and its box is at its serial point
due_there : (t : Trace) (turn : Going) (micro : ℕ) → IsRun t → IsDue t (Step.Enter turn.comp micro) → IsAway (begun t turn) turn → IsDue t (Step.Enter turn.comp turn.micro)
due_there t turn micro run due gone =
    let next = due.enabled.next in
    let same : (state (begun t turn)).comp (turn.comp - 1) ≡ (state t).comp (turn.comp - 1) = ap (λ (x : model.Core). x.comp (turn.comp - 1)) (state-step t (Step.Enter turn.comp turn.micro) run) in
    let call : next.call ≡ gone.next.call = same-call (next_step ((state t).comp (turn.comp - 1))) next.call gone.next.call next.moment turn.moment next.next (ap next_step (sym same) ∙ gone.next.next) in
    let at : micro ≡ turn.micro = sym next.is_at ∙ (ap (λ (c : Call). c.handler.micro.0) call ∙ gone.next.is_at) in
    subst (λ (p : ℕ). IsDue t (Step.Enter turn.comp p)) at due

pub begun_due : (t u : Trace) (turn : Going) (comp micro : ℕ) → IsRun t → turn.comp ≡ comp → u ≡ with_step t (Step.Enter comp turn.micro) → IsAway u turn → IsDue t (Step.Enter comp micro)
    → IsDue t (Step.Enter turn.comp turn.micro) × IsAway (begun t turn) turn
begun_due t u turn comp micro run is step gone due =
    let there : IsAway (begun t turn) turn = subst (λ (x : Trace). IsAway x turn) (step ∙ ap (λ (k : ℕ). with_step t (Step.Enter k turn.micro)) (sym is)) gone in
    (due_there t turn micro run (subst (λ (k : ℕ). IsDue t (Step.Enter k micro)) (sym is) due) there, there)

pub at_point : (t : Trace) (turn : Going) → IsRun t → IsDue t (Step.Enter turn.comp turn.micro) → IsAway (begun t turn) turn → IsAtPoint t turn
at_point t turn run due gone =
    let node : ℕ = (play t).node (turn.comp - 1) in
    ap (λ (s : Seen). s.state) gone.next.before
    ∙ (ap (λ (x : model.Core). x.boxes node turn.micro) (state-step t (Step.Enter turn.comp turn.micro) run)
    ∙ (points t run).owned turn.comp turn.micro gone.first due.enabled.turn)

-- where a test of it fails, not all have ended
pub not_all : (b : Bool) (A : Type 0) → (IsTrue b ↔ A) → b ≡ false → A → ⊥
not_all true A e f a = cc
not_all false A e f a = let holds : false ≡ true = e.1 a in cc

-- where something is out, the count of what is out isn't 0
module _ (t : Trace) (run : IsRun t) (in_range : IsInRange t.script) (known : (k : ℕ) → k < length t.exts → IsExtOf t.script (ext_at t.exts k)) where
  within : (v p k : ℕ) → (state t).out v p ≡ Some k → (v < t.script.nodes) × (p < length t.script.micros)
  within v p k out =
      let r = (invariant t run).out v p k out in
      let most : (state t).count ≤ length t.exts = count-most t run in
      let admitted : k < (state t).count = r.admitted in
      let node : (play t).node k < t.script.nodes = (known k (omega arith)).node in
      let declared = owns_declares (play t) ((state t).local v p) k p (subst (λ (n : ℕ). Owns (play t) ((state t).local v p) k n p) r.node r.owns) in
      (subst (λ (n : ℕ). n < t.script.nodes) (sym r.node) node, declares_known t.script in_range (decl_number t.script (ext_at t.exts k)) p declared)

  counted : (v p k : ℕ) → (state t).out v p ≡ Some k → 1 ≤ away t
  counted v p k out =
      let w = within v p k out in
      let back : model.Core = record (state t) { out = put_at (state t).out v p None } in
      let less : away_in t.script back + 1 ≡ away_in t.script (state t) = away-back t.script (state t) back v p k w.0 w.1 refl out in
      omega (arith, less)

  some_away : (NothingOut (state t) → ⊥) → 1 ≤ away t
  some_away some = go (away t) refl
    where
      home : away t ≡ 0 → (v p : ℕ) (o : Option ℕ) → (state t).out v p ≡ o → (state t).out v p ≡ None
      home none v p None e = e
      home none v p (Some k) e = let least = counted v p k e in absurd (omega arith)

      go : (n : ℕ) → away t ≡ n → 1 ≤ away t
      go zero e = absurd (some (λ v p. home e v p ((state t).out v p) refl))
      go (suc n) e = omega arith

  pub busy : (count : ℕ) → (AllEnded (state t) → ⊥) → (state t).stopped ≡ false → IsSettled (play t) (state t) → NoEnterIsDue t → count ≡ away t → IsBusy t count
  busy count unended running settled none is =
      let not_abandoned : has_abandon t.journal ≡ false = sym (stopped_is t) ∙ running in record {
        unended = unended;
        running = not_abandoned;
        none = none;
        out = is;
        some =
            let least : 1 ≤ away t = some_away (λ home. unended (none-ended t run not_abandoned settled home none)) in
            omega arith;
      }

-- of one core one answer is right
not_both : (b : Bool) → b ≡ true → b ≡ false → ⊥
not_both b holds fails = let both : true ≡ false = sym holds ∙ fails in cc both

pub exact_is : {B : Type 0} (t : Trace) (answer : Entered B) → IsAnswer t answer → IsExact t answer
exact_is t (Entered.Work turn) p = record {
  all_ended = λ all. absurd (p.unended all);
  stopped = λ s. absurd (not_both (has_abandon t.journal) s.stopped p.running);
  busy = λ unended running none. absurd (none turn.comp turn.micro p.due);
}
exact_is t (Entered.Busy count) p = record {
  all_ended = λ all. absurd (p.unended all);
  stopped = λ s. absurd (not_both (has_abandon t.journal) s.stopped p.running);
  busy = λ unended running none. (count, refl);
}
exact_is t Entered.AllEnded p = record {
  all_ended = λ all. refl;
  stopped = λ s. absurd (s.unended p);
  busy = λ unended running none. absurd (unended p);
}
exact_is t Entered.Stopped p = record {
  all_ended = λ all. absurd (p.unended all);
  stopped = λ s. refl;
  busy = λ unended running none. absurd (not_both (has_abandon t.journal) p.stopped running);
}
