-- The innermost call, where there is one, is at its next moment.
use Rattle.std.proofs.Common.{◌≡◌, ℕ, zero, suc, ◌⊎◌, inl, inr, refl, sym, subst, List, [], ◌∷◌, Option, Some, None}
use Rattle.samoa_serial.specs.declared.call.Active.{Active}
use Rattle.samoa_serial.specs.declared.call.Call.{Call}
use Rattle.samoa_serial.specs.declared.call.Due.{Due}
use Rattle.samoa_model.specs.declared.record.Ending.{Ending}
use Rattle.samoa_model.specs.declared.record.Entry.{Entry}
use Rattle.samoa_model.specs.declared.ids.EventId.{EventId}
use Rattle.samoa_model.specs.declared.handler.Moment.{Moment}
use Rattle.samoa_model.specs.declared.handler.Outcome.{Outcome}
use Rattle.samoa_model.specs.declared.handler.Reply.{Reply}
use Rattle.samoa_serial.specs.declared.call.Waiting.{Waiting}
use Rattle.samoa_model.specs.Allowed.{Attempt}
use Rattle.samoa_serial.specs.World.{Attempts, Books, noted, Rules, stepped}
use Rattle.samoa_serial.specs.Calls.{at_frame, attempted, Computation, first_answer, given, outcome_effect, outcome_spends, outcome_taken, replied, take_outcome, take_outcome_at, woken}
use Rattle.samoa_serial.specs.Alone.{Machine, next_at, next_of, next_step, turn}
use Rattle.samoa_serial.proofs.Point.{turn_is}
use Rattle.samoa_invariant.specs.Play.{Play, rules, attempts, point}
use Rattle.samoa_invariant.proofs.refinement.Points.{some_or_none, turn_still}

abbrev pub IsDue : Due → Type 0
IsDue (Due.Next m) = Unit {0}
IsDue (Due.Frame frame) = ⊥

abbrev pub HeadIsDue : List Active → Type 0
HeadIsDue [] = Unit {0}
HeadIsDue (a ∷ rest) = IsDue a.due

attempted_due : (books : Books) (caller : Option Call) (event : EventId) (arg : List ℕ) (answer : Option Ending) (rest : List Active)
    (next : Books → Reply → Computation) (a : Attempt) → ((b : Books) (r : Reply) → HeadIsDue (next b r).active) → HeadIsDue (attempted books caller event arg answer rest next a).active
attempted_due books caller event arg answer rest next (Attempt.Refuses r) h = h _ _
attempted_due books caller event arg answer rest next (Attempt.Accepts g gs) h = tt

woken_due : (attempt : Attempts) (waiting : List Waiting) (books : Books) (answer : Option Ending) → HeadIsDue (woken attempt waiting books answer).active
woken_due attempt [] books answer = tt
woken_due attempt (first ∷ later) books answer =
    attempted_due (record books { waiting = later }) (Some first.asker) first.event first.arg answer [] (λ b r. woken attempt later b answer)
    (attempt books.entries (Some first.asker) first.event) (λ b r. woken_due attempt later b answer)

replied_due : (attempt : Attempts) (books : Books) (answer : Option Ending) (rest : List Active) (r : Reply) → HeadIsDue (replied attempt books answer rest r).active
replied_due attempt books answer [] r = woken_due attempt books.waiting books (first_answer answer r)
replied_due attempt books answer (a ∷ rest) r = go a.due
  where
    go : (d : Due) → IsDue (given a.call d r).due
    go (Due.Next m) = tt
    go (Due.Frame frame) = tt

effect_due : (attempt : Attempts) (books : Books) (answer : Option Ending) (rest : List Active) (c : Call) (o : Outcome) → HeadIsDue (outcome_effect attempt books answer rest c o).active
effect_due attempt books answer rest c (Outcome.Call event arg frame) =
    attempted_due books (Some c) event arg answer (at_frame c frame ∷ rest) (λ b r. replied attempt b answer (at_frame c frame ∷ rest) r)
    (attempt books.entries (Some c) event) (λ b r. tt)
effect_due attempt books answer rest c (Outcome.Later event arg frame) = tt
effect_due attempt books answer rest c (Outcome.Send to event arg frame) = tt
effect_due attempt books answer rest c (Outcome.Deliver arg frame) = tt
effect_due attempt books answer rest c (Outcome.Change change arg frame) = tt
effect_due attempt books answer rest c (Outcome.Done reply) = replied_due attempt books answer rest (Reply.Words reply)

spends_due : (attempt : Attempts) (books : Books) (answer : Option Ending) (rest : List Active) (c : Call) (o : Outcome) (units : ℕ) → HeadIsDue (outcome_spends attempt books answer rest c o units).active
spends_due attempt books answer rest c o zero = tt
spends_due attempt books answer rest c o (suc left) = effect_due attempt (record books { units = left }) answer rest c o

taken_due : (attempt : Attempts) (books : Books) (answer : Option Ending) (rest : List Active) (c : Call) (o : Outcome) → HeadIsDue (outcome_taken attempt books answer rest c o).active
taken_due attempt books answer rest c (Outcome.Done reply) = replied_due attempt (noted books (Entry.Finished c.number reply)) answer rest (Reply.Words reply)
taken_due attempt books answer rest c o = spends_due attempt books answer rest c o books.units

take_due : (attempt : Attempts) (comp : Computation) (o : Outcome) → HeadIsDue (take_outcome attempt comp o).active
take_due attempt comp o = go comp.active
  where
    go : (active : List Active) → HeadIsDue (take_outcome_at attempt active comp.books comp.answer o).active
    go [] = tt
    go (a ∷ rest) = taken_due attempt comp.books comp.answer rest a.call o

turn_due_head : (rs : Rules) (m : Machine) → HeadIsDue m.active → HeadIsDue (turn rs m).active
turn_due_head rs m h = go (some_or_none (next_step m.comp))
  where
    go : (next_step m.comp ≡ None) ⊎ ((y : Call × Moment) × (next_step m.comp ≡ Some y)) → HeadIsDue (turn rs m).active
    go (inl none) = subst (λ (x : Machine). HeadIsDue x.active) (sym (turn_still rs m none)) h
    go (inr some) =
        let c : Call = some.0.0 in
        let moment : Moment = some.0.1 in
        let is : next_step m.comp ≡ Some (c, moment) = some.1 in
        subst (λ (x : Machine). HeadIsDue x.active) (sym (turn_is rs m c moment is)) (take_due rs.attempt m.comp (stepped rs m.states c moment).1)

point_due : (P : Play) (k n : ℕ) → HeadIsDue (point P k n).active
point_due P k zero =
    attempted_due (record { units = P.budget k; waiting = []; entries = [] }) None (P.root k) (P.args k) None [] (λ b r. replied (attempts P k) b None [] r)
    (attempts P k [] None (P.root k)) (λ b r. replied_due (attempts P k) b None [] r)
point_due P k (suc n) = turn_due_head (rules P k) (point P k n) (point_due P k n)

-- with no next handler step, nothing is active
pub head_due : (P : Play) (k n : ℕ) → next_step (point P k n).comp ≡ None → (point P k n).active ≡ []
head_due P k n e = go (point P k n).active (point_due P k n) e
  where
    due : (c : Call) (d : Due) → IsDue d → next_at c d ≡ None → ⊥
    due c (Due.Next m) h eq = cc
    due c (Due.Frame frame) h eq = h

    go : (active : List Active) → HeadIsDue active → next_of active ≡ None → active ≡ []
    go [] h eq = refl
    go (a ∷ rest) h eq = absurd (due a.call a.due h eq)
