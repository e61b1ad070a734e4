-- The units of a computation after an outcome.
use Rattle.std.proofs.Common.{◌≡◌, ℕ, zero, suc, refl, List, [], ◌∷◌, Option, Some, None}
use Rattle.samoa_model.specs.Allowed.{Attempt}
use Rattle.samoa_model.specs.declared.ids.EventId.{EventId}
use Rattle.samoa_model.specs.declared.handler.Outcome.{Outcome}
use Rattle.samoa_model.specs.declared.handler.Reply.{Reply}
use Rattle.samoa_model.specs.declared.record.Ending.{Ending}
use Rattle.samoa_serial.specs.declared.call.Active.{Active}
use Rattle.samoa_serial.specs.declared.call.Call.{Call}
use Rattle.samoa_serial.specs.declared.call.Waiting.{Waiting}
use Rattle.samoa_serial.specs.World.{Attempts, Books}
use Rattle.samoa_serial.specs.Calls.{Computation, at_frame, attempted, first_answer, outcome_effect, outcome_spends, outcome_taken, replied, start, woken}
use Rattle.samoa_laws.specs.trace.Trace.{one_less, units_after}

attempted-units : (books : Books) (caller : Option Call) (event : EventId) (arg : List ℕ) (answer : Option Ending) (rest : List Active)
    (next : Books → Reply → Computation) (a : Attempt) → ((b : Books) (r : Reply) → (next b r).units ≡ b.units)
    → (attempted books caller event arg answer rest next a).units ≡ books.units
attempted-units books caller event arg answer rest next (Attempt.Refuses r) h = h _ _
attempted-units books caller event arg answer rest next (Attempt.Accepts x xs) h = refl

woken-units : (attempt : Attempts) (waiting : List Waiting) (books : Books) (answer : Option Ending) → (woken attempt waiting books answer).units ≡ books.units
woken-units attempt [] books answer = refl
woken-units attempt (first ∷ later) books answer =
    attempted-units (record books { waiting = later }) (Some first.asker) first.event first.arg answer [] (λ b r. woken attempt later b answer)
    (attempt books.entries (Some first.asker) first.event) (λ b r. woken-units attempt later b answer)

replied-units : (attempt : Attempts) (books : Books) (answer : Option Ending) (rest : List Active) (r : Reply) → (replied attempt books answer rest r).units ≡ books.units
replied-units attempt books answer [] r = woken-units attempt books.waiting books (first_answer answer r)
replied-units attempt books answer (a ∷ rest) r = refl

effect-units : (attempt : Attempts) (books : Books) (answer : Option Ending) (rest : List Active) (c : Call) (o : Outcome)
    → (outcome_effect attempt books answer rest c o).units ≡ books.units
effect-units attempt books answer rest c (Outcome.Call event arg frame) =
    attempted-units books (Some c) event arg answer (at_frame c frame ∷ rest) (λ b r. replied attempt b answer (at_frame c frame ∷ rest) r)
    (attempt books.entries (Some c) event) (λ b r. refl)
effect-units attempt books answer rest c (Outcome.Later event arg frame) = refl
effect-units attempt books answer rest c (Outcome.Send to event arg frame) = refl
effect-units attempt books answer rest c (Outcome.Deliver arg frame) = refl
effect-units attempt books answer rest c (Outcome.Change change arg frame) = refl
effect-units attempt books answer rest c (Outcome.Done reply) = replied-units attempt books answer rest (Reply.Words reply)

spends-units : (attempt : Attempts) (books : Books) (answer : Option Ending) (rest : List Active) (c : Call) (o : Outcome) (units : ℕ)
    → books.units ≡ units → (outcome_spends attempt books answer rest c o units).units ≡ one_less units
spends-units attempt books answer rest c o zero e = e
spends-units attempt books answer rest c o (suc left) e = effect-units attempt (record books { units = left }) answer rest c o

pub taken-units : (attempt : Attempts) (books : Books) (answer : Option Ending) (rest : List Active) (c : Call) (o : Outcome)
    → (outcome_taken attempt books answer rest c o).units ≡ units_after books.units o
taken-units attempt books answer rest c (Outcome.Done reply) = replied-units attempt _ answer rest (Reply.Words reply)
taken-units attempt books answer rest c (Outcome.Call event arg frame) = spends-units attempt books answer rest c (Outcome.Call event arg frame) books.units refl
taken-units attempt books answer rest c (Outcome.Later event arg frame) = spends-units attempt books answer rest c (Outcome.Later event arg frame) books.units refl
taken-units attempt books answer rest c (Outcome.Send to event arg frame) = spends-units attempt books answer rest c (Outcome.Send to event arg frame) books.units refl
taken-units attempt books answer rest c (Outcome.Deliver arg frame) = spends-units attempt books answer rest c (Outcome.Deliver arg frame) books.units refl
taken-units attempt books answer rest c (Outcome.Change change arg frame) = spends-units attempt books answer rest c (Outcome.Change change arg frame) books.units refl

pub start-units : (attempt : Attempts) (budget : ℕ) (event : EventId) (arg : List ℕ) → (start attempt budget event arg).units ≡ budget
start-units attempt budget event arg =
    attempted-units (record { units = budget; waiting = []; entries = [] }) None event arg None [] (λ b r. replied attempt b None [] r)
    (attempt [] None event) (λ b r. replied-units attempt b None [] r)
