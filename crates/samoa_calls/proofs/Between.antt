-- What stands between two steps of a computation.
use Rattle.std.proofs.Common.{◌≡◌, refl, sym, subst, ◌∙◌, arith, ℕ, zero, suc, List, [], ◌∷◌, Option, Some, None}
use Rattle.samoa_model.specs.declared.ids.EventId.{EventId}
use Rattle.samoa_model.specs.declared.ids.HandlerId.{HandlerId}
use Rattle.samoa_model.specs.declared.handler.Reply.{Reply}
use Rattle.samoa_model.specs.declared.handler.Outcome.{Outcome}
use Rattle.samoa_model.specs.declared.record.Entry.{Entry}
use Rattle.samoa_model.specs.declared.record.Ending.{Ending}
use Rattle.samoa_model.specs.Allowed.{Attempt}
use Rattle.samoa_model.specs.Scripts.{Table, resolve}
use Rattle.samoa_serial.specs.declared.call.Active.{Active}
use Rattle.samoa_serial.specs.declared.call.Call.{Call}
use Rattle.samoa_serial.specs.declared.call.Due.{Due}
use Rattle.samoa_serial.specs.declared.call.Waiting.{Waiting}
use Rattle.samoa_serial.specs.World.{Books, Attempts, noted, refused}
use Rattle.samoa_serial.specs.Calls.{Computation, attempted, woken, first_answer, given, replied, at_frame, outcome_effect, outcome_spends, outcome_taken, take_outcome, take_outcome_at, start}
use Rattle.samoa_calls.specs.Handed.{CallsNamed, IsAtMoment, IsBetween, IsNamed}

-- some call is active, and the innermost one is at a moment
ready : (comp : Computation) (a : Active) (rest : List Active) → comp.active ≡ a ∷ rest → IsAtMoment comp.active → IsBetween comp
ready comp a rest e next = record {
  idle = λ none. let no : a ∷ rest ≡ [] = sym e ∙ none in cc;
  next = next;
  answered = λ none started. let no : a ∷ rest ≡ [] = sym e ∙ none in cc;
}

given_ready : (c : Call) (due : Due) (reply : Reply) (rest : List Active) → IsAtMoment (given c due reply ∷ rest)
given_ready c (Due.Next m) reply rest = (_, refl)
given_ready c (Due.Frame frame) reply rest = (_, refl)

-- where the answer is known, waking leaves a computation between two steps
woken_between : (attempt : Attempts) (waiting : List Waiting) (books : Books) (answer : Ending) → IsBetween (woken attempt waiting books (Some answer))
woken_between attempt [] books answer = record { idle = λ none. refl; next = tt; answered = λ none started no. cc }
woken_between attempt (first ∷ later) books answer =
    go (λ b. woken_between attempt later b answer) (attempt books.entries (Some first.asker) first.event)
  where
    go : ((b : Books) → IsBetween (woken attempt later b (Some answer))) → (a : Attempt)
        → IsBetween (attempted (record books { waiting = later }) (Some first.asker) first.event first.arg (Some answer) []
        (λ books' reply. woken attempt later books' (Some answer)) a)
    go ih (Attempt.Refuses r) = ih _
    go ih (Attempt.Accepts h hs) = ready _ _ _ refl (_, refl)

first_between : (attempt : Attempts) (books : Books) (answer : Option Ending) (reply : Reply) → IsBetween (woken attempt books.waiting books (first_answer answer reply))
first_between attempt books None reply = woken_between attempt books.waiting books (Ending.Replied reply)
first_between attempt books (Some answer) reply = woken_between attempt books.waiting books answer

replied_between : (attempt : Attempts) (books : Books) (answer : Option Ending) (rest : List Active) (reply : Reply) → IsBetween (replied attempt books answer rest reply)
replied_between attempt books answer [] reply = first_between attempt books answer reply
replied_between attempt books answer (a ∷ rest) reply = ready _ _ _ refl (given_ready a.call a.due reply rest)

effect_between : (attempt : Attempts) (books : Books) (answer : Option Ending) (rest : List Active) (c : Call) (o : Outcome)
    → IsBetween (outcome_effect attempt books answer rest c o)
effect_between attempt books answer rest c (Outcome.Call event arg frame) = go (attempt books.entries (Some c) event)
  where
    go : (a : Attempt) → IsBetween (attempted books (Some c) event arg answer (at_frame c frame ∷ rest)
        (λ books' reply. replied attempt books' answer (at_frame c frame ∷ rest) reply) a)
    go (Attempt.Refuses r) = ready _ _ _ refl (_, refl)
    go (Attempt.Accepts h hs) = ready _ _ _ refl (_, refl)
effect_between attempt books answer rest c (Outcome.Later event arg frame) = ready _ _ _ refl (_, refl)
effect_between attempt books answer rest c (Outcome.Send to event arg frame) = ready _ _ _ refl (_, refl)
effect_between attempt books answer rest c (Outcome.Deliver arg frame) = ready _ _ _ refl (_, refl)
effect_between attempt books answer rest c (Outcome.Change change arg frame) = ready _ _ _ refl (_, refl)
effect_between attempt books answer rest c (Outcome.Done reply) = replied_between attempt books answer rest (Reply.Words reply)

spends_between : (attempt : Attempts) (books : Books) (answer : Option Ending) (rest : List Active) (c : Call) (o : Outcome) (units : ℕ)
    → IsBetween (outcome_spends attempt books answer rest c o units)
spends_between attempt books answer rest c o zero = record { idle = λ none. refl; next = tt; answered = λ none started no. cc }
spends_between attempt books answer rest c o (suc left) = effect_between attempt (record books { units = left }) answer rest c o

taken_between : (attempt : Attempts) (books : Books) (answer : Option Ending) (rest : List Active) (c : Call) (o : Outcome)
    → IsBetween (outcome_taken attempt books answer rest c o)
taken_between attempt books answer rest c (Outcome.Done reply) =
    replied_between attempt (noted books (Entry.Finished c.number reply)) answer rest (Reply.Words reply)
taken_between attempt books answer rest c o = spends_between attempt books answer rest c o books.units

-- an outcome of an active call leaves a computation between two steps
pub outcome_between : (attempt : Attempts) (comp : Computation) (a : Active) (rest : List Active) (o : Outcome) → comp.active ≡ a ∷ rest
    → IsBetween (take_outcome attempt comp o)
outcome_between attempt comp a rest o e =
    subst (λ (xs : List Active). IsBetween (take_outcome_at attempt xs comp.books comp.answer o)) (sym e)
    (taken_between attempt comp.books comp.answer rest a.call o)

-- and so does a start
pub start_between : (attempt : Attempts) (budget : ℕ) (event : EventId) (arg : List ℕ) → IsBetween (start attempt budget event arg)
start_between attempt budget event arg = go (attempt [] None event)
  where
    books : Books
    books = record { units = budget; waiting = []; entries = [] }

    go : (a : Attempt) → IsBetween (attempted books None event arg None [] (λ books' reply. replied attempt books' None [] reply) a)
    go (Attempt.Refuses r) = replied_between attempt (refused books None event r) None [] (Reply.Refused r)
    go (Attempt.Accepts h hs) = ready _ _ _ refl (_, refl)

-- a table in which an event has these handlers
abbrev pub table_with : ℕ → List HandlerId → Table
table_with zero handlers = handlers ∷ []
table_with (suc n) handlers = [] ∷ table_with n handlers

resolved_at : (n : ℕ) (handlers : List HandlerId) → resolve (table_with n handlers) (record { 0 = n }) ≡ handlers
resolved_at zero handlers = refl
resolved_at (suc n) handlers = resolved_at n handlers

pub resolved_with : (event : EventId) (handlers : List HandlerId) → resolve (table_with event.0 handlers) event ≡ handlers
resolved_with event handlers = resolved_at event.0 handlers

-- an outcome that names what is of a script calls an event of the table
pub calls_named : (table : Table) (o : Outcome) → IsNamed table o → CallsNamed table o
calls_named table (Outcome.Call event arg frame) named = omega (arith, named.names, named.events)
calls_named table (Outcome.Later event arg frame) named = omega (arith, named.names, named.events)
calls_named table (Outcome.Done reply) named = tt
calls_named table (Outcome.Send to event arg frame) named = tt
calls_named table (Outcome.Deliver arg frame) named = tt
calls_named table (Outcome.Change change arg frame) named = tt
