-- The waiting calls name events of the table.
use Rattle.std.proofs.Common.{arith, zero, suc, ℕ, ◌<◌, ◌∷◌, [], List, length, Option, Some}
use Rattle.std.proofs.lemmas.List.Elements.{All-nil, All-push}
use Rattle.samoa_model.specs.declared.handler.Reply.{Reply}
use Rattle.samoa_model.specs.declared.handler.Outcome.{Outcome}
use Rattle.samoa_model.specs.declared.record.Entry.{Entry}
use Rattle.samoa_model.specs.declared.record.Ending.{Ending}
use Rattle.samoa_model.specs.Allowed.{Attempt}
use Rattle.samoa_model.specs.Scripts.{Table}
use Rattle.samoa_serial.specs.declared.call.Active.{Active}
use Rattle.samoa_serial.specs.declared.call.Call.{Call}
use Rattle.samoa_serial.specs.declared.call.Waiting.{Waiting}
use Rattle.samoa_serial.specs.World.{Books, Attempts, noted}
use Rattle.samoa_serial.specs.Calls.{Computation, attempted, woken, first_answer, replied, at_frame, outcome_effect, outcome_spends, outcome_taken, take_outcome, take_outcome_at}
use Rattle.samoa_calls.specs.Handed.{AreNamed, CallsNamed}

named_later : (table : Table) (w : Waiting) (ws : List Waiting) → AreNamed table (w ∷ ws) → AreNamed table ws
named_later table w ws all = λ k d lt. all (suc k) d (omega arith)

named-woken : (table : Table) (attempt : Attempts) (ws : List Waiting) (books : Books) (answer : Option Ending) → AreNamed table ws
    → AreNamed table (woken attempt ws books answer).waiting
named-woken table attempt [] books answer all = All-nil (λ (w : Waiting). w.event.0 < length table)
named-woken table attempt (first ∷ later) books answer all =
    go (λ (b : Books). named-woken table attempt later b answer (named_later table first later all)) (attempt books.entries (Some first.asker) first.event)
  where
    go : ((b : Books) → AreNamed table (woken attempt later b answer).waiting) → (a : Attempt)
        → AreNamed table (attempted (record books { waiting = later }) (Some first.asker) first.event first.arg answer []
        (λ books' reply. woken attempt later books' answer) a).waiting
    go ih (Attempt.Refuses r) = ih _
    go ih (Attempt.Accepts h hs) = named_later table first later all

named-replied : (table : Table) (attempt : Attempts) (books : Books) (answer : Option Ending) (rest : List Active) (reply : Reply) → AreNamed table books.waiting
    → AreNamed table (replied attempt books answer rest reply).waiting
named-replied table attempt books answer [] reply all = named-woken table attempt books.waiting books (first_answer answer reply) all
named-replied table attempt books answer (a ∷ rest) reply all = all

named-effect : (table : Table) (attempt : Attempts) (books : Books) (answer : Option Ending) (rest : List Active) (c : Call) (outcome : Outcome)
    → AreNamed table books.waiting → CallsNamed table outcome → AreNamed table (outcome_effect attempt books answer rest c outcome).waiting
named-effect table attempt books answer rest c (Outcome.Call event arg frame) all named = go (attempt books.entries (Some c) event)
  where
    go : (a : Attempt) → AreNamed table (attempted books (Some c) event arg answer (at_frame c frame ∷ rest)
        (λ books' reply. replied attempt books' answer (at_frame c frame ∷ rest) reply) a).waiting
    go (Attempt.Refuses r) = all
    go (Attempt.Accepts h hs) = all
named-effect table attempt books answer rest c (Outcome.Later event arg frame) all named =
    All-push (λ (w : Waiting). w.event.0 < length table) books.waiting (record { asker = c; event = event; arg = arg }) all named
named-effect table attempt books answer rest c (Outcome.Send to event arg frame) all named = all
named-effect table attempt books answer rest c (Outcome.Deliver arg frame) all named = all
named-effect table attempt books answer rest c (Outcome.Change change arg frame) all named = all
named-effect table attempt books answer rest c (Outcome.Done reply) all named = named-replied table attempt books answer rest (Reply.Words reply) all

named-spends : (table : Table) (attempt : Attempts) (books : Books) (answer : Option Ending) (rest : List Active) (c : Call) (outcome : Outcome) (units : ℕ)
    → AreNamed table books.waiting → CallsNamed table outcome → AreNamed table (outcome_spends attempt books answer rest c outcome units).waiting
named-spends table attempt books answer rest c outcome zero all named = All-nil (λ (w : Waiting). w.event.0 < length table)
named-spends table attempt books answer rest c outcome (suc left) all named = named-effect table attempt (record books { units = left }) answer rest c outcome all named

named-outcome : (table : Table) (attempt : Attempts) (books : Books) (answer : Option Ending) (rest : List Active) (c : Call) (outcome : Outcome)
    → AreNamed table books.waiting → CallsNamed table outcome → AreNamed table (outcome_taken attempt books answer rest c outcome).waiting
named-outcome table attempt books answer rest c (Outcome.Done reply) all named =
    named-replied table attempt (noted books (Entry.Finished c.number reply)) answer rest (Reply.Words reply) all
named-outcome table attempt books answer rest c (Outcome.Call event arg frame) all named = named-spends table attempt books answer rest c (Outcome.Call event arg frame) books.units all named
named-outcome table attempt books answer rest c (Outcome.Later event arg frame) all named = named-spends table attempt books answer rest c (Outcome.Later event arg frame) books.units all named
named-outcome table attempt books answer rest c (Outcome.Send to event arg frame) all named = named-spends table attempt books answer rest c (Outcome.Send to event arg frame) books.units all named
named-outcome table attempt books answer rest c (Outcome.Deliver arg frame) all named = named-spends table attempt books answer rest c (Outcome.Deliver arg frame) books.units all named
named-outcome table attempt books answer rest c (Outcome.Change change arg frame) all named = named-spends table attempt books answer rest c (Outcome.Change change arg frame) books.units all named

named-at : (table : Table) (attempt : Attempts) (active : List Active) (books : Books) (answer : Option Ending) (outcome : Outcome)
    → AreNamed table books.waiting → CallsNamed table outcome → AreNamed table (take_outcome_at attempt active books answer outcome).waiting
named-at table attempt [] books answer outcome all named = all
named-at table attempt (a ∷ rest) books answer outcome all named = named-outcome table attempt books answer rest a.call outcome all named

-- an outcome that names events of the table leaves waiting calls that do
pub named-taken : (table : Table) (attempt : Attempts) (comp : Computation) (outcome : Outcome) → AreNamed table comp.waiting → CallsNamed table outcome
    → AreNamed table (take_outcome attempt comp outcome).waiting
named-taken table attempt comp outcome all named = named-at table attempt comp.active comp.books comp.answer outcome all named
