-- What an attempt does, by its answer.
use Rattle.std.proofs.Common.{ℕ, ◌≡◌, refl, ◌∷◌, [], ◌++◌, List, map, Option, Some, None}
use Rattle.samoa_model.specs.declared.record.Entry.{Entry}
use Rattle.samoa_model.specs.declared.script.Decl.{Decl}
use Rattle.samoa_serial.specs.declared.call.Call.{Call}
use Rattle.samoa_serial.specs.declared.call.Active.{Active}
use Rattle.samoa_model.specs.declared.ids.HandlerId.{HandlerId}
use Rattle.samoa_model.specs.declared.ids.EventId.{EventId}
use Rattle.samoa_model.specs.declared.handler.Refusal.{Refusal}
use Rattle.samoa_model.specs.Allowed.{Attempt}
use Rattle.samoa_serial.specs.World.{caller_number, calls_from, entry_of}
use Rattle.samoa_model.specs.Entries.{calls_made}
use Rattle.samoa_serial.specs.Calls.{to_begin}
use Rattle.samoa_model.specs.Allowed.{first_refusal, attempt_all, unless_refused}
use Rattle.samoa_calls.specs.Tried.{refusal_in, entries_after, active_after}

pub refuses_is : (a : Attempt) (r : Refusal) → refusal_in a ≡ Some r → a ≡ Attempt.Refuses r
refuses_is (Attempt.Refuses q) r e = cc
refuses_is (Attempt.Accepts h hs) r e = cc

-- an accepted list is the list itself
pub record IsAccepted (a : Attempt) (handlers : List HandlerId) : Type 0 where
  pub first : HandlerId
  pub others : List HandlerId
  pub list : handlers ≡ first ∷ others
  pub is : a ≡ Attempt.Accepts first others

pub accepts_is : (decl : Decl) (entries : List Entry) (caller : Option HandlerId) (handlers : List HandlerId)
    → refusal_in (attempt_all decl entries caller handlers) ≡ None → IsAccepted (attempt_all decl entries caller handlers) handlers
accepts_is decl entries caller [] e = cc
accepts_is decl entries caller (h ∷ hs) e = go (first_refusal decl entries caller [] (h ∷ hs)) e
  where
    go : (r : Option Refusal) → refusal_in (unless_refused r h hs) ≡ None → IsAccepted (unless_refused r h hs) (h ∷ hs)
    go None f = record { first = h; others = hs; list = refl; is = refl }
    go (Some q) f = cc

pub entries_after-accepted : (es : List Entry) (caller : Option Call) (event : EventId) (arg : List ℕ) (a : Attempt) (hs : List HandlerId) → IsAccepted a hs
    → entries_after es caller event arg a ≡ es ++ map (entry_of (caller_number caller) arg) (calls_from (calls_made es) hs)
entries_after-accepted es caller event arg a hs is = rw (is.is, is.list) refl

pub active_after-accepted : (es : List Entry) (active : List Active) (arg : List ℕ) (a : Attempt) (hs : List HandlerId) → IsAccepted a hs
    → active_after es active arg a ≡ to_begin arg (calls_from (calls_made es) hs) ++ active
active_after-accepted es active arg a hs is = rw (is.is, is.list) refl
