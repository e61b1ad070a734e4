-- What an attempt does to the entries, the active calls and the counts.
use Rattle.std.specs.Prelude.{◌≡◌, ◌+◌, ◌^◌, ◌<◌, ℕ, List, [], ◌∷◌, ◌++◌, length, map, slice_index, Option, Some, None}
use Rattle.samoa_model.specs.declared.ids.HandlerId.{HandlerId}
use Rattle.samoa_model.specs.declared.ids.EventId.{EventId}
use Rattle.samoa_model.specs.declared.handler.Refusal.{Refusal}
use Rattle.samoa_model.specs.declared.record.Entry.{Entry}
use Rattle.samoa_serial.specs.declared.call.Call.{Call}
use Rattle.samoa_serial.specs.declared.call.Active.{Active}
use Rattle.samoa_model.specs.Allowed.{Attempt, handlers_at}
use Rattle.samoa_serial.specs.World.{caller_number, calls_from, entry_of}
use Rattle.samoa_model.specs.Entries.{calls_at, calls_made}
use Rattle.samoa_serial.specs.Calls.{to_begin}

-- the counts are those of the calls made, at each of the microprotocols 0 to 23
pub record Counts (visits : List ℕ) (entries : List Entry) : Type 0 where
  pub len : length visits ≡ 24
  pub counts : (p : ℕ) → p < 24 → slice_index visits p ≡ calls_at entries p

-- no count overflows where one is added for each of these handlers
pub record HasRoomFor (visits : List ℕ) (handlers : List HandlerId) : Type 0 where
  pub len : length visits ≡ 24
  pub room : (p : ℕ) → p < 24 → slice_index visits p + length handlers < 2 ^ 32

-- the sums count these handlers beside what was counted before
pub record AreAdded (visits : List ℕ) (handlers : List HandlerId) (sums : List ℕ) : Type 0 where
  pub len : length sums ≡ 24
  pub counts : (p : ℕ) → p < 24 → slice_index sums p ≡ slice_index visits p + handlers_at handlers p

-- the refusal of an attempt
abbrev pub refusal_in : Attempt → Option Refusal
refusal_in (Attempt.Refuses r) = Some r
refusal_in (Attempt.Accepts h hs) = None

-- the entries after an attempt
abbrev pub entries_after : List Entry → Option Call → EventId → List ℕ → Attempt → List Entry
entries_after es caller event arg (Attempt.Refuses r) = es ++ Entry.Refused (caller_number caller) (Some event) r ∷ []
entries_after es caller event arg (Attempt.Accepts h hs) =
    es ++ map (entry_of (caller_number caller) arg) (calls_from (calls_made es) (h ∷ hs))

-- the active calls after an attempt
abbrev pub active_after : List Entry → List Active → List ℕ → Attempt → List Active
active_after es active arg (Attempt.Refuses r) = active
active_after es active arg (Attempt.Accepts h hs) = to_begin arg (calls_from (calls_made es) (h ∷ hs)) ++ active
