-- What the fields of the calls stand for, and the room that they keep.
use Rattle.std.specs.Prelude.{◌≡◌, ◌+◌, ◌-◌, ◌*◌, ◌^◌, ◌<◌, ◌≤◌, length, reverse, drop, vec_capacity}
use Rattle.samoa_model.specs.Entries.{calls_made}
use Rattle.samoa_serial.specs.Calls.{Computation}
use Rattle.samoa_calls.specs.Held.{Calling}
use Rattle.samoa_calls.specs.Tried.{Counts}
use Rattle.samoa_calls.specs.declared.calls.Calls.TheInside.{Inside}

-- the computation that the fields make
abbrev pub computation_of : Inside → Computation
computation_of a = record {
  active = reverse a.active.items;
  books = record { units = a.units; waiting = drop a.taken a.waiting.items; entries = a.entries.entries };
  answer = a.answer;
}

-- beside it, the handlers of the calls that were not taken out
abbrev pub calling_of : Inside → Calling
calling_of a = record { comp = computation_of a; waiting_handlers = drop a.passed a.handlers.items }

-- room for the four calls that the root event may come to, and for an entry at the begin and at the end of each
pub record HasRootRoom (a : Inside) : Type 0 where
  pub active : length a.active.items + 4 * a.units + 4 ≤ vec_capacity a.active
  pub entries : 9 * a.units + 8 ≤ a.entries.room
  pub numbers : a.made + 4 * a.units + 4 < 2 ^ 32

-- a unit may come to a waiting call with four handlers in the list, a waiting call to four active ones, and each of these to
-- an entry at its begin and its end; where nothing was entered yet, the root call may still come
pub record IsKept (a : Inside) : Type 0 where
  pub taken : a.taken ≤ length a.waiting.items
  pub made : a.made ≡ calls_made a.entries.entries
  pub active_room : length a.active.items + 4 * (a.units + (length a.waiting.items - a.taken)) ≤ vec_capacity a.active
  pub waiting_room : length a.waiting.items + a.units ≤ vec_capacity a.waiting
  pub entries_room : 9 * a.units + 8 * (length a.waiting.items - a.taken) + length a.active.items ≤ a.entries.room
  pub numbers : a.made + 4 * (a.units + (length a.waiting.items - a.taken)) < 2 ^ 32
  pub counts : Counts a.visits a.entries.entries
  pub few_active : length a.active.items ≤ a.made
  pub passed : a.passed ≤ length a.handlers.items
  pub handlers_room : length a.handlers.items + 4 * a.units ≤ vec_capacity a.handlers
  pub few_handlers : length a.handlers.items + 4 * a.units < 2 ^ 32
  pub root : length a.entries.entries ≡ 0 → HasRootRoom a
