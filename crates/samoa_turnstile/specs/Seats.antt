-- What clauses say of a seat.
use Rattle.std.specs.Prelude.{◌≡◌, ◌<◌, ℕ, List, [], ◌∷◌, Option, Some, None}
use Rattle.atomic_table.specs.declared.shared.Seat.{Seat}
use Rattle.samoa_turnstile.specs.declared.view.View.{View}
use Rattle.samoa_turnstile.specs.declared.turnstile.Turnstile.{Turnstile}
use Rattle.samoa_turnstile.specs.Turning.{list_or}

-- the Rust type `Seat<V>`, by the types of the value, of its fixed part and of its items
abbrev pub SeatOf : Type 0 → Type 0 → Type 0 → Type 0
SeatOf V F I = Seat (Option V) (View F I)

module _ {V F I : Type 0} where
  -- the seat came from this turnstile
  abbrev pub IsSeatOf : Turnstile V F I → SeatOf V F I → Type 0
  IsSeatOf turnstile seat = seat.table_id ≡ turnstile.table.shared.table_id

  -- the seat after a call is the one before it
  abbrev pub IsSameSeat : SeatOf V F I → SeatOf V F I → Type 0
  IsSameSeat old new = (new.table_id ≡ old.table_id) × (new.id ≡ old.id)

  -- what the seat knows
  abbrev pub view : SeatOf V F I → View F I
  view seat = seat.me.0

  -- the fixed part of the value
  abbrev pub fixed_of : SeatOf V F I → Option F
  fixed_of seat = (view seat).fixed

  -- the parts of all seats together
  abbrev pub seats_of : SeatOf V F I → ℕ
  seats_of seat = (view seat).seats

  abbrev pub parts_of : SeatOf V F I → ℕ
  parts_of seat = (view seat).parts

  abbrev pub seen_by : SeatOf V F I → List I
  seen_by seat = (view seat).seen

  -- the open place that is the seat's own
  abbrev pub hand_of : SeatOf V F I → Option ℕ
  hand_of seat = (view seat).hand

  -- how many of its takes found the value away
  abbrev pub misses_of : SeatOf V F I → ℕ
  misses_of seat = (view seat).missed

  -- the value's list when the seat took it
  abbrev pub list_at_take : SeatOf V F I → List I
  list_at_take seat = list_or (view seat).noted

  abbrev pub HasSeen : SeatOf V F I → List I → Type 0
  HasSeen seat xs = seen_by seat ≡ xs

  -- the seat doesn't hold the value
  abbrev pub IsIdle : SeatOf V F I → Type 0
  IsIdle seat = (seat.me.1 ≡ []) × ((view seat).noted ≡ None) × (0 < parts_of seat)

  -- the seat holds the value, which had this list at the take
  abbrev pub Holds : SeatOf V F I → List I → Type 0
  Holds seat xs = (seat.me.1 ≡ (0, None) ∷ []) × ((view seat).noted ≡ Some xs) × (0 < parts_of seat)

  -- the seat holds the value
  abbrev pub IsHolding : SeatOf V F I → Type 0
  IsHolding seat = (xs : List I) × Holds seat xs
