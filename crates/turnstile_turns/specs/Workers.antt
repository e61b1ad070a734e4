-- What clauses say of a worker's seat. The fixed part of a counter is its goal, and its list has an item for each turn.
use Rattle.std.specs.Prelude.{◌≡◌, ◌<◌, ◌≤◌, ℕ, length, Option, Some, None}
use Rattle.samoa_turnstile.specs.declared.turnstile.Turnstile.{Turnstile}
use Rattle.samoa_turnstile.specs.Seats.{SeatOf, IsSeatOf, IsSameSeat, IsIdle, fixed_of, seats_of, parts_of, seen_by, hand_of}

module _ {V I : Type 0} where
  -- the seat may take the counter, and has nothing in hand
  pub record IsReady (turnstile : Turnstile V ℕ I) (seat : SeatOf V ℕ I) : Type 0 where
    pub own : IsSeatOf turnstile seat
    pub idle : IsIdle seat
    pub empty : hand_of seat ≡ None

  -- the seat is as before but for what it has seen
  pub record HasWorked (old new : SeatOf V ℕ I) : Type 0 where
    pub own : IsSameSeat old new
    pub idle : IsIdle new
    pub empty : hand_of new ≡ None
    pub all : seats_of new ≡ seats_of old
    pub part : parts_of new ≡ parts_of old
    pub goal : fixed_of new ≡ fixed_of old

  -- the seat has seen as many turns as the goal
  abbrev pub HasReached : SeatOf V ℕ I → Type 0
  HasReached seat = (goal : ℕ) → fixed_of seat ≡ Some goal → goal ≤ length (seen_by seat)

  abbrev pub HasSeenMore : SeatOf V ℕ I → SeatOf V ℕ I → Type 0
  HasSeenMore old new = length (seen_by old) < length (seen_by new)

  -- the seat is ready, has these parts of all, and knows this goal
  pub record IsMember (turnstile : Turnstile V ℕ I) (seats parts : ℕ) (goal : Option ℕ) (seat : SeatOf V ℕ I) : Type 0 where
    pub ready : IsReady turnstile seat
    pub all : seats_of seat ≡ seats
    pub part : parts_of seat ≡ parts
    pub goal_is : fixed_of seat ≡ goal
