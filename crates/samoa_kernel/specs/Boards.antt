-- What clauses say of a board's seats and calls.
use Rattle.std.specs.Prelude.{◌≡◌, ◌≤◌, ◌-◌, ℕ, length, true, false, Option, Some, None}
use mathlib.Core.List.{IsPrefix}
use Rattle.samoa_model.specs.declared.record.Step.{Step}
use Rattle.samoa_invariant.specs.Picking.{IsFirstToEnter, NoEnterIsDue}
use Rattle.samoa_invariant.specs.Settling.{Settles}
use Rattle.samoa_invariant.specs.State.{AllEnded}
use Rattle.samoa_invariant.specs.Runs.{IsDue, IsRun, Trace, has_abandon, play, serial_at, state, with_step}
use Rattle.samoa_control.specs.Places.{away}
use Rattle.samoa_control.specs.Turns.{Going, IsAway}
use Rattle.samoa_turnstile.specs.Seats.{SeatOf, fixed_of, hand_of, seats_of, parts_of, seen_by}
use Rattle.samoa_kernel.specs.declared.basis.Basis.{Basis}
use Rattle.samoa_kernel.specs.Bases.{basis_of}

-- the Rust type `Seat<B>`
abbrev pub BoardSeat : Type 0
BoardSeat = SeatOf Trace Basis Step

-- the core after the Enter of a handler step
abbrev pub begun : Trace → Going → Trace
begun t turn = with_step t (Step.Enter turn.comp turn.micro)

-- the core that a call of a seat finds: it is a run over what the seat knows to be fixed, and begins with all that the
-- seat had seen
pub record Finds (seat : BoardSeat) (t : Trace) : Type 0 where
  pub basis : fixed_of seat ≡ Some (basis_of t)
  pub grown : IsPrefix (seen_by seat) t.journal
  pub run : IsRun t

-- the core that a seat has seen, which is a run, and the open place that is the seat's own
pub record Shows (seat : BoardSeat) (t : Trace) (own : Option ℕ) : Type 0 where
  pub basis : fixed_of seat ≡ Some (basis_of t)
  pub seen : seen_by seat ≡ t.journal
  pub hand : hand_of seat ≡ own
  pub run : IsRun t

-- a call of the board leaves this of a seat as it was
pub record IsSameShare (old new : BoardSeat) : Type 0 where
  pub fixed : fixed_of new ≡ fixed_of old
  pub seats : seats_of new ≡ seats_of old
  pub parts : parts_of new ≡ parts_of old

-- The handler step is the one in the seat's hand: it is the one that is out in the core in which the place in the hand is
-- its Enter. The seat may have seen more since.
pub record IsInHand (seat : BoardSeat) (turn : Going) : Type 0 where
  pub before : Trace
  pub basis : fixed_of seat ≡ Some (basis_of before)
  pub hand : hand_of seat ≡ Some (length before.journal)
  pub seen : IsPrefix (begun before turn).journal (seen_by seat)
  pub away : IsAway (begun before turn) turn

-- what is in one seat's hand is in the other's
abbrev pub KeepsHand : BoardSeat → BoardSeat → Type 0
KeepsHand old new = (turn : Going) → IsInHand old turn → IsInHand new turn

-- the box of a handler step that is next is at its serial point: what all computations before its own leave, and its own
-- handler steps so far
abbrev pub IsAtPoint : Trace → Going → Type 0
IsAtPoint t turn = turn.before.state ≡ serial_at t turn.comp ((state t).made (turn.comp - 1)) ((play t).node (turn.comp - 1)) turn.micro

-- a handler step of the least computation for which one is due, with its box at its serial point; not all have ended
pub record IsPicked (t : Trace) (turn : Going) : Type 0 where
  pub unended : AllEnded (state t) → ⊥
  pub running : has_abandon t.journal ≡ false
  pub picked : IsFirstToEnter t turn.comp
  pub due : IsDue t (Step.Enter turn.comp turn.micro)
  pub away : IsAway (begun t turn) turn
  pub serial : IsAtPoint t turn

-- not all have ended and nothing was abandoned, but no handler step may begin, and so many are out
pub record IsBusy (t : Trace) (count : ℕ) : Type 0 where
  pub unended : AllEnded (state t) → ⊥
  pub running : has_abandon t.journal ≡ false
  pub none : NoEnterIsDue t
  pub out : count ≡ away t
  pub some : 1 ≤ count

-- a handler step was abandoned, and not all have ended
pub record IsStopped (t : Trace) : Type 0 where
  pub unended : AllEnded (state t) → ⊥
  pub stopped : has_abandon t.journal ≡ true

-- a handler step in hand was made, and then the releases and the ends that were due
pub record HasLeft (old : BoardSeat) (ran : Going) (new : BoardSeat) : Type 0 where
  pub found : Trace
  pub finds : Finds old found
  pub away : IsAway found ran
  pub after : Trace
  pub settles : Settles (with_step found (Step.Leave ran.comp)) after
  pub shows : Shows new after None

-- a handler step in hand was taken back
pub record HasAbandoned (old : BoardSeat) (turn : Going) (new : BoardSeat) : Type 0 where
  pub found : Trace
  pub finds : Finds old found
  pub away : IsAway found turn
  pub shows : Shows new (with_step found (Step.Abandon turn.comp)) None
