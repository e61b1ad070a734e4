-- Seats that are dealt to workers, and come back.
use Rattle.std.specs.Prelude.{◌≡◌, ℕ, List, Option, Some}
use mathlib.Core.List.{IsPrefix}
use Rattle.samoa_model.specs.declared.record.Step.{Step}
use Rattle.samoa_invariant.specs.Runs.{Trace}
use Rattle.samoa_turnstile.specs.Seats.{fixed_of, parts_of, seats_of, seen_by}
use Rattle.samoa_kernel.specs.declared.basis.Basis.{Basis}
use Rattle.samoa_kernel.specs.declared.board.Board.{Board}
use Rattle.samoa_kernel.specs.Bases.{basis_of}
use Rattle.samoa_kernel.specs.Boards.{BoardSeat}
use Rattle.samoa_workers.specs.Seats.{IsReady}

-- a seat of a board with so many seats that has so many parts, knows this to be fixed, and has seen no less than these steps
pub record IsMember {B : Type 0} (board : Board B) (kept : Option Basis) (start : List Step) (all parts : ℕ) (seat : BoardSeat) : Type 0 where
  pub ready : IsReady board seat
  pub seats : seats_of seat ≡ all
  pub part : parts_of seat ≡ parts
  pub basis : fixed_of seat ≡ kept
  pub since : IsPrefix start (seen_by seat)

-- a core that goes on from what the seat has seen
pub record GoesOn (seat : BoardSeat) (core : Trace) : Type 0 where
  pub basis : fixed_of seat ≡ Some (basis_of core)
  pub since : IsPrefix (seen_by seat) core.journal
