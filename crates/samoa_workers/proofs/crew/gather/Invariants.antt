use Rattle.std.proofs.Common.{◌≡◌, ◌<◌, ◌-◌, ℕ, List, Option, vec_len, All}
use Rattle.samoa_model.specs.declared.record.Step.{Step}
use Rattle.samoa_kernel.specs.declared.basis.Basis.{Basis}
use Rattle.samoa_workers.specs.Seats.{IsReady}
use Rattle.samoa_workers.specs.Members.{IsMember}
use Rattle.samoa_workers.proofs.crew.gather.Given as goal

abbrev pub invariant-loop-seat : goal.invariant-loop-seat
invariant-loop-seat g l = record {
  ready : All (IsReady l.board) l.seats.items;
  last : IsReady l.board l.last;
  fewer : vec_len l.seats < vec_len l.fn.seats;
  members : (kept : Option Basis) (start : List Step) (all : ℕ) → All (IsMember l.board kept start all 1) l.fn.seats.items
      → IsMember l.board kept start all (vec_len l.fn.seats - vec_len l.seats) l.last × All (IsMember l.board kept start all 1) l.seats.items;
}

abbrev pub decreases-loop-seat : goal.decreases-loop-seat
decreases-loop-seat g l = vec_len l.seats
