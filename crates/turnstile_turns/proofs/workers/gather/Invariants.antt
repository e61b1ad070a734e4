use Rattle.std.proofs.Common.{◌<◌, ◌-◌, ℕ, Option, vec_len, All}
use Rattle.turnstile_turns.specs.Workers.{IsReady, HasReached, IsMember}
use Rattle.turnstile_turns.proofs.workers.gather.Given as goal

abbrev pub invariant-loop-seat : goal.invariant-loop-seat
invariant-loop-seat l = record {
  ready : All (IsReady l.turnstile) l.seats.items;
  last : IsReady l.turnstile l.last;
  fewer : vec_len l.seats < vec_len l.fn.seats;
  members : (workers : ℕ) (goal : Option ℕ) → All (λ s. IsMember l.turnstile workers 1 goal s × HasReached s) l.fn.seats.items
      → (IsMember l.turnstile workers (vec_len l.fn.seats - vec_len l.seats) goal l.last × HasReached l.last)
      × All (λ s. IsMember l.turnstile workers 1 goal s × HasReached s) l.seats.items;
}

abbrev pub decreases-loop-seat : goal.decreases-loop-seat
decreases-loop-seat l = vec_len l.seats
