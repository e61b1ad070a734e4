use Rattle.std.proofs.Common.{◌≡◌, ◌≤◌, ◌+◌, ◌-◌, vec_len, vec_capacity, All}
use Rattle.samoa_turnstile.specs.Seats.{fixed_of}
use Rattle.turnstile_turns.specs.Workers.{IsMember}
use Rattle.turnstile_turns.proofs.workers.deal.Given as goal

abbrev pub invariant-loop-made : goal.invariant-loop-made
invariant-loop-made l = record {
  count : vec_len l.seats + 1 ≡ l.made;
  room : l.workers ≤ vec_capacity l.seats;
  first : IsMember l.turnstile l.workers (l.workers + 1 - l.made) (fixed_of l.fn.first) l.first;
  members : All (IsMember l.turnstile l.workers 1 (fixed_of l.fn.first)) l.seats.items;
}
