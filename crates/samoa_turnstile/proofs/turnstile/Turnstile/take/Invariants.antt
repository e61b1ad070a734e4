use Rattle.std.proofs.Common.{◌≡◌, ◌≤◌}
use Rattle.samoa_turnstile.specs.Seats.{view, misses_of, IsIdle, IsSameSeat}
use Rattle.samoa_turnstile.proofs.turnstile.Turnstile.take.Given as goal

abbrev pub invariant-loop : goal.invariant-loop
invariant-loop g l = record {
  own : IsSameSeat l.initial.seat l.seat;
  idle : IsIdle l.seat;
  kept : view l.seat ≡ record (view l.initial.seat) { missed = misses_of l.seat };
  missed : misses_of l.initial.seat ≤ misses_of l.seat;
}
