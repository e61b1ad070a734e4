use Rattle.turnstile_turns.specs.Workers.{IsReady, HasWorked}
use Rattle.turnstile_turns.proofs.workers.work.Given as goal

abbrev pub invariant-loop : goal.invariant-loop
invariant-loop g l = IsReady l.turnstile l.seat × HasWorked l.initial.seat l.seat
