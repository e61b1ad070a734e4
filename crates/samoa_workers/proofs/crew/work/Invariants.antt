use Rattle.samoa_workers.specs.Seats.{HasWorked, IsReady}
use Rattle.samoa_workers.proofs.crew.work.Given as goal

abbrev pub invariant-loop : goal.invariant-loop
invariant-loop g l = record {
  ready : IsReady l.board l.seat;
  worked : HasWorked l.initial.seat l.seat;
}
