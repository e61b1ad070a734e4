use Rattle.std.proofs.Common.{OnOk, Result, Ok, Err, ap}
use Rattle.samoa_serial.specs.State.{ConsState, OfCons}
use Rattle.samoa_cons.proofs.cons.AgreementStateMachine.step.Goals as goal

-- what follows where there is an `Ok`
on_ok : {A E P Q : Type 0} (r : Result A E) → (P → Q) → OnOk r P → OnOk r Q
on_ok (Ok x) f h = f h
on_ok (Err e) f h = h

pub returns-in-1-clause-outcome : goal.returns-in-1-clause-outcome
returns-in-1-clause-outcome c = rw (c.in-Begin.is, c.in-1.is) (rw c.read_letter.ensures at c.recv.ensures.outcome)

pub returns-in-1-clause-ok : goal.returns-in-1-clause-ok
returns-in-1-clause-ok c = rw (c.in-Begin.is, c.in-1.is) (on_ok c.recv.result (ap (λ (s : ConsState). OfCons s)) (rw c.read_letter.ensures at c.recv.ensures.ok))
