use Rattle.samoa_bind.proofs.Rebinding.{AreBound}
use Rattle.samoa_bind.proofs.epochs.Epochs.rebind.Given as goal

abbrev pub invariant-loop-row : goal.invariant-loop-row
invariant-loop-row l = AreBound l.changes l.rows l.row l.initial.self l.self
