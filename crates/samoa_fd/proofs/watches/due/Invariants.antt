use Rattle.std.proofs.Common.{◌≡◌, drop}
use Rattle.samoa_serial.specs.FdTable.{fd_due}
use Rattle.samoa_fd.proofs.watches.due.Given as goal

-- none before `at` is due
abbrev pub invariant-loop-at : goal.invariant-loop-at
invariant-loop-at l = fd_due l.setup l.from l.at (drop l.at l.watches) ≡ fd_due l.setup l.from 0 l.watches
