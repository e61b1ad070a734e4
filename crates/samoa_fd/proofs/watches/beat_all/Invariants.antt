use Rattle.std.proofs.Common.{◌≡◌, ◌++◌, take, drop}
use Rattle.samoa_serial.specs.FdTable.{fd_beaten}
use Rattle.samoa_fd.proofs.watches.beat_all.Given as goal

-- those before `at` are done, and the rest stands as it stood
abbrev pub invariant-loop-at : goal.invariant-loop-at
invariant-loop-at l = take l.at l.watches ++ fd_beaten l.node l.at (drop l.at l.watches) ≡ fd_beaten l.node 0 l.initial.watches
