use Rattle.std.proofs.Common.{◌≡◌, ◌≤◌, drop, length}
use Rattle.samoa_serial.specs.FdTable.{fd_mask}
use Rattle.samoa_fd.proofs.watches.mask_of.Given as goal

abbrev pub invariant-loop-at : goal.invariant-loop-at
invariant-loop-at l = record {
  within : l.at ≤ length l.watches;
  bits : l.mask ≡ fd_mask (drop l.at l.watches);
}

abbrev pub decreases-loop-at : goal.decreases-loop-at
decreases-loop-at l = l.at
