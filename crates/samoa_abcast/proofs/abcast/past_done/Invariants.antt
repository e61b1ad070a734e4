use Rattle.std.proofs.Common.{◌≡◌, length}
use Rattle.samoa_serial.specs.AbcastTable.{abcast_skip}
use Rattle.samoa_abcast.proofs.abcast.past_done.Given as goal

-- going on from here gives what going on from the first instance gives
abbrev pub invariant-loop-more : goal.invariant-loop-more
invariant-loop-more l =
    abcast_skip l.done l.decisions l.more l.next ≡ abcast_skip l.done l.decisions (length l.decisions) l.from

abbrev pub decreases-loop-more : goal.decreases-loop-more
decreases-loop-more l = l.more
