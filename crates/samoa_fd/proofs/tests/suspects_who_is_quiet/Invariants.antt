use Rattle.std.proofs.Common.{◌≡◌, false}
use Rattle.samoa_fd.proofs.tests.suspects_who_is_quiet.Given as goal

abbrev pub invariant-loop-beat : goal.invariant-loop-beat
invariant-loop-beat g l = l.fd.fresh ≡ false
