use Rattle.std.proofs.Common.{◌≡◌, false}
use Rattle.samoa_repl.proofs.tests.delivers_over_a_change.Given as goal

abbrev pub invariant-loop-moment : goal.invariant-loop-moment
invariant-loop-moment g l = l.repl.fresh ≡ false
