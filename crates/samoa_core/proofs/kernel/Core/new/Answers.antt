use Rattle.samoa_core.proofs.Emptied.{opens}
use Rattle.samoa_core.proofs.kernel.Core.new.Goals as goal

pub invariant_of-result : goal.invariant_of-result
invariant_of-result g c = rw (c.in_ok-index.ensures, c.slots.ensures, c.len.ensures, c.in_ok-control.ensures) (opens c.args.script.now c.args.cells)
