use Rattle.std.proofs.Common.{subst, sym}
use Rattle.samoa_invariant.specs.State.{IsSettled}
use Rattle.samoa_invariant.specs.Runs.{Trace, play, state}
use Rattle.samoa_invariant.proofs.settling.Releasing.{abandon-settled}
use Rattle.samoa_kernel.proofs.board.take_back.Goals as goal

pub returns-clause-settled : goal.returns-clause-settled
returns-clause-settled g c =
    subst (λ (x : Trace). IsSettled (play x) (state x)) (sym c.abandon.ensures.step)
    (abandon-settled c.args.core.now c.args.turn.comp c.admitted-found.ensures.run c.requires.settled)
