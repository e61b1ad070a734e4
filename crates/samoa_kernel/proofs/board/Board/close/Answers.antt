use Rattle.std.proofs.Common.{◌≡◌, ◌∙◌, Some, None, true, sym, subst}
use Rattle.samoa_invariant.specs.Runs.{Trace}
use Rattle.samoa_turnstile.specs.Seats.{hand_of}
use Rattle.samoa_kernel.specs.Opens.{is_open}
use Rattle.samoa_kernel.proofs.Standing.{closed_home}
use Rattle.samoa_kernel.proofs.board.Board.close.Goals as goal

pub returns-clause-home : goal.returns-clause-home
returns-clause-home g c empty =
    closed_home c.into_core-core.result c.admitted-admitted.ensures.run
    (λ k o.
    let own : hand_of c.args.seat ≡ Some k = (c.close.ensures.hand k).0 (subst (λ (x : Trace). is_open x.journal k ≡ true) c.into_core-core.ensures.core o) in
    let both : None ≡ Some k = sym empty ∙ own in
    cc both)
