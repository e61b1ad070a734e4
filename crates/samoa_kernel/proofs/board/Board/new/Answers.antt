use Rattle.std.proofs.Common.{◌≡◌, false, subst, sym}
use Rattle.samoa_invariant.specs.Runs.{Trace}
use Rattle.samoa_kernel.specs.Opens.{is_open}
use Rattle.samoa_kernel.proofs.Standing.{home_closed}
use Rattle.samoa_kernel.proofs.board.Board.new.Goals as goal

pub new-requires-clause-settled : goal.new-requires-clause-settled
new-requires-clause-settled g c lifetimes outlives k =
    subst (λ (x : Trace). is_open x.journal k ≡ false) (sym c.in-Ok.ensures.ok) (home_closed c.args.core c.admitted-admitted.ensures.run c.requires.home k)
