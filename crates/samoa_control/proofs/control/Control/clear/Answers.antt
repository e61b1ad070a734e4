use Rattle.std.proofs.Common.{◌≡◌, subst, sym}
use Rattle.samoa_invariant.specs.Runs.{Trace, state}
use Rattle.samoa_control.specs.Later.{IsStill}
use Rattle.samoa_control.proofs.Answered.{none-held, still-cleared}
use Rattle.samoa_control.proofs.control.Control.clear.Goals as goal

pub returns-then-self-gt0-clause-still : goal.returns-then-self-gt0-clause-still
returns-then-self-gt0-clause-still g c =
    subst (λ (x : Trace). IsStill (state c.args.self.now) x) (sym c.clear_held.ensures) (still-cleared c.args.self.now)

pub returns-then-self-gt0-clause-cells : goal.returns-then-self-gt0-clause-cells
returns-then-self-gt0-clause-cells g c =
    subst (λ (x : Trace). (state x).cells ≡ 0) (sym c.clear_held.ensures) (none-held c.args.self.now)
