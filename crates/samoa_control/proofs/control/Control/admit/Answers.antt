use Rattle.std.proofs.Common.{◌∙◌, ap, sym, subst}
use Rattle.samoa_invariant.specs.Runs.{Trace, state}
use Rattle.samoa_control.specs.Later.{IsStill}
use Rattle.samoa_control.specs.Since.{cleared_comps}
use Rattle.samoa_control.proofs.Admitted.{cleared-admitted, still-admitted}
use Rattle.samoa_control.proofs.control.Control.admit.Goals as goal

pub returns-in-Ok-clause-still : goal.returns-in-Ok-clause-still
returns-in-Ok-clause-still g c =
    subst (λ (x : Trace). IsStill (state c.args.self.now) x) (sym c.in-Ok.ensures.step) (still-admitted c.args.self.now c.args.ext c.recall.ensures.run)

pub returns-in-Ok-clause-cleared : goal.returns-in-Ok-clause-cleared
returns-in-Ok-clause-cleared g c = ap cleared_comps c.in-Ok.ensures.step ∙ cleared-admitted c.args.self.now c.args.ext c.recall.ensures.run
