use Rattle.std.proofs.Common.{subst, sym}
use Rattle.samoa_model.specs.declared.script.Decl.{Decl}
use Rattle.samoa_control.specs.Forms.{IsMasked}
use Rattle.samoa_control.proofs.Quiets.{handlers-by, testable}
use Rattle.samoa_control.proofs.control.Control.is_quiet.Goals as goal

pub may_release-requires-clause-testable : goal.may_release-requires-clause-testable
may_release-requires-clause-testable g c = testable c.args.self.now.script c.declaration.result.now c.declaration.ensures.known

pub may_release-requires-clause-masked : goal.may_release-requires-clause-masked
may_release-requires-clause-masked g c = subst (λ (d : Decl). IsMasked d c.masks.result.now) (sym c.declaration.ensures.decl) c.masks.ensures

pub returns : goal.returns
returns g c =
    rw (← c.declaration.ensures.decl, ← handlers-by, ← c.running.ensures.waiting, ← c.running.ensures.comp) c.may_release.ensures
