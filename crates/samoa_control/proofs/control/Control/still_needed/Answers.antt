use Rattle.std.proofs.Common.{subst, sym}
use Rattle.samoa_model.specs.declared.script.Decl.{Decl}
use Rattle.samoa_control.specs.Forms.{IsMasked}
use Rattle.samoa_control.proofs.Quiets.{handlers-by, testable}
use Rattle.samoa_control.proofs.control.Control.still_needed.Goals as goal

pub still_needed-requires-clause-testable : goal.still_needed-requires-clause-testable
still_needed-requires-clause-testable g c = testable c.args.self.now.script c.declaration.result.now c.declaration.ensures.known

pub still_needed-requires-clause-masked : goal.still_needed-requires-clause-masked
still_needed-requires-clause-masked g c = subst (λ (d : Decl). IsMasked d c.masks.result.now) (sym c.declaration.ensures.decl) c.masks.ensures

pub returns : goal.returns
returns g c = record {
  bits = λ p within.
      rw (← c.declaration.ensures.decl, ← handlers-by, ← c.running.ensures.waiting, ← c.running.ensures.comp) (c.still_needed.ensures p within);
}
