use Rattle.std.proofs.Common.{arith}
use Rattle.samoa_model.specs.declared.record.Step.{Step}
use Rattle.samoa_control.specs.Fields.{fields_of}
use Rattle.samoa_control.proofs.Going.{at-step, away-fits, box-here, kept-enter}
use Rattle.samoa_control.proofs.Keeps.{some_promised}
use Rattle.samoa_control.proofs.control.Control.go_out.Goals as goal

pub take-held-requires : goal.take-held-requires
take-held-requires g c = (
  _,
  box-here (fields_of c.self.inside) c.args.comp c.args.micro _ c.self.invariant
      (at-step (fields_of c.self.inside) c.args.self.now c.args.comp c.args.micro (Step.Enter c.args.comp c.args.micro) c.running.result.now c.self.view_is c.requires.due c.requires.kept c.requires.within c.running.ensures),
)

pub overflow_add-self : goal.overflow_add-self
overflow_add-self g c = let most = away-fits (fields_of c.self.inside) c.self.invariant in omega (arith, most)

pub note-requires : goal.note-requires
note-requires g c =
    some_promised (fields_of c.self.inside) (Step.Enter c.args.comp c.args.micro) c.self.invariant tt
    (at-step (fields_of c.self.inside) c.args.self.now c.args.comp c.args.micro (Step.Enter c.args.comp c.args.micro) c.running.result.now c.self.view_is c.requires.due c.requires.kept c.requires.within c.running.ensures).due

pub invariant_of-self : goal.invariant_of-self
invariant_of-self g c =
    rw (c.note.ensures, c.take-held.ensures.out)
    (kept-enter (fields_of c.self.inside) c.args.comp c.args.micro _ c.self.invariant
    (at-step (fields_of c.self.inside) c.args.self.now c.args.comp c.args.micro (Step.Enter c.args.comp c.args.micro) c.running.result.now c.self.view_is c.requires.due c.requires.kept c.requires.within c.running.ensures))
