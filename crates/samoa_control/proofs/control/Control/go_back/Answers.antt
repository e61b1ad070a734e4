use Rattle.std.proofs.Common.{arith, sym, subst}
use Rattle.samoa_model.specs.declared.record.Step.{Step}
use Rattle.samoa_invariant.specs.Runs.{Trace}
use Rattle.samoa_control.specs.Fields.{fields_of}
use Rattle.samoa_control.specs.Turns.{IsNext}
use Rattle.samoa_control.proofs.Going.{at-step, kept-abandon, some-away}
use Rattle.samoa_control.proofs.Keeps.{some_promised}
use Rattle.samoa_control.proofs.control.Control.go_back.Goals as goal

pub overflow_sub-self : goal.overflow_sub-self
overflow_sub-self g c =
    let some = some-away (fields_of c.self.inside) c.args.comp c.self.invariant
    (at-step (fields_of c.self.inside) c.args.self.now c.args.comp c.args.micro (Step.Abandon c.args.comp) c.running.result.now c.self.view_is c.requires.due c.requires.kept c.requires.within c.running.ensures).due.enabled in
    omega (arith, some)

pub note-requires : goal.note-requires
note-requires g c =
    some_promised (fields_of c.self.inside) (Step.Abandon c.args.comp) c.self.invariant tt
    (at-step (fields_of c.self.inside) c.args.self.now c.args.comp c.args.micro (Step.Abandon c.args.comp) c.running.result.now c.self.view_is c.requires.due c.requires.kept c.requires.within c.running.ensures).due

pub invariant_of-self : goal.invariant_of-self
invariant_of-self g c =
    rw (c.note.ensures, c.put.ensures)
    (kept-abandon (fields_of c.self.inside) c.args.comp c.args.micro _ c.args.held c.self.invariant
    (record {
      at = at-step (fields_of c.self.inside) c.args.self.now c.args.comp c.args.micro (Step.Abandon c.args.comp) c.running.result.now c.self.view_is c.requires.due c.requires.kept c.requires.within c.running.ensures;
      moment = c.requires.next.0;
      next = subst (λ (x : Trace). IsNext x (record { comp = c.args.comp; micro = c.args.micro; moment = c.requires.next.0; before = c.args.held })) (sym c.self.view_is) c.requires.next.1;
    }))
