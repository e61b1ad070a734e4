use Rattle.std.proofs.Common.{arith, sym, subst, refl}
use Rattle.samoa_model.specs.declared.record.Step.{Step}
use Rattle.samoa_invariant.specs.Runs.{Trace}
use Rattle.samoa_control.specs.Fields.{fields_of}
use Rattle.samoa_control.specs.Turns.{HasCome}
use Rattle.samoa_control.proofs.Going.{at-step, kept-left, some-away, takes-there}
use Rattle.samoa_control.proofs.Keeps.{some_promised}
use Rattle.samoa_control.proofs.control.Control.go_home.Goals as goal

pub overflow_sub-self : goal.overflow_sub-self
overflow_sub-self g c =
    let some = some-away (fields_of c.self.inside) c.args.comp c.self.invariant
    (at-step (fields_of c.self.inside) c.args.self.now c.args.comp c.args.micro (Step.Leave c.args.comp) c.running.result.now c.self.view_is c.requires.due c.requires.kept c.requires.within c.running.ensures).due.enabled in
    omega (arith, some)

pub take_outcome_at-requires-clause-takes : goal.take_outcome_at-requires-clause-takes
take_outcome_at-requires-clause-takes g c =
    let at = at-step (fields_of c.self.inside) c.args.self.now c.args.comp c.args.micro (Step.Leave c.args.comp) c.running.result.now c.self.view_is c.requires.due c.requires.kept c.requires.within c.running.ensures in
    let come : HasCome _ c.args.comp c.args.micro c.args.held c.args.outcome =
    subst (λ (x : Trace). HasCome x c.args.comp c.args.micro c.args.held c.args.outcome) (sym c.self.view_is) c.requires.come in
    takes-there (fields_of c.self.inside) c.args.comp c.args.micro _ c.args.held c.args.outcome _ refl c.self.invariant (record { at = at; come = come })

pub note-requires : goal.note-requires
note-requires g c =
    some_promised (fields_of c.self.inside) (Step.Leave c.args.comp) c.self.invariant tt
    (at-step (fields_of c.self.inside) c.args.self.now c.args.comp c.args.micro (Step.Leave c.args.comp) c.running.result.now c.self.view_is c.requires.due c.requires.kept c.requires.within c.running.ensures).due

pub invariant_of-self : goal.invariant_of-self
invariant_of-self g c =
    let at = at-step (fields_of c.self.inside) c.args.self.now c.args.comp c.args.micro (Step.Leave c.args.comp) c.running.result.now c.self.view_is c.requires.due c.requires.kept c.requires.within c.running.ensures in
    let come : HasCome _ c.args.comp c.args.micro c.args.held c.args.outcome =
    subst (λ (x : Trace). HasCome x c.args.comp c.args.micro c.args.held c.args.outcome) (sym c.self.view_is) c.requires.come in
    rw (c.note.ensures, c.put.ensures, c.take_outcome_at.ensures.gv)
    (kept-left (fields_of c.self.inside) c.args.comp c.args.micro _ c.args.held c.args.outcome _ _ c.self.invariant (record { at = at; come = come })
    c.take_outcome_at.ensures.taken c.take_outcome_at.ensures.named c.take_outcome_at.ensures.lv)
