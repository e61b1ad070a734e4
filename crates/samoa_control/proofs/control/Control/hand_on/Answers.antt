use Rattle.std.proofs.Common.{◌∙◌, ◌+◌, ◌*◌, ℕ, ap}
use Rattle.samoa_model.specs.declared.record.Step.{Step}
use Rattle.samoa_control.specs.declared.running.Interval.{Interval}
use Rattle.samoa_control.specs.Fields.{fields_of}
use Rattle.samoa_control.proofs.Going.{at-step, kept-release, turn-here, turn_is}
use Rattle.samoa_control.proofs.Keeps.{some_promised}
use Rattle.samoa_control.proofs.control.Control.hand_on.Goals as goal

pub hand_on-requires-clause-turn : goal.hand_on-requires-clause-turn
hand_on-requires-clause-turn g c =
    (turn_is (fields_of c.self.inside) c.args.comp c.args.micro c.running.result.now.node c.place-slot.result c.turn-turn.result c.self.invariant
    (at-step (fields_of c.self.inside) c.args.self.now c.args.comp c.args.micro (Step.Release c.args.comp c.args.micro) c.running.result.now c.self.view_is c.requires.due c.requires.kept c.requires.within c.running.ensures)
    (c.place-slot.ensures ∙ ap (λ (n : ℕ). c.running.result.now.node.0 * n + c.args.micro) c.len.ensures)
    (turn-here (fields_of c.self.inside) c.args.self.now c.args.comp c.args.micro c.running-2.result.now c.running.result.now.node c.turn-turn.result c.self.view_is c.requires.within c.running-2.ensures c.running.ensures.node c.turn-turn.ensures)).1

pub hand_on-requires-clause-slot : goal.hand_on-requires-clause-slot
hand_on-requires-clause-slot g c =
    (turn_is (fields_of c.self.inside) c.args.comp c.args.micro c.running.result.now.node c.place-slot.result c.turn-turn.result c.self.invariant
    (at-step (fields_of c.self.inside) c.args.self.now c.args.comp c.args.micro (Step.Release c.args.comp c.args.micro) c.running.result.now c.self.view_is c.requires.due c.requires.kept c.requires.within c.running.ensures)
    (c.place-slot.ensures ∙ ap (λ (n : ℕ). c.running.result.now.node.0 * n + c.args.micro) c.len.ensures)
    (turn-here (fields_of c.self.inside) c.args.self.now c.args.comp c.args.micro c.running-2.result.now c.running.result.now.node c.turn-turn.result c.self.view_is c.requires.within c.running-2.ensures c.running.ensures.node c.turn-turn.ensures)).0

pub note-requires : goal.note-requires
note-requires g c =
    some_promised (fields_of c.self.inside) (Step.Release c.args.comp c.args.micro) c.self.invariant tt
    (at-step (fields_of c.self.inside) c.args.self.now c.args.comp c.args.micro (Step.Release c.args.comp c.args.micro) c.running.result.now c.self.view_is c.requires.due c.requires.kept c.requires.within c.running.ensures).due

pub invariant_of-self : goal.invariant_of-self
invariant_of-self g c =
    let at = at-step (fields_of c.self.inside) c.args.self.now c.args.comp c.args.micro (Step.Release c.args.comp c.args.micro) c.running.result.now c.self.view_is c.requires.due c.requires.kept c.requires.within c.running.ensures in
    let turn = turn-here (fields_of c.self.inside) c.args.self.now c.args.comp c.args.micro c.running-2.result.now c.running.result.now.node c.turn-turn.result c.self.view_is c.requires.within c.running-2.ensures c.running.ensures.node c.turn-turn.ensures in
    rw (c.note.ensures, c.hand_on.ensures.lv, c.hand_on.ensures.gv, c.place-slot.ensures, c.len.ensures)
    (kept-release (fields_of c.self.inside) c.args.comp c.args.micro c.turn-turn.result.to _ c.self.invariant at (ap (λ (i : Interval). i.to) turn))
