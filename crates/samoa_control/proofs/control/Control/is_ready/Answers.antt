use Rattle.std.proofs.Common.{arith, ◌∙◌, sym}
use Rattle.samoa_control.proofs.Facts.{ready-is}
use Rattle.samoa_control.proofs.control.Control.is_ready.Goals as goal

pub returns-then-has_turn : goal.returns-then-has_turn
returns-then-has_turn g c =
    let kept = c.requires.kept in
    ready-is c.args.self.now c.args.comp _ c.may_go_out.result c.recall.ensures.run (omega (arith, kept)) (sym c.next.ensures.next ∙ c.in-Some.is) (c.has_turn.ensures.0 c.if-has_turn.true) c.may_go_out.ensures
