use Rattle.samoa_control.proofs.Asked.{leave-since}
use Rattle.samoa_control.proofs.control.Control.comes_back.Goals as goal

pub returns-else-is_since_clear-clause-leave : goal.returns-else-is_since_clear-clause-leave
returns-else-is_since_clear-clause-leave g c = (
  (λ yes. absurd (let no = c.if-is_since_clear.false in cc)),
  (λ due. c.is_since_clear.ensures.1 (leave-since c.args.self.now c.args.comp c.recall.ensures due.number due.enabled)),
)

pub returns-else-is_since_clear-clause-abandon : goal.returns-else-is_since_clear-clause-abandon
returns-else-is_since_clear-clause-abandon g c = (
  (λ yes. absurd (let no = c.if-is_since_clear.false in cc)),
  (λ due. c.is_since_clear.ensures.1 (leave-since c.args.self.now c.args.comp c.recall.ensures due.number due.enabled)),
)
