use Rattle.samoa_control.proofs.Asked.{enter-since}
use Rattle.samoa_control.proofs.control.Control.enters.Goals as goal

pub returns-then-not-is_since_clear : goal.returns-then-not-is_since_clear
returns-then-not-is_since_clear g c = (
  (λ yes. cc),
  (λ due. let since = c.is_since_clear.ensures.1 (enter-since c.args.self.now c.args.comp c.args.micro c.recall.ensures due) in let not_since = c.if-not-is_since_clear.true in cc),
)
