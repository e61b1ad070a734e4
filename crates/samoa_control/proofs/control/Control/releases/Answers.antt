use Rattle.std.proofs.Common.{arith, ◌<◌, length}
use Rattle.std.proofs.lemmas.Bool.{ltb-true}
use Rattle.samoa_control.proofs.Asked.{release-since}
use Rattle.samoa_control.proofs.Passes.{due-within}
use Rattle.samoa_control.proofs.control.Control.releases.Goals as goal

pub returns-then-not-is_since_clear : goal.returns-then-not-is_since_clear
returns-then-not-is_since_clear g c = (
  (λ yes. cc),
  (λ due. let since = c.is_since_clear.ensures.1 (release-since c.args.self.now c.args.comp c.args.micro c.recall.ensures due) in let not_since = c.if-not-is_since_clear.true in cc),
)

pub returns-else-micro-micros : goal.returns-else-micro-micros
returns-else-micro-micros g c = (
  (λ yes. absurd (let lt : c.args.micro < c.micros.result = ltb-true c.args.micro c.micros.result yes in let above = c.if-micro-micros.false in omega (arith, lt, above))),
  (λ due. absurd (within (due-within c.args.self.now c.args.comp c.args.micro c.recall.ensures due))),
)
  where
    within : c.args.micro < length c.args.self.now.script.micros → ⊥
    within lt = let e = c.micros.ensures in let above = c.if-micro-micros.false in omega (arith, lt, e, above)
