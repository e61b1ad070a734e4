use Rattle.std.proofs.Common.{◌∙◌, ◌++◌, ◌∷◌, [], List, ap, sym}
use Rattle.samoa_control.specs.Turns.{Going}
use Rattle.std.proofs.lemmas.Bool.{false≢true}
use Rattle.samoa_model.specs.declared.record.Step.{Step}
use Rattle.samoa_replay.proofs.Making.{step-refused}
use Rattle.samoa_replay.proofs.Stepping.{entered_by}
use Rattle.samoa_replay.proofs.replay.Replay.enter.Goals as goal

pub returns-then-not-enabled-clause-refused : goal.returns-then-not-enabled-clause-refused
returns-then-not-enabled-clause-refused g c none =
    step-refused c.args.self.now.core c.args.self.now.course c.args.self.now.turns.items (Step.Enter c.args.comp c.args.micro) c.requires.ready c.admitted-admitted.ensures.run c.admitted-admitted.ensures.all tt
    (λ due. false≢true (sym c.if-not-enabled.true ∙ c.enabled.ensures.1 due))

pub returns-clause-made : goal.returns-clause-made
returns-clause-made g c made =
    entered_by _ _ _ c.requires.ready c.admitted-admitted.ensures.run c.admitted-admitted.ensures.all c.args.comp c.args.micro _ _ _ (c.push_reserved.ensures.items ∙ ap (λ (xs : List Going). xs ++ c.enter-turn.result ∷ []) c.reserve.ensures.items)
    (c.enabled.ensures.0 c.if-not-enabled.false) c.enter-turn.ensures.comp c.enter-turn.ensures.step c.enter-turn.ensures.away

pub returns-clause-out : goal.returns-clause-out
returns-clause-out g c =
    (entered_by _ _ _ c.requires.ready c.admitted-admitted.ensures.run c.admitted-admitted.ensures.all c.args.comp c.args.micro _ _ _ (c.push_reserved.ensures.items ∙ ap (λ (xs : List Going). xs ++ c.enter-turn.result ∷ []) c.reserve.ensures.items)
    (c.enabled.ensures.0 c.if-not-enabled.false) c.enter-turn.ensures.comp c.enter-turn.ensures.step c.enter-turn.ensures.away).follows.out
