use Rattle.std.proofs.Common.{◌∙◌, sym}
use Rattle.std.proofs.lemmas.Bool.{false≢true}
use Rattle.samoa_model.specs.declared.record.Step.{Step}
use Rattle.samoa_replay.proofs.Making.{step-refused}
use Rattle.samoa_replay.proofs.Stepping.{released}
use Rattle.samoa_replay.proofs.replay.Replay.release.Goals as goal

pub returns-then-not-enabled-clause-refused : goal.returns-then-not-enabled-clause-refused
returns-then-not-enabled-clause-refused g c none =
    step-refused c.args.self.now.core c.args.self.now.course c.args.self.now.turns.items (Step.Release c.args.comp c.args.micro) c.requires.ready c.admitted-admitted.ensures.run c.admitted-admitted.ensures.all tt
    (λ due. false≢true (sym c.if-not-enabled.true ∙ c.enabled.ensures.1 due))

pub returns-clause-made : goal.returns-clause-made
returns-clause-made g c made =
    released _ _ _ c.requires.ready c.admitted-admitted.ensures.run c.admitted-admitted.ensures.all c.args.comp c.args.micro _ (c.enabled.ensures.0 c.if-not-enabled.false) c.release.ensures.step

pub returns-clause-out : goal.returns-clause-out
returns-clause-out g c =
    (released _ _ _ c.requires.ready c.admitted-admitted.ensures.run c.admitted-admitted.ensures.all c.args.comp c.args.micro _ (c.enabled.ensures.0 c.if-not-enabled.false) c.release.ensures.step).follows.out
