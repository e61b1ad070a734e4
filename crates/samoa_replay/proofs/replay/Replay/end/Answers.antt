use Rattle.std.proofs.Common.{◌∙◌, sym}
use Rattle.std.proofs.lemmas.Bool.{false≢true}
use Rattle.samoa_model.specs.declared.record.Step.{Step}
use Rattle.samoa_replay.proofs.Making.{step-refused}
use Rattle.samoa_replay.proofs.Stepping.{ended}
use Rattle.samoa_replay.proofs.replay.Replay.end.Goals as goal

pub returns-then-not-enabled-clause-refused : goal.returns-then-not-enabled-clause-refused
returns-then-not-enabled-clause-refused g c none =
    step-refused c.args.self.now.core c.args.self.now.course c.args.self.now.turns.items (Step.End c.args.comp) c.requires.ready c.admitted-admitted.ensures.run c.admitted-admitted.ensures.all tt
    (λ due. false≢true (sym c.if-not-enabled.true ∙ c.enabled.ensures.1 due))

pub returns-clause-made : goal.returns-clause-made
returns-clause-made g c made =
    ended _ _ _ c.requires.ready c.admitted-admitted.ensures.run c.admitted-admitted.ensures.all c.args.comp _ (c.enabled.ensures.0 c.if-not-enabled.false) c.end.ensures.step

pub returns-clause-out : goal.returns-clause-out
returns-clause-out g c =
    (ended _ _ _ c.requires.ready c.admitted-admitted.ensures.run c.admitted-admitted.ensures.all c.args.comp _ (c.enabled.ensures.0 c.if-not-enabled.false) c.end.ensures.step).follows.out
