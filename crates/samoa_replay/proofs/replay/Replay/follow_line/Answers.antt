use Rattle.std.proofs.Common.{◌∙◌, refl, subst, sym}
use Rattle.std.proofs.lemmas.Bool.{false≢true}
use Rattle.samoa_model.specs.declared.script.Script.{Script}
use Rattle.samoa_journal.specs.Finished.{IsFinished}
use Rattle.samoa_replay.specs.Lines.{IsWrongAfter}
use Rattle.samoa_replay.proofs.Replaying.{over_finished, wrong_after}
use Rattle.samoa_replay.proofs.replay.Replay.follow_line.Goals as goal

pub returns-then-is_over-clause-fault : goal.returns-then-is_over-clause-fault
returns-then-is_over-clause-fault g c = (
  refl,
  subst (λ (s : Script). IsFinished s c.args.self.now.core.journal) c.requires.of_script
      (over_finished _ _ _ c.requires.ready c.admitted-admitted.ensures.all (c.is_over.ensures.0 c.if-is_over.true)),
)

pub returns-in-Ok-false-clause-fault : goal.returns-in-Ok-false-clause-fault
returns-in-Ok-false-clause-fault g c = (
  refl,
  subst (λ (s : Script). IsWrongAfter s c.args.self.now.core.journal c.args.step) c.requires.of_script
      (wrong_after _ _ _ c.requires.ready c.admitted-admitted.ensures.all c.args.step (λ over. false≢true (sym c.if-is_over.false ∙ c.is_over.ensures.1 over)) (c.in-Ok-false.ensures.refused c.in-Ok-false.field-0-test)),
)
