use Rattle.samoa_model.specs.declared.record.Step.{Step}
use Rattle.samoa_invariant.proofs.representation.Traces.{fewer}
use Rattle.samoa_control.proofs.Asked.{release-since}
use Rattle.samoa_control.proofs.Later.{later-step}
use Rattle.samoa_control.proofs.Passes.{due-within}
use Rattle.samoa_control.proofs.control.Control.release.Goals as goal

pub hand_on-requires-clause-kept : goal.hand_on-requires-clause-kept
hand_on-requires-clause-kept g c = (release-since c.args.self.now c.args.comp c.args.micro c.recall.ensures c.requires.due).0

pub hand_on-requires-clause-within : goal.hand_on-requires-clause-within
hand_on-requires-clause-within g c = due-within c.args.self.now c.args.comp c.args.micro c.recall.ensures c.requires.due

pub returns-clause-later : goal.returns-clause-later
returns-clause-later g c = later-step c.args.self.now _ (Step.Release c.args.comp c.args.micro) c.recall.ensures.run c.hand_on.ensures.step

pub returns-clause-fewer : goal.returns-clause-fewer
returns-clause-fewer g c = rw c.hand_on.ensures.step (fewer c.args.self.now (Step.Release c.args.comp c.args.micro) c.recall.ensures.run tt c.requires.due)
