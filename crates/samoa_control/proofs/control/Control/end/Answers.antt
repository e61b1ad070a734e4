use Rattle.samoa_model.specs.declared.record.Step.{Step}
use Rattle.samoa_invariant.proofs.representation.Traces.{fewer}
use Rattle.samoa_control.proofs.Asked.{end-since}
use Rattle.samoa_control.proofs.Later.{later-step}
use Rattle.samoa_control.proofs.control.Control.end.Goals as goal

pub finish-requires-clause-kept : goal.finish-requires-clause-kept
finish-requires-clause-kept g c = (end-since c.args.self.now c.args.comp c.recall.ensures c.requires.due).0

pub returns-clause-later : goal.returns-clause-later
returns-clause-later g c = later-step c.args.self.now _ (Step.End c.args.comp) c.recall.ensures.run c.finish.ensures.step

pub returns-clause-fewer : goal.returns-clause-fewer
returns-clause-fewer g c = rw c.finish.ensures.step (fewer c.args.self.now (Step.End c.args.comp) c.recall.ensures.run tt c.requires.due)
