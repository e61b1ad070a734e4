use Rattle.samoa_core.proofs.Coming.{release-can, release-indexed, release-keeps-calm}
use Rattle.samoa_core.proofs.keeping.release.Goals as goal

pub hand_on-requires : goal.hand_on-requires
hand_on-requires g c = record {
  can = release-can c.args.control.now c.release.new.self c.args.index.now c.args.comp c.args.micro c.recall.ensures c.requires.due c.release.ensures.step c.requires.indexed;
}

pub returns-clause-indexed : goal.returns-clause-indexed
returns-clause-indexed g c =
    release-indexed c.args.control.now c.release.new.self c.args.index.now c.hand_on.new.index c.args.comp c.args.micro c.recall.ensures c.requires.due c.release.ensures.step c.requires.indexed c.hand_on.ensures

pub returns-clause-calm : goal.returns-clause-calm
returns-clause-calm g c =
    release-keeps-calm c.args.control.now c.release.new.self c.args.index.now c.hand_on.new.index c.args.comp c.args.micro c.recall.ensures c.requires.due c.release.ensures.step c.requires.indexed c.hand_on.ensures
