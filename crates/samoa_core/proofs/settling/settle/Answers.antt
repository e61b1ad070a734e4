use Rattle.samoa_invariant.proofs.settling.Releasing.{settles-settled}
use Rattle.samoa_core.proofs.settling.settle.Goals as goal

pub returns-clause-settled : goal.returns-clause-settled
returns-clause-settled g c =
    settles-settled c.args.control.now c.end_all.new.control c.recall.ensures.run
    (record { between = c.release_all.new.control; releases = c.release_all.ensures.releases; ends = c.end_all.ensures.ends })
