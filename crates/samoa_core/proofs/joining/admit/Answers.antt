use Rattle.samoa_core.proofs.Joined.{admits-indexed, grown-by, has-row-by}
use Rattle.samoa_core.proofs.joining.admit.Goals as goal

pub returns-in-Err-clause-indexed : goal.returns-in-Err-clause-indexed
returns-in-Err-clause-indexed g c = rw c.grow.ensures.more.1 (grown-by c.args.control.now c.args.index.now c.grow.ensures.more.0 c.requires.indexed)

pub returns-in_err-comp-clause-indexed : goal.returns-in_err-comp-clause-indexed
returns-in_err-comp-clause-indexed g c =
    rw (c.in_err-comp.ensures.err, c.grow.ensures.more.1) (grown-by c.args.control.now c.args.index.now c.grow.ensures.more.0 c.requires.indexed)

pub take_up-requires-clause-row : goal.take_up-requires-clause-row
take_up-requires-clause-row g c =
    has-row-by c.args.control.now c.admit.new.self c.args.ext c.args.index.now c.grow.new.self c.admitted.result c.cleared.result c.recall.ensures c.requires.indexed c.in_ok-comp.ensures.step c.grow.ensures.more
    c.admitted.ensures.count c.cleared.ensures c.in-Ok.ensures.long

pub returns-clause-indexed : goal.returns-clause-indexed
returns-clause-indexed g c =
    admits-indexed c.args.control.now c.admit.new.self c.args.ext c.args.index.now c.grow.new.self c.take_up.new.index c.recall.ensures c.recall-2.ensures c.requires.indexed c.in_ok-comp.ensures.step c.grow.ensures.more
    c.take_up.ensures
