use Rattle.samoa_core.proofs.Emptied.{clears-held}
use Rattle.samoa_core.proofs.keeping.clear.Goals as goal

pub returns-then-held-clause-indexed : goal.returns-then-held-clause-indexed
returns-then-held-clause-indexed g c =
    clears-held c.args.control.now c.clear.new.self c.args.index.now c.clear-then-held.new.self c.holds_cells-held.result c.recall.ensures c.requires.all c.requires.indexed c.clear.ensures.clear
    c.holds_cells-held.ensures c.if-held.true c.clear-then-held.ensures
