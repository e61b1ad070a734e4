use Rattle.std.proofs.Common.{◌≡◌, take, map}
use Rattle.samoa_naming.proofs.directory.index_of.Given as goal

abbrev pub invariant-loop-item : goal.invariant-loop-item
invariant-loop-item g l = l.names.items ≡ map g.T.Named.called (take l.item-index l.items)
