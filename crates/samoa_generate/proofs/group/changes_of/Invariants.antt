use Rattle.std.proofs.Common.{◌≡◌, map, take}
use Rattle.samoa_laws.specs.trace.Group.{change}
use Rattle.samoa_generate.proofs.group.changes_of.Given as goal

abbrev pub invariant-loop-number : goal.invariant-loop-number
invariant-loop-number l = l.changes.items ≡ map change (take l.number-index l.numbers)
