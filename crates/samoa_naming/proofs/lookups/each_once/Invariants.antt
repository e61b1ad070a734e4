use Rattle.std.proofs.Common.{◌≡◌, [], take, drop}
use Rattle.samoa_grammar.specs.Passes.{twice_after}
use Rattle.samoa_naming.proofs.lookups.each_once.Given as goal

abbrev pub invariant-loop-i : goal.invariant-loop-i
invariant-loop-i l = twice_after (take l.i l.index) (drop l.i l.index) ≡ twice_after [] l.index
