use Rattle.std.proofs.Common.{◌≡◌, [], take, drop, map}
use Rattle.samoa_grammar.specs.Passes.{twice_after}
use Rattle.samoa_naming.proofs.named.no_twice.Given as goal

abbrev pub invariant-loop-i : goal.invariant-loop-i
invariant-loop-i g l = twice_after (map g.T.Named.called (take l.i l.items)) (map g.T.Named.called (drop l.i l.items)) ≡ twice_after [] (map g.T.Named.called l.items)
