use Rattle.std.proofs.Common.{◌≡◌, None, take}
use Rattle.samoa_grammar.specs.Walks.{first_along}
use Rattle.samoa_grammar.specs.Passes.{twice}
use Rattle.samoa_naming.proofs.doubles.lists_once.Given as goal

abbrev pub invariant-loop-names : goal.invariant-loop-names
invariant-loop-names l = first_along twice (take l.names-index l.lists) ≡ None
