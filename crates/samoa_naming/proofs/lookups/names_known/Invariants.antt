use Rattle.std.proofs.Common.{◌≡◌, None, take}
use Rattle.samoa_grammar.specs.Walks.{first_along}
use Rattle.samoa_grammar.specs.Passes.{among}
use Rattle.samoa_naming.proofs.lookups.names_known.Given as goal

abbrev pub invariant-loop-name : goal.invariant-loop-name
invariant-loop-name l = first_along (among l.index) (take l.name-index l.names) ≡ None
