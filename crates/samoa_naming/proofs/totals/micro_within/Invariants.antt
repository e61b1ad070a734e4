use Rattle.std.proofs.Common.{◌≡◌, None, take}
use Rattle.samoa_grammar.specs.Walks.{first_along}
use Rattle.samoa_naming.specs.Groups.{handler_outside}
use Rattle.samoa_naming.proofs.totals.micro_within.Given as goal

abbrev pub invariant-loop-handler : goal.invariant-loop-handler
invariant-loop-handler l = first_along (handler_outside l.micro) (take l.handler-index l.micro.handlers) ≡ None
