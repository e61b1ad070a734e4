use Rattle.std.proofs.Common.{◌≡◌, None, take}
use Rattle.samoa_grammar.specs.Walks.{first_along}
use Rattle.samoa_grammar.specs.Passes.{handler_unknown}
use Rattle.samoa_naming.proofs.handlers.handlers_known.Given as goal

abbrev pub invariant-loop-name : goal.invariant-loop-name
invariant-loop-name l = first_along (handler_unknown l.draft.micros) (take l.name-index l.names) ≡ None
