use Rattle.std.proofs.Common.{◌≡◌, take, map}
use Rattle.samoa_grammar.specs.Meaning.{handler_of}
use Rattle.samoa_naming.proofs.resolving.handlers_of.Given as goal

abbrev pub invariant-loop-name : goal.invariant-loop-name
invariant-loop-name l = l.found.items ≡ map (handler_of l.draft.micros) (take l.name-index l.names)
