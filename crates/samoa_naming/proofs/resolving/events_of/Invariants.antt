use Rattle.std.proofs.Common.{◌≡◌, take, map}
use Rattle.samoa_grammar.specs.Meaning.{event_named}
use Rattle.samoa_naming.proofs.resolving.events_of.Given as goal

abbrev pub invariant-loop-name : goal.invariant-loop-name
invariant-loop-name l = l.found.items ≡ map (event_named l.draft) (take l.name-index l.names)
