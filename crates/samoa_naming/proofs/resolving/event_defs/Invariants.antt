use Rattle.std.proofs.Common.{◌≡◌, take, map}
use Rattle.samoa_grammar.specs.Meaning.{event_meant}
use Rattle.samoa_naming.proofs.resolving.event_defs.Given as goal

abbrev pub invariant-loop-event : goal.invariant-loop-event
invariant-loop-event l = l.found.items ≡ map (event_meant l.draft) (take l.event-index l.draft.events)
