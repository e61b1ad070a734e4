use Rattle.std.proofs.Common.{◌≡◌, None, take}
use Rattle.samoa_grammar.specs.Walks.{first_along}
use Rattle.samoa_grammar.specs.Passes.{event_unknown}
use Rattle.samoa_naming.proofs.undefined.events_known.Given as goal

abbrev pub invariant-loop-event : goal.invariant-loop-event
invariant-loop-event l = first_along (event_unknown l.draft) (take l.event-index l.draft.events) ≡ None
