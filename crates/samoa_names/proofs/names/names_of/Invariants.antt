use Rattle.std.proofs.Common.{◌≡◌, take, map}
use Rattle.samoa_names.proofs.names.names_of.Given as goal

abbrev pub invariant-loop-event : goal.invariant-loop-event
invariant-loop-event l = l.names.items ≡ map (λ e. e.name) (take l.event-index l.events)
