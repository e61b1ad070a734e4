use Rattle.std.proofs.Common.{◌≡◌, map, take}
use Rattle.samoa_bind.proofs.tables.first_lists.Given as goal

abbrev pub invariant-loop-event : goal.invariant-loop-event
invariant-loop-event l = l.lists.items ≡ map (λ e. e.handlers) (take l.event-index l.events)
