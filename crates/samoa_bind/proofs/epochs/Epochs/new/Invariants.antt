use Rattle.std.proofs.Common.{◌≡◌, [], map, replicate}
use Rattle.samoa_bind.proofs.epochs.Epochs.new.Given as goal

abbrev pub invariant-loop-event : goal.invariant-loop-event
invariant-loop-event l = map (λ h. h.bindings) l.histories.items ≡ replicate l._event []
