use Rattle.std.proofs.Common.{◌≤◌}
use Rattle.samoa_repl.specs.Arrived.{place_of}
use Rattle.samoa_repl.proofs.early.first_from.Given as goal

-- none before `at` is of the epoch
abbrev pub invariant-loop-at : goal.invariant-loop-at
invariant-loop-at l = l.at ≤ place_of l.epoch l.early.items
