use Rattle.std.proofs.Common.{◌≢◌, ◌-◌, ◌<◌, ◌≤◌, ℕ, length}
use Rattle.std.specs.Prelude.{slice_index_or}
use Rattle.samoa_control.specs.Turns.{Going}
use Rattle.samoa_replay.proofs.replay.Replay.turn_of.Given as goal

abbrev pub invariant-loop-at : goal.invariant-loop-at
invariant-loop-at g l = record {
  within : l.at ≤ length l.self.turns.items;
  others : (k : ℕ) (d : Going) → k < l.at → (slice_index_or l.self.turns.items k d).comp ≢ l.comp;
}

abbrev pub decreases-loop-at : goal.decreases-loop-at
decreases-loop-at g l = length l.self.turns.items - l.at
