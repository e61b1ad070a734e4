use Rattle.std.proofs.Common.{◌≡◌, ◌+◌, ◌-◌, ◌<◌, ◌≤◌, ℕ, true}
use Rattle.samoa_invariant.specs.Runs.{state}
use Rattle.samoa_replay.proofs.replay.Replay.least_unended.Given as goal

abbrev pub invariant-loop-comp : goal.invariant-loop-comp
invariant-loop-comp g l = record {
  after : l.self.course.totals.comps < l.comp;
  most : l.comp ≤ l.admitted + 1;
  before : (k : ℕ) → k + 1 < l.comp → (state l.self.core).ended k ≡ true;
}

abbrev pub decreases-loop-comp : goal.decreases-loop-comp
decreases-loop-comp g l = l.admitted + 1 - l.comp
