use Rattle.std.proofs.Common.{◌-◌, ◌≤◌, ◌<◌, length, ℕ}
use Rattle.samoa_invariant.specs.Runs.{play, state}
use Rattle.samoa_control.specs.Sound.{IsPast}
use Rattle.samoa_control.proofs.control.Control.all_past.Given as goal

abbrev pub invariant-loop-micro : goal.invariant-loop-micro
invariant-loop-micro g l = record {
  past : (p : ℕ) → p < l.micro → IsPast (play l.self) (state l.self) (l.comp - 1) p;
  below : l.micro ≤ length l.self.script.micros;
}

abbrev pub decreases-loop-micro : goal.decreases-loop-micro
decreases-loop-micro g l = l.micros - l.micro
