use Rattle.std.proofs.Common.{◌≡◌, ◌-◌, ◌<◌, ◌≤◌, take}
use Rattle.samoa_invariant.specs.Runs.{state}
use Rattle.samoa_ticks.specs.Running.{HasOpened}
use Rattle.samoa_ticks.proofs.running.admit_part.Given as goal

abbrev pub invariant-loop-ext : goal.invariant-loop-ext
invariant-loop-ext g l = record {
  most : l.count ≤ l.most;
  opened : HasOpened l.initial.core (take l.count l.exts) l.core;
  none_held : l.count ≡ 0 → (state l.core).cells ≡ 0;
  held : 0 < l.count → 0 < (state l.core).cells;
}

abbrev pub decreases-loop-ext : goal.decreases-loop-ext
decreases-loop-ext g l = l.most - l.count
