use Rattle.std.proofs.Common.{◌≡◌, ◌-◌, ◌≤◌, length, take}
use Rattle.samoa_replay.specs.Following.{IsReady}
use Rattle.samoa_replay.proofs.replay.Replay.follow_lines.Given as goal

abbrev pub invariant-loop-line : goal.invariant-loop-line
invariant-loop-line g l = record {
  ready : IsReady l.self.core l.self.course l.self.turns.items;
  of_script : l.self.core.script ≡ l.script;
  journal : l.self.core.journal ≡ take l.line l.steps;
  within : l.line ≤ length l.steps;
}

abbrev pub decreases-loop-line : goal.decreases-loop-line
decreases-loop-line g l = length l.steps - l.line
