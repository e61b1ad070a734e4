use Rattle.std.proofs.Common.{◌≡◌, ◌-◌, length}
use Rattle.samoa_replay.specs.Following.{IsOnCourse}
use Rattle.samoa_replay.proofs.course.Course.refill.Given as goal

abbrev pub invariant-loop-self : goal.invariant-loop-self
invariant-loop-self g l = record {
  on_course : IsOnCourse l.script l.core l.self;
  written : l.self.totals.comps ≡ length l.core.exts;
}

abbrev pub decreases-loop-self : goal.decreases-loop-self
decreases-loop-self g l = l.script.ticks - l.self.tick
