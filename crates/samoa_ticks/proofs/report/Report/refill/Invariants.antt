use Rattle.std.proofs.Common.{◌≡◌, ◌-◌}
use Rattle.samoa_ticks.specs.Stands.{Stands}
use Rattle.samoa_ticks.proofs.report.Report.refill.Given as goal

abbrev pub invariant-loop-self : goal.invariant-loop-self
invariant-loop-self g l = record {
  stands : Stands l.script l.core l.self;
  alone : l.self.alone ≡ l.initial.self.alone;
}

abbrev pub decreases-loop-self : goal.decreases-loop-self
decreases-loop-self g l = l.script.ticks - l.self.tick
