use Rattle.std.proofs.Common.{◌-◌, ◌≤◌, [], length}
use Rattle.std.specs.Io.KnownBytes.{Appends}
use Rattle.samoa_ledger.specs.Written.{later_text}
use Rattle.samoa_ticks.specs.Stands.{Stands}
use Rattle.samoa_ticks.proofs.ticks.run_one_by_one.Given as goal

abbrev pub invariant-loop-report : goal.invariant-loop-report
invariant-loop-report g l = record {
  stands : Stands l.script l.core l.report;
  written : Appends (g.K.Sink.written l.initial.sink) (g.K.Sink.written l.sink) (later_text l.script l.calls [] l.core.exts);
  later : g.K.Sink.faults l.initial.sink ≤ g.K.Sink.faults l.sink;
}

abbrev pub decreases-loop-report : goal.decreases-loop-report
decreases-loop-report g l = 100000 - length l.core.exts
