use Rattle.std.proofs.Common.{◌≡◌, ◌-◌, ◌≤◌, [], false, length}
use Rattle.std.specs.Io.KnownBytes.{Appends}
use Rattle.samoa_ledger.specs.Written.{later_text}
use Rattle.samoa_ticks.specs.Stands.{Stands}
use Rattle.samoa_ticks.proofs.ticks.run_on_workers.Given as goal

abbrev pub invariant-loop-count : goal.invariant-loop-count
invariant-loop-count g l = record {
  stands : Stands l.script l.core l.report;
  together : l.report.alone ≡ false;
  cells : l.core.cells ≡ l.initial.core.cells;
  written : Appends (g.K.Sink.written l.initial.sink) (g.K.Sink.written l.sink) (later_text l.script l.calls [] l.core.exts);
  later : g.K.Sink.faults l.initial.sink ≤ g.K.Sink.faults l.sink;
}

abbrev pub decreases-loop-count : goal.decreases-loop-count
decreases-loop-count g l = 100000 - length l.core.exts
