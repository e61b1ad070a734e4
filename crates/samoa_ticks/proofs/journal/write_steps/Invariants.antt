use Rattle.std.proofs.Common.{◌≤◌, take}
use Rattle.std.specs.Io.KnownBytes.{Appends}
use Rattle.samoa_report.specs.Steps.{steps_text}
use Rattle.samoa_ticks.proofs.journal.write_steps.Given as goal

abbrev pub invariant-loop-step : goal.invariant-loop-step
invariant-loop-step g l = record {
  written : Appends (g.K.Sink.written l.initial.sink) (g.K.Sink.written l.sink) (steps_text (take l.step-index l.steps));
  later : g.K.Sink.faults l.initial.sink ≤ g.K.Sink.faults l.sink;
}
