use Rattle.std.proofs.Common.{◌≤◌, length}
use Rattle.samoa_ticks.proofs.Progress.{Wrote}
use Rattle.samoa_ticks.proofs.writing.write_lines.Given as goal

abbrev pub invariant-loop-rest : goal.invariant-loop-rest
invariant-loop-rest g l =
    Wrote (g.K.Sink.written l.initial.sink) (g.K.Sink.written l.sink) l.text l.rest × (g.K.Sink.faults l.initial.sink ≤ g.K.Sink.faults l.sink)

abbrev pub decreases-loop-rest : goal.decreases-loop-rest
decreases-loop-rest g l = length l.rest
