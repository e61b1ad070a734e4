use Rattle.samoa_laws.proofs.trace.Counts.{trace-length}
use Rattle.samoa_laws.proofs.traces.traces_are_short.Goals as goal

pub returns : goal.returns
returns c = record { few = λ script b exts small. trace-length script b small exts }
