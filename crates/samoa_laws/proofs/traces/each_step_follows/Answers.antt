use Rattle.samoa_laws.proofs.trace.Points.{point, trace-is_trace}
use Rattle.samoa_laws.proofs.traces.each_step_follows.Goals as goal

pub returns : goal.returns
returns c = record { follows = trace-is_trace; ended = λ script exts. (point script exts).ended }
