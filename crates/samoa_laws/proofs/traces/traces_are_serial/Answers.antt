use Rattle.samoa_laws.proofs.trace.Entries.{all_outputs, node_outputs}
use Rattle.samoa_laws.proofs.trace.Points.{point}
use Rattle.samoa_laws.proofs.traces.traces_are_serial.Goals as goal

pub returns : goal.returns
returns c = record { states = λ script exts. (point script exts).found; outputs_are = all_outputs; outputs_there = node_outputs }
