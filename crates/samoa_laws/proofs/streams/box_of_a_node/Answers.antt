use Rattle.samoa_laws.specs.trace.Trace.{trace}
use Rattle.samoa_laws.proofs.trace.Points.{trace-is_trace}
use Rattle.samoa_laws.proofs.streams.Rebound as bound
use Rattle.samoa_laws.proofs.streams.Views as view
use Rattle.samoa_laws.proofs.streams.Words as word
use Rattle.samoa_laws.proofs.streams.box_of_a_node.Goals as goal

pub returns : goal.returns
returns c = record {
  history = λ script exts v history. view.history_at script exts history.group v (trace script exts) (trace-is_trace script exts);
  goes_on = λ script exts v history. view.goes_on_at script exts history.group v (trace script exts) (trace-is_trace script exts);
  rebound = λ script exts v history. bound.rebound_at script exts history v (trace script exts) (trace-is_trace script exts);
  stream_is = word.stream_is;
}
