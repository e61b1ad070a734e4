use Rattle.samoa_laws.proofs.trace.Entries.{trace-extends}
use Rattle.samoa_laws.proofs.traces.traces_grow.Goals as goal

pub returns : goal.returns
returns c = record { grown = λ script exts later. let x = trace-extends script exts later in (x.more, x.is) }
