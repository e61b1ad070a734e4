use Rattle.samoa_laws.proofs.transport.Callers.{begins_called}
use Rattle.samoa_laws.proofs.transport.each_begin_was_called.Goals as goal

pub returns : goal.returns
returns c = record { called = λ script exts past node h arg history first last b. begins_called script exts history past node h arg first last b }
