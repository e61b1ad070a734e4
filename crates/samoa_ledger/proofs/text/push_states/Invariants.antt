use Rattle.std.proofs.Common.{◌≡◌, ◌++◌}
use Rattle.samoa_serial.specs.Report.{states_text}
use Rattle.samoa_ledger.specs.Written.{states_of}
use Rattle.samoa_ledger.proofs.text.push_states.Given as goal

abbrev pub invariant-loop-node : goal.invariant-loop-node
invariant-loop-node g l = l.text.items ≡ l.initial.text.items ++ states_text l.script (states_of l.core) l.node
