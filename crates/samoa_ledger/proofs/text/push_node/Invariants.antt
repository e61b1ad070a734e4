use Rattle.std.proofs.Common.{◌≡◌, ◌++◌}
use Rattle.samoa_serial.specs.Report.{node_text}
use Rattle.samoa_ledger.specs.Written.{states_of}
use Rattle.samoa_ledger.proofs.text.push_node.Given as goal

abbrev pub invariant-loop-micro : goal.invariant-loop-micro
invariant-loop-micro g l = l.text.items ≡ l.initial.text.items ++ node_text l.script (states_of l.core) l.node.0 l.micro
