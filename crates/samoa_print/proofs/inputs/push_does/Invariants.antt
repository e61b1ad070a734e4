use Rattle.std.proofs.Common.{string_bytes}
use Rattle.samoa_print.specs.Canonical.{do_tree}
use Rattle.samoa_print.proofs.Sound.{IsWritten}
use Rattle.samoa_print.proofs.inputs.push_does.Given as goal

abbrev pub invariant-loop-i : goal.invariant-loop-i
invariant-loop-i l = IsWritten (do_tree l.script) l.script.does l.i (string_bytes l.initial.out) (string_bytes l.out)
