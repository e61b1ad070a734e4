use Rattle.std.proofs.Common.{string_bytes}
use Rattle.samoa_print.specs.Canonical.{number_tree}
use Rattle.samoa_print.proofs.Sound.{IsWritten}
use Rattle.samoa_print.proofs.text.push_numbers.Given as goal

abbrev pub invariant-loop-i : goal.invariant-loop-i
invariant-loop-i l = IsWritten number_tree l.numbers l.i (string_bytes l.initial.out) (string_bytes l.out)
