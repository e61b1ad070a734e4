use Rattle.std.proofs.Common.{◌≡◌, ◌++◌, take}
use Rattle.samoa_serial.specs.Lines.{words_text}
use Rattle.samoa_report.proofs.push.push_each.Given as goal

abbrev pub invariant-loop-word : goal.invariant-loop-word
invariant-loop-word l = l.out.items ≡ l.initial.out.items ++ words_text (take l.word-index l.words)
