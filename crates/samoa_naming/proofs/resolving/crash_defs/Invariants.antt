use Rattle.std.proofs.Common.{◌≡◌, take, map}
use Rattle.samoa_grammar.specs.Meaning.{crash_meant}
use Rattle.samoa_naming.proofs.resolving.crash_defs.Given as goal

abbrev pub invariant-loop-crash : goal.invariant-loop-crash
invariant-loop-crash l = l.found.items ≡ map crash_meant (take l.crash-index l.crashes)
