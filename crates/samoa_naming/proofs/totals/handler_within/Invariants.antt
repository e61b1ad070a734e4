use Rattle.std.proofs.Common.{◌≡◌, None, take}
use Rattle.samoa_grammar.specs.Walks.{first_along}
use Rattle.samoa_grammar.specs.Passes.{instr_fault}
use Rattle.samoa_naming.proofs.totals.handler_within.Given as goal

abbrev pub invariant-loop-instr : goal.invariant-loop-instr
invariant-loop-instr l = first_along (instr_fault l.micro) (take l.instr-index l.handler.code) ≡ None
