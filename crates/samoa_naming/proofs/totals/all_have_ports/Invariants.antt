use Rattle.std.proofs.Common.{◌≡◌, None, take}
use Rattle.samoa_grammar.specs.Walks.{first_along}
use Rattle.samoa_grammar.specs.Passes.{ports_fault}
use Rattle.samoa_naming.proofs.totals.all_have_ports.Given as goal

abbrev pub invariant-loop-micro : goal.invariant-loop-micro
invariant-loop-micro l = first_along ports_fault (take l.micro-index l.draft.micros) ≡ None
