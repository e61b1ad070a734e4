use Rattle.std.proofs.Common.{◌≡◌, None, take}
use Rattle.samoa_grammar.specs.Walks.{first_along}
use Rattle.samoa_naming.specs.Groups.{micro_outside}
use Rattle.samoa_naming.proofs.totals.codes_within.Given as goal

abbrev pub invariant-loop-micro : goal.invariant-loop-micro
invariant-loop-micro l = first_along micro_outside (take l.micro-index l.draft.micros) ≡ None
