use Rattle.std.proofs.Common.{◌≡◌, None, take}
use Rattle.samoa_grammar.specs.Walks.{first_along}
use Rattle.samoa_grammar.specs.Passes.{micro_unknown}
use Rattle.samoa_naming.proofs.undefined.micros_known.Given as goal

abbrev pub invariant-loop-micro : goal.invariant-loop-micro
invariant-loop-micro l = first_along (micro_unknown l.draft) (take l.micro-index l.draft.micros) ≡ None
