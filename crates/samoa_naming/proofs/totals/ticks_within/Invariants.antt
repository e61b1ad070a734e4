use Rattle.std.proofs.Common.{◌≡◌, None, take}
use Rattle.samoa_grammar.specs.Walks.{first_along}
use Rattle.samoa_grammar.specs.Passes.{tick_fault}
use Rattle.samoa_naming.proofs.totals.ticks_within.Given as goal

abbrev pub invariant-loop-item : goal.invariant-loop-item
invariant-loop-item l = first_along (tick_fault l.draft.ticks) (take l.item-index l.draft.does) ≡ None
