use Rattle.std.proofs.Common.{◌≡◌, None, take}
use Rattle.samoa_grammar.specs.Walks.{first_along}
use Rattle.samoa_grammar.specs.Passes.{loss_total}
use Rattle.samoa_naming.proofs.totals.losses_within.Given as goal

abbrev pub invariant-loop-loss : goal.invariant-loop-loss
invariant-loop-loss l = first_along (loss_total l.draft.nodes) (take l.loss-index l.draft.losses) ≡ None
