use Rattle.std.proofs.Common.{◌≡◌, take, map}
use Rattle.samoa_grammar.specs.Meaning.{loss_meant}
use Rattle.samoa_naming.proofs.resolving.loss_defs.Given as goal

abbrev pub invariant-loop-loss : goal.invariant-loop-loss
invariant-loop-loss l = l.found.items ≡ map loss_meant (take l.loss-index l.losses)
