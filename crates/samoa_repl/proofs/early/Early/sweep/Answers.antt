use Rattle.std.proofs.Common.{arith}
use Rattle.std.proofs.lemmas.List.Elements.{filter_passes}
use Rattle.samoa_repl.specs.Arrived.{comes}
use Rattle.samoa_repl.proofs.early.Early.sweep.Goals as goal

pub invariant_of-self : goal.invariant_of-self
invariant_of-self c = (
  rw c.drop_over-passed.ensures.kept (filter_passes (comes c.self.inside.epoch c.self.inside.delivered) c.self.inside.messages.items),
  omega (arith, c.first_from-self-inside.ensures),
)
