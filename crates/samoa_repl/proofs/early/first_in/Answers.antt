use Rattle.std.proofs.Common.{◌∙◌}
use Rattle.samoa_repl.proofs.Placed.{read_there}
use Rattle.samoa_repl.proofs.early.first_in.Goals as goal

pub returns : goal.returns
returns c =
    c.copied.ensures
    ∙ read_there c.args.epoch c.args.early.now.items c.first_from.result _ c.get.result c.first_from.ensures
    (rw c.deref.ensures.value at c.get.ensures.lookup.1) (rw c.deref.ensures.value at c.get.ensures.lookup.3)
