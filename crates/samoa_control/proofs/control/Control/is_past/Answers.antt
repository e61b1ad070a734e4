use Rattle.std.proofs.Common.{◌-◌}
use Rattle.samoa_control.proofs.Passes.{past-at}
use Rattle.samoa_control.proofs.control.Control.is_past.Goals as goal

pub returns : goal.returns
returns g c =
    past-at c.args.self.now (c.args.comp - 1) c.args.micro c.running-running.result.now c.turn.result c.local-local.result c.is_over.result c.recall.ensures c.running-running.ensures c.requires.micro
    c.turn.ensures c.local-local.ensures c.is_over.ensures
