use Rattle.std.proofs.Common.{◌-◌}
use Rattle.samoa_control.proofs.Entering.{holds-at}
use Rattle.samoa_control.proofs.control.Control.holds.Goals as goal

pub returns : goal.returns
returns g c =
    holds-at c.args.self.now (c.args.comp - 1) c.args.micro c.running-running.result.now c.turn.result c.local-local.result c.is_above.result c.running-running.ensures c.requires.micro
    c.turn.ensures c.local-local.ensures c.is_above.ensures
