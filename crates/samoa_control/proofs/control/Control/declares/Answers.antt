use Rattle.std.proofs.Common.{◌-◌}
use Rattle.samoa_control.proofs.Entering.{declares-at}
use Rattle.samoa_control.proofs.control.Control.declares.Goals as goal

pub returns : goal.returns
returns g c =
    declares-at c.args.self.now (c.args.comp - 1) c.args.micro c.running.result.now c.turn.result c.is_some.result c.recall.ensures.run c.running.ensures c.requires.micro
    c.turn.ensures c.is_some.ensures
