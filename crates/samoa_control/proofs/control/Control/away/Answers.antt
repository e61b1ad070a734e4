use Rattle.std.proofs.Common.{ap, ◌∙◌}
use Rattle.samoa_control.specs.Places.{away}
use Rattle.samoa_control.proofs.control.Control.away.Goals as goal

pub returns : goal.returns
returns g c = c.self.invariant.holds.away ∙ ap away c.self.view_is
