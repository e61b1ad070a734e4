use Rattle.std.proofs.Common.{ap, ◌∙◌}
use Rattle.samoa_control.specs.Places.{away}
use Rattle.samoa_core.proofs.kernel.Core.away.Goals as goal

pub returns : goal.returns
returns g c = c.away.ensures ∙ ap away c.self.view_is
