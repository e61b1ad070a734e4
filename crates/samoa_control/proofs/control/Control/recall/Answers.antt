use Rattle.std.proofs.Common.{subst}
use Rattle.samoa_control.specs.Fields.{fields_of}
use Rattle.samoa_control.specs.Sound.{IsSound}
use Rattle.samoa_control.proofs.Facts.{sound}
use Rattle.samoa_control.proofs.control.Control.recall.Goals as goal

pub returns : goal.returns
returns g c = subst IsSound c.self.view_is (sound (fields_of c.self.inside) c.self.invariant)
