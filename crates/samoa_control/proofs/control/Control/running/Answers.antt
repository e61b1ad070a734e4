use Rattle.samoa_control.specs.Fields.{fields_of}
use Rattle.samoa_control.proofs.Keeps.{running-is}
use Rattle.samoa_control.proofs.control.Control.running.Goals as goal

pub returns : goal.returns
returns g c = running-is (fields_of c.self.inside) c.args.self.now c.args.comp c.index.result.now c.self.view_is c.self.invariant c.requires.kept c.requires.admitted c.index.ensures
