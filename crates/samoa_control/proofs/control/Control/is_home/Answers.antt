use Rattle.samoa_control.specs.Fields.{fields_of}
use Rattle.samoa_control.proofs.Going.{home-test}
use Rattle.samoa_control.proofs.control.Control.is_home.Goals as goal

pub returns : goal.returns
returns g c =
    home-test (fields_of c.self.inside) c.args.self.now c.args.node c.args.micro c.is_home.result c.self.view_is c.self.invariant c.requires.node c.requires.micro c.is_home.ensures
