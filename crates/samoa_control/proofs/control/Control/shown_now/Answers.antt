use Rattle.std.proofs.Common.{◌∙◌, ap, refl}
use Rattle.samoa_model.specs.Scripts.{micro_at}
use Rattle.samoa_serial.specs.Kinds.{shown}
use Rattle.samoa_invariant.specs.Runs.{Trace, state}
use Rattle.samoa_control.specs.Fields.{fields_of}
use Rattle.samoa_control.proofs.Going.{slot-home}
use Rattle.samoa_control.proofs.control.Control.shown_now.Goals as goal

pub show-requires : goal.show-requires
show-requires g c =
    (_, refl, slot-home (fields_of c.self.inside) c.args.self.now c.args.node c.args.micro.0 c.self.view_is c.self.invariant c.requires.node c.requires.micro c.requires.home)

pub returns : goal.returns
returns g c =
    c.show.ensures _ (slot-home (fields_of c.self.inside) c.args.self.now c.args.node c.args.micro.0 c.self.view_is c.self.invariant c.requires.node c.requires.micro c.requires.home)
    ∙ ap (λ (x : Trace). shown (micro_at x.script c.args.micro.0).kind ((state x).boxes c.args.node.0 c.args.micro.0)) c.self.view_is
