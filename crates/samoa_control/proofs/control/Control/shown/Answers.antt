use Rattle.std.proofs.Common.{◌∙◌, ap}
use Rattle.samoa_model.specs.Scripts.{micro_at}
use Rattle.samoa_serial.specs.Kinds.{shown}
use Rattle.samoa_serial.specs.State.{State}
use Rattle.samoa_invariant.specs.Runs.{Trace}
use Rattle.samoa_invariant.proofs.representation.Traces.{final}
use Rattle.samoa_control.proofs.control.Control.shown.Goals as goal

pub returns-clause-serial : goal.returns-clause-serial
returns-clause-serial g c all =
    let t : Trace = c.args.self.now in
    c.shown_now.ensures ∙ ap (λ (s : State). shown (micro_at t.script c.args.micro.0).kind s) (final t c.recall.ensures.run c.recall.ensures.all all c.args.node.0 c.args.micro.0)
