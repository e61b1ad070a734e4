use Rattle.std.proofs.Common.{arith, ◌-◌, refl}
use Rattle.samoa_control.proofs.Passes.{all-past}
use Rattle.samoa_control.proofs.control.Control.all_past.Goals as goal

pub returns : goal.returns
returns g c =
    let e = c.micros-micros.ensures in
    let ends = c.loop-micro-test.false in
    ((λ so. all-past c.args.self.now (c.args.comp - 1) c.loop-micro.micro c.recall.ensures (omega (arith, e, ends)) c.loop-micro.invariant.past), (λ past. refl))
