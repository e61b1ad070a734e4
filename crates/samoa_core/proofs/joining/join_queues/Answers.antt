use Rattle.std.proofs.Common.{arith, ◌≡◌, ℕ, length, subst}
use Rattle.samoa_core.specs.Joining.{Joins}
use Rattle.samoa_core.proofs.joining.join_queues.Goals as goal

pub loop-micro-preserved : goal.loop-micro-preserved
loop-micro-preserved g c = record {
  joins = λ x within start. c.join.ensures x within (c.loop-micro.invariant.joins x within start);
  below = omega arith;
}

pub returns-clause-joins : goal.returns-clause-joins
returns-clause-joins g c x within start =
    let size = c.micros-micros.ensures in
    let below = c.loop-micro.invariant.below in
    let past = c.loop-micro-test.false in
    let all : c.loop-micro.micro ≡ length c.args.control.now.script.micros = omega (arith, size, below, past) in
    subst (λ (m : ℕ). Joins c.args.control.now c.loop-micro.index x m) all (c.loop-micro.invariant.joins x within start)

pub returns-clause-sized : goal.returns-clause-sized
returns-clause-sized g c = (c.loop-micro.invariant.joins c.requires.can.index c.requires.can.within c.requires.can.joins).sized
