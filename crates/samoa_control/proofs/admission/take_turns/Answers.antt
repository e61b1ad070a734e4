use Rattle.std.proofs.Common.{arith, ◌≡◌, ◌∙◌, length, ap, refl, add-one}
use Rattle.samoa_control.proofs.Taken.{length-raised, length-taken, raised-else}
use Rattle.samoa_control.proofs.admission.take_turns.Goals as goal

pub take_turn-turn-requires-clause-there : goal.take_turn-turn-requires-clause-there
take_turn-turn-requires-clause-there c =
    let long : length c.loop-micro.versions.gv ≡ length c.args.versions.now.gv =
    ap length c.loop-micro.invariant.gv ∙ length-raised c.args.decl.now c.args.columns c.args.node c.args.versions.now.gv c.loop-micro.micro in
    let there = c.requires.there in
    let below = c.loop-micro-test.true in
    omega (arith, long, there, below)

pub take_turn-turn-requires-clause-small : goal.take_turn-turn-requires-clause-small
take_turn-turn-requires-clause-small c =
    let below = c.loop-micro-test.true in
    let small = c.requires.small c.loop-micro.micro below in
    rw (c.loop-micro.invariant.gv, raised-else c.args.decl.now c.args.columns c.args.node c.args.versions.now.gv c.loop-micro.micro c.loop-micro.micro (omega arith)) small

pub push_reserved-requires : goal.push_reserved-requires
push_reserved-requires c =
    let long : length c.loop-micro.turns.items ≡ c.loop-micro.micro =
    ap length c.loop-micro.invariant.turns ∙ length-taken c.args.decl.now c.args.columns c.args.node c.args.versions.now.gv c.loop-micro.micro in
    let below = c.loop-micro-test.true in
    let room = c.loop-micro.invariant.room in
    let size = c.loop-micro.turns.ok in
    omega (arith, long, below, room, size)

pub loop-micro-preserved : goal.loop-micro-preserved
loop-micro-preserved c =
    let room = c.loop-micro.invariant.room in
    let same = c.push_reserved.ensures.capacity in
    record {
      turns = rw (add-one, c.push_reserved.ensures.items, c.loop-micro.invariant.turns, c.take_turn-turn.ensures.turn, c.loop-micro.invariant.gv) refl;
      gv = rw (add-one, c.take_turn-turn.ensures.gv, c.take_turn-turn.ensures.turn, c.loop-micro.invariant.gv) refl;
      lv = c.take_turn-turn.ensures.lv ∙ c.loop-micro.invariant.lv;
      room = rw same room;
      below = omega (arith, c.loop-micro-test.true);
    }
