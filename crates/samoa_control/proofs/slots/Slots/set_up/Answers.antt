use Rattle.std.proofs.Common.{add-one, arith, refl}
use Rattle.samoa_control.proofs.Draws.{share_there, shares_left}
use Rattle.samoa_control.proofs.slots.Slots.set_up.Goals as goal

pub loop-node-init : goal.loop-node-init
loop-node-init g c = record { filled = c.new-boxes.ensures.items; covers = λ kind. let there = c.requires kind in grind arith }

pub fill_node-requires : goal.fill_node-requires
fill_node-requires g c kind =
    share_there c.args.script.now.nodes c.loop-node.node _ _ c.loop-node-test.true (c.loop-node.invariant.covers kind)

pub loop-node-preserved : goal.loop-node-preserved
loop-node-preserved g c =
    record {
      filled = rw (add-one, c.in_ok-fill_node.ensures.filled, c.loop-node.invariant.filled) refl;
      covers = λ kind. shares_left c.args.script.now.nodes c.loop-node.node _ _ _ c.loop-node-test.true (c.loop-node.invariant.covers kind) (c.in_ok-fill_node.ensures.counts kind);
    }
