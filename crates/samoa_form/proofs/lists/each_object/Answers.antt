use Rattle.std.proofs.Common.{arith}
use Rattle.std.proofs.lemmas.Grind.{common_steps}
use Rattle.samoa_form.proofs.Along.{passed_at}
use Rattle.samoa_form.proofs.lists.each_object.Goals as goal

pub loop-item-preserved : goal.loop-item-preserved
loop-item-preserved g c = record {
  read = grind (arith, common_steps);
  pass = passed_at (g.T.Part.fault c.args.key.now) c.args.list.now c.loop-item.item-index c.item-item.result (omega arith) c.item-item.is c.loop-item.invariant.pass c.in_ok-read.ensures.0;
}
