use Rattle.samoa_serial.specs.ReplTable.{pair_of}
use Rattle.samoa_repl.proofs.Swept.{mark_swept}
use Rattle.samoa_repl.proofs.early.Early.mark.Goals as goal

pub invariant_of-self-2 : goal.invariant_of-self-2
invariant_of-self-2 c = (
  rw (c.after_mark-self-inside.ensures, c.take_first-self-inside.ensures.rest, c.in_ok-add.ensures.ok, c.pair-2.ensures, c.pair.ensures)
      (mark_swept c.self.inside.over c.self.inside.epoch c.self.inside.delivered (pair_of c.args.message) c.self.inside.messages.items c.self.invariant.0),
  c.take_first-self-inside.ensures.passed,
)
