use Rattle.std.proofs.Common.{arith}
use Rattle.samoa_replay.specs.Following.{rest_of}
use Rattle.samoa_ledger.proofs.Histories.{part_few}
use Rattle.samoa_replay.proofs.Making.{counted-most}
use Rattle.samoa_replay.proofs.replay.Replay.least_unended.Goals as goal

pub overflow_add-comp : goal.overflow_add-comp
overflow_add-comp g c =
    omega (
      arith,
      counted-most c.args.self.now.core.script c.args.self.now.core c.args.self.now.course c.requires,
      part_few c.args.self.now.core.script c.args.self.now.core.exts c.args.self.now.course.tick (rest_of c.args.self.now.course) c.requires.left,
    )

pub overflow_add-comp-in-loop-comp : goal.overflow_add-comp-in-loop-comp
overflow_add-comp-in-loop-comp g c =
    omega (
      arith,
      c.loop-comp.invariant.most,
      c.admitted-admitted.ensures.count,
      part_few c.args.self.now.core.script c.args.self.now.core.exts c.args.self.now.course.tick (rest_of c.args.self.now.course) c.requires.left,
    )
