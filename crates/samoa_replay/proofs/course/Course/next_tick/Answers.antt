use Rattle.std.proofs.Common.{arith, refl}
use Rattle.samoa_replay.specs.Following.{rest_of}
use Rattle.samoa_ledger.proofs.Histories.{past_few, past_is}
use Rattle.samoa_replay.proofs.Standing.{course_next}
use Rattle.samoa_replay.proofs.course.Course.next_tick.Goals as goal

pub overflow_sub-room : goal.overflow_sub-room
overflow_sub-room g c =
    omega (
      arith,
      c.admitted.ensures.count,
      past_few c.args.script.now c.args.core.now.exts c.args.self.now.tick (past_is c.args.script.now c.args.core.now.exts c.args.self.now.tick (rest_of c.args.self.now) c.requires.on_course.left c.requires.none),
    )

pub returns-clause-on_course : goal.returns-clause-on_course
returns-clause-on_course g c =
    course_next c.args.script.now c.args.core.now c.args.self.now _ c.in_ok-batch.batch.items c.admitted.result c.len.result c.requires.on_course c.requires.written c.requires.none c.requires.free c.requires.more
    refl refl refl refl c.in_ok-batch.ensures.items c.in_ok-batch.ensures.tick c.in_ok-batch.ensures.asked c.in_ok-batch.ensures.sent c.in_ok-batch.ensures.comp c.batch.ensures.plan
    c.admitted.ensures.count (omega (arith, c.len.ensures)) c.truncate.ensures.items refl
