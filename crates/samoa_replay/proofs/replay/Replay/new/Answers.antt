use Rattle.std.proofs.Common.{List, ap, arith, length, subst, sym}
use Rattle.samoa_invariant.specs.Runs.{Trace}
use Rattle.samoa_control.specs.Turns.{Going}
use Rattle.samoa_replay.specs.Following.{IsOnCourse, IsReady}
use Rattle.samoa_replay.proofs.Replaying.{ready_first}
use Rattle.samoa_replay.proofs.Runnable.{few_needed}
use Rattle.samoa_replay.proofs.Standing.{course_first}
use Rattle.samoa_replay.proofs.replay.Replay.new.Goals as goal

pub new-requires-clause-cells : goal.new-requires-clause-cells
new-requires-clause-cells g c = let few = few_needed c.args.script.now c.requires.in_range in omega (arith, few)

pub refill-requires-clause-on_course : goal.refill-requires-clause-on_course
refill-requires-clause-on_course g c =
    subst (λ (t : Trace). IsOnCourse c.args.script.now t c.new-course.result) (sym c.in_ok-core.ensures)
    (course_first c.args.script.now 1048576 c.new-course.result (c.new-course.ensures.counted c.args.script.now) (c.new-course.ensures.gathered c.args.script.now) c.new-course.ensures.batch
    c.new-course.ensures.next c.new-course.ensures.ticks.0 c.new-course.ensures.ticks.1 c.new-course.ensures.free c.new-course.ensures.text)

pub refill-requires-clause-written : goal.refill-requires-clause-written
refill-requires-clause-written g c =
    omega (arith, (c.new-course.ensures.counted c.args.script.now).comps, ap (λ (t : Trace). length t.exts) c.in_ok-core.ensures)

pub returns-clause-ready : goal.returns-clause-ready
returns-clause-ready g c =
    subst (λ (turns : List Going). IsReady c.in_ok-core.core c.refill.new.self turns) (sym c.new-2.ensures.items)
    (ready_first c.args.script.now c.in_ok-core.core c.refill.new.self c.in_ok-core.ensures c.in_ok-refill.ensures.on_course c.in_ok-refill.ensures.written c.in_ok-refill.ensures.some_or_end)
