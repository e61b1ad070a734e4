use Rattle.std.proofs.Common.{refl}
use Rattle.samoa_replay.proofs.Standing.{course_closed}
use Rattle.samoa_replay.proofs.course.Course.close.Goals as goal

pub returns-clause-on_course : goal.returns-clause-on_course
returns-clause-on_course g c =
    course_closed c.args.script.now c.args.core.now c.clear.new.self c.args.self.now _ c.requires.on_course c.requires.all c.admitted-ended.ensures.all
    c.in_ok-push_comps.ensures.counted c.in_ok-push_comps.ensures.gathered c.in_ok-push_comps.ensures.tick c.in_ok-push_comps.ensures.text refl refl refl refl c.clear.ensures.clear c.admitted-cleared.ensures.cleared
