use Rattle.samoa_replay.proofs.Stepping.{abandoned_by, leave_refused, left_away, left_by}
use Rattle.samoa_replay.proofs.replay.Replay.leave.Goals as goal

pub returns-in_default-clause-refused : goal.returns-in_default-clause-refused
returns-in_default-clause-refused g c none =
    leave_refused _ _ _ c.requires.ready c.admitted-admitted.ensures.run c.admitted-admitted.ensures.all c.args.comp c.in_default.ensures.none

pub returns-in-Ok-clause-made : goal.returns-in-Ok-clause-made
returns-in-Ok-clause-made g c made =
    left_by _ _ _ c.requires.ready c.admitted-admitted.ensures.run c.admitted-admitted.ensures.all c.in-Some.at c.args.comp c.remove-turn.result c.in-Some.ensures.within c.in-Some.ensures.comp c.remove-turn.ensures.value
    _ _ _ c.in-Ok.ensures.ok c.remove-turn.ensures.items c.leave.ensures.step

pub returns-in-Ok-clause-out : goal.returns-in-Ok-clause-out
returns-in-Ok-clause-out g c =
    (left_by _ _ _ c.requires.ready c.admitted-admitted.ensures.run c.admitted-admitted.ensures.all c.in-Some.at c.args.comp c.remove-turn.result c.in-Some.ensures.within c.in-Some.ensures.comp c.remove-turn.ensures.value
    _ _ _ c.in-Ok.ensures.ok c.remove-turn.ensures.items c.leave.ensures.step).follows.out

pub returns-in-Err-clause-out : goal.returns-in-Err-clause-out
returns-in-Err-clause-out g c =
    (abandoned_by _ _ _ c.requires.ready c.admitted-admitted.ensures.run c.admitted-admitted.ensures.all c.in-Some.at c.args.comp c.remove-turn.result c.in-Some.ensures.within c.in-Some.ensures.comp c.remove-turn.ensures.value
    _ _ _ c.in-Err.ensures.err c.remove-turn.ensures.items c.abandon.ensures.step).follows.out

pub leave-requires : goal.leave-requires
leave-requires g c = record { away = left_away _ _ _ c.requires.ready c.admitted-admitted.ensures.run c.admitted-admitted.ensures.all c.in-Some.at c.args.comp c.remove-turn.result c.in-Some.ensures.within c.in-Some.ensures.comp c.remove-turn.ensures.value _ c.in-Ok.ensures.ok }

pub abandon-requires : goal.abandon-requires
abandon-requires g c = record { away = left_away _ _ _ c.requires.ready c.admitted-admitted.ensures.run c.admitted-admitted.ensures.all c.in-Some.at c.args.comp c.remove-turn.result c.in-Some.ensures.within c.in-Some.ensures.comp c.remove-turn.ensures.value _ c.in-Err.ensures.err }
