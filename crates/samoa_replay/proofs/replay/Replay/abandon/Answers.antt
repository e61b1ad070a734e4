use Rattle.std.proofs.Common.{refl}
use Rattle.samoa_replay.proofs.Stepping.{abandon_refused, abandoned_by, left_away}
use Rattle.samoa_replay.proofs.replay.Replay.abandon.Goals as goal

pub returns-in_default-clause-refused : goal.returns-in_default-clause-refused
returns-in_default-clause-refused g c none =
    abandon_refused _ _ _ c.requires.ready c.admitted-admitted.ensures.run c.admitted-admitted.ensures.all c.args.comp c.in_default.ensures.none

pub returns-clause-made : goal.returns-clause-made
returns-clause-made g c made =
    abandoned_by _ _ _ c.requires.ready c.admitted-admitted.ensures.run c.admitted-admitted.ensures.all c.in-Some.at c.args.comp c.remove-turn.result c.in-Some.ensures.within c.in-Some.ensures.comp c.remove-turn.ensures.value
    _ _ _ refl c.remove-turn.ensures.items c.abandon.ensures.step

pub returns-clause-out : goal.returns-clause-out
returns-clause-out g c =
    (abandoned_by _ _ _ c.requires.ready c.admitted-admitted.ensures.run c.admitted-admitted.ensures.all c.in-Some.at c.args.comp c.remove-turn.result c.in-Some.ensures.within c.in-Some.ensures.comp c.remove-turn.ensures.value
    _ _ _ refl c.remove-turn.ensures.items c.abandon.ensures.step).follows.out

pub abandon-requires : goal.abandon-requires
abandon-requires g c = record { away = left_away _ _ _ c.requires.ready c.admitted-admitted.ensures.run c.admitted-admitted.ensures.all c.in-Some.at c.args.comp c.remove-turn.result c.in-Some.ensures.within c.in-Some.ensures.comp c.remove-turn.ensures.value _ refl }
