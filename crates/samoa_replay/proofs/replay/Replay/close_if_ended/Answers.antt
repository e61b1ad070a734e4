use Rattle.samoa_replay.proofs.Replaying.{closed_out, ready_closed_of}
use Rattle.samoa_replay.proofs.replay.Replay.close_if_ended.Goals as goal

pub returns-in_err-refill-clause-out : goal.returns-in_err-refill-clause-out
returns-in_err-refill-clause-out g c =
    closed_out _ _ _ c.admitted-ended.ensures.run c.admitted-closed.ensures.run (c.may_close.ensures.0 c.if-not-may_close.false) c.in_ok-close.ensures.core c.requires.follows.out

pub returns-clause-ready : goal.returns-clause-ready
returns-clause-ready g c =
    ready_closed_of c.args.script.now _ _ _ _ _ c.requires.of_script c.requires.follows c.admitted-ended.ensures.run c.admitted-closed.ensures.run (c.may_close.ensures.0 c.if-not-may_close.false)
    c.in_ok-close.ensures.core c.in_ok-close.ensures.none_held c.in_ok-refill.ensures.on_course c.in_ok-refill.ensures.written c.in_ok-refill.ensures.some_or_end

pub returns-clause-out : goal.returns-clause-out
returns-clause-out g c =
    closed_out _ _ _ c.admitted-ended.ensures.run c.admitted-closed.ensures.run (c.may_close.ensures.0 c.if-not-may_close.false) c.in_ok-close.ensures.core c.requires.follows.out
