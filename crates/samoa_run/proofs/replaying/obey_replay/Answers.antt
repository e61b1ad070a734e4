use Rattle.std.proofs.Common.{◌∙◌, arith, sym}
use Rattle.samoa_run.proofs.Replays.{long_replayed, text_replayed}
use Rattle.samoa_run.proofs.Served.{no_longer, read_all}
use Rattle.samoa_run.proofs.replaying.obey_replay.Goals as goal

pub returns-then-len-gt-REPLAY_LIMIT : goal.returns-then-len-gt-REPLAY_LIMIT
returns-then-len-gt-REPLAY_LIMIT g c =
    long_replayed _ c.refuse.result
    (λ input left. omega (arith, c.if-len-gt-REPLAY_LIMIT.true, c.len.ensures, no_longer _ _ input c.in-Ok.bytes.items left c.in-Ok.ensures.read))
    c.refuse.ensures.written c.refuse.ensures.statuses c.refuse.ensures.sink_failed

pub returns : goal.returns
returns g c =
    text_replayed _ c.deref.result.now c.replay_text.result
    (λ input left. read_all 16777216 _ _ input c.in-Ok.bytes.items left c.in-Ok.ensures.read c.in-Ok.ensures.whole (omega (arith, c.if-len-gt-REPLAY_LIMIT.false, c.len.ensures)) ∙ sym c.deref.ensures.value)
    (c.in-Ok.ensures.whole (omega (arith, c.if-len-gt-REPLAY_LIMIT.false, c.len.ensures)))
    c.replay_text.ensures
