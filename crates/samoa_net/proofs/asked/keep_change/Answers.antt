use Rattle.std.proofs.Common.{◌∙◌, sym, arith}
use Rattle.samoa_serial.specs.Batch.{is_up}
use Rattle.samoa_net.specs.Gathered.{most_kept}
use Rattle.samoa_net.proofs.Kept.{kept_full, kept_more, kept_other}
use Rattle.samoa_net.proofs.asked.keep_change.Goals as goal
use Rattle.samoa_net.proofs.asked.keep_change.Goals.{else-len-lt-MOST_KEPT-via-then-len-lt-MOST_KEPT+else-is_up, else-len-lt-MOST_KEPT-via-else-len-lt-MOST_KEPT}

pub returns-in_ok-push-clause-kept : goal.returns-in_ok-push-clause-kept
returns-in_ok-push-clause-kept c =
    c.in_ok-push.ensures.items
    ∙ kept_more most_kept (is_up c.args.script.now c.args.change.tick c.args.change) c.args.asked.now.items c.args.change (omega arith) (sym c.is_up.ensures ∙ c.if-is_up.true)

pub returns-else-len-lt-MOST_KEPT-clause-kept : goal.returns-else-len-lt-MOST_KEPT-clause-kept
returns-else-len-lt-MOST_KEPT-clause-kept c =
    elim c.else-len-lt-MOST_KEPT.branch [
      | else-len-lt-MOST_KEPT-via-then-len-lt-MOST_KEPT+else-is_up w ↦
          kept_other most_kept (is_up c.args.script.now c.args.change.tick c.args.change) c.args.asked.now.items c.args.change c.requires (sym w.is_up.ensures ∙ w.if-is_up.false)
      | else-len-lt-MOST_KEPT-via-else-len-lt-MOST_KEPT w ↦ kept_full most_kept c.args.asked.now.items _ c.requires (omega arith)
    ]
