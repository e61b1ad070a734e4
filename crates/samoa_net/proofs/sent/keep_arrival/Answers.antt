use Rattle.std.proofs.Common.{◌∙◌, sym, arith}
use Rattle.samoa_net.specs.Gathered.{most_kept}
use Rattle.samoa_net.specs.Messages.{reaches}
use Rattle.samoa_net.proofs.Kept.{kept_full, kept_more, kept_other}
use Rattle.samoa_net.proofs.sent.keep_arrival.Goals as goal
use Rattle.samoa_net.proofs.sent.keep_arrival.Goals.{else-len-lt-MOST_KEPT-via-then-len-lt-MOST_KEPT+else-arrives, else-len-lt-MOST_KEPT-via-else-len-lt-MOST_KEPT}

pub returns-then-arrives-clause-kept : goal.returns-then-arrives-clause-kept
returns-then-arrives-clause-kept c =
    c.push_reserved.ensures.items
    ∙ kept_more most_kept (reaches c.args.script.now c.args.message.now c.args.arrival) c.args.sent.now.items c.args.arrival (omega arith) (sym c.arrives.ensures ∙ c.if-arrives.true)

pub returns-else-len-lt-MOST_KEPT-clause-kept : goal.returns-else-len-lt-MOST_KEPT-clause-kept
returns-else-len-lt-MOST_KEPT-clause-kept c =
    elim c.else-len-lt-MOST_KEPT.branch [
      | else-len-lt-MOST_KEPT-via-then-len-lt-MOST_KEPT+else-arrives w ↦
          kept_other most_kept (reaches c.args.script.now c.args.message.now c.args.arrival) c.args.sent.now.items c.args.arrival c.requires.few (sym w.arrives.ensures ∙ w.if-arrives.false)
      | else-len-lt-MOST_KEPT-via-else-len-lt-MOST_KEPT w ↦ kept_full most_kept c.args.sent.now.items _ c.requires.few (omega arith)
    ]
