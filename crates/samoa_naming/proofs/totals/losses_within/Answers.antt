use Rattle.std.proofs.Common.{arith}
use Rattle.std.proofs.lemmas.Result.{err_from_is_err_and}
use Rattle.samoa_grammar.specs.Passes.{loss_total}
use Rattle.samoa_naming.specs.Groups.{losses_outside}
use Rattle.samoa_naming.proofs.Along.{passed_at, stopped_at}
use Rattle.samoa_naming.proofs.totals.losses_within.Goals as goal

pub returns-in_err-loss_within : goal.returns-in_err-loss_within
unfolding losses_outside
returns-in_err-loss_within c =
    let p = err_from_is_err_and c.from_residual.result c.from_residual.ensures.1 in
    rw (p.1, p.2) (stopped_at (loss_total c.args.draft.now.nodes) c.as_slice-loss-items.result.now c.args.draft.now.losses c.loop-loss.loss-index _ c.in_err-loss_within.field-0.0 c.as_slice-loss-items.ensures (omega arith) c.loop-loss.invariant c.in_err-loss_within.ensures)

pub loop-loss-preserved : goal.loop-loss-preserved
loop-loss-preserved c =
    passed_at (loss_total c.args.draft.now.nodes) c.as_slice-loss-items.result.now c.args.draft.now.losses c.loop-loss.loss-index _ c.as_slice-loss-items.ensures (omega arith) c.loop-loss.invariant c.in_ok-loss_within.ensures
