use Rattle.std.proofs.Common.{codes, arith}
use Rattle.std.proofs.lemmas.Result.{err_from_is_err_and}
use Rattle.samoa_grammar.specs.declared.draft.CrashDraft.{CrashDraft}
use Rattle.samoa_grammar.specs.Passes.{node_fault}
use Rattle.samoa_naming.specs.Groups.{crashes_outside}
use Rattle.samoa_naming.proofs.Along.{passed_at, stopped_at}
use Rattle.samoa_naming.proofs.totals.crashes_within.Goals as goal

pub returns-in_err-node_within : goal.returns-in_err-node_within
unfolding crashes_outside
returns-in_err-node_within c =
    let p = err_from_is_err_and c.from_residual.result c.from_residual.ensures.1 in
    rw (p.1, p.2) (stopped_at (λ (x : CrashDraft). node_fault c.args.draft.now.nodes (codes "node") x.node) c.as_slice-crash-items.result.now c.args.draft.now.crashes c.loop-crash.crash-index _ c.in_err-node_within.field-0.0 c.as_slice-crash-items.ensures (omega arith) c.loop-crash.invariant c.in_err-node_within.ensures)

pub loop-crash-preserved : goal.loop-crash-preserved
loop-crash-preserved c =
    passed_at (λ (x : CrashDraft). node_fault c.args.draft.now.nodes (codes "node") x.node) c.as_slice-crash-items.result.now c.args.draft.now.crashes c.loop-crash.crash-index _ c.as_slice-crash-items.ensures (omega arith) c.loop-crash.invariant c.in_ok-node_within.ensures
