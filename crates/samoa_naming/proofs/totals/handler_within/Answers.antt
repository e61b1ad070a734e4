use Rattle.std.proofs.Common.{arith}
use Rattle.std.proofs.lemmas.Result.{err_from_is_err_and}
use Rattle.samoa_grammar.specs.Passes.{instr_fault}
use Rattle.samoa_naming.specs.Groups.{handler_outside}
use Rattle.samoa_naming.proofs.Along.{passed_at, stopped_at}
use Rattle.samoa_naming.proofs.totals.handler_within.Goals as goal

pub returns-in_err-instr_within : goal.returns-in_err-instr_within
unfolding handler_outside
returns-in_err-instr_within c =
    let p = err_from_is_err_and c.from_residual.result c.from_residual.ensures.1 in
    rw (p.1, p.2) (stopped_at (instr_fault c.args.micro.now) c.as_slice-instr-items.result.now c.args.handler.now.code c.loop-instr.instr-index _ c.in_err-instr_within.field-0.0 c.as_slice-instr-items.ensures (omega arith) c.loop-instr.invariant c.in_err-instr_within.ensures)

pub loop-instr-preserved : goal.loop-instr-preserved
loop-instr-preserved c =
    passed_at (instr_fault c.args.micro.now) c.as_slice-instr-items.result.now c.args.handler.now.code c.loop-instr.instr-index _ c.as_slice-instr-items.ensures (omega arith) c.loop-instr.invariant c.in_ok-instr_within.ensures
