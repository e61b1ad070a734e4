use Rattle.std.proofs.Common.{◌≤◌, length-take, arith}
use Rattle.samoa_ticks.proofs.Progress.{wrote_more}
use Rattle.samoa_ticks.proofs.writing.write_lines.Goals as goal

pub loop-rest-preserved : goal.loop-rest-preserved
loop-rest-preserved g c =
    let fits : c.in_ok-count.count ≤ c.line_len.result = omega (arith, c.in_ok-count.ensures.bound.1, length-take c.line_len.result c.loop-rest.rest.now) in
    (wrote_more _ _ _ _ _ c.in_ok-count.count c.line_len.result fits c.loop-rest.invariant.0 c.in_ok-count.ensures.bytes, omega (arith, c.loop-rest.invariant.1, c.write.ensures.cause.later))
