use Rattle.std.proofs.Common.{ap, arith}
use Rattle.samoa_turnstile.specs.Turning.{list_or}
use Rattle.turnstile_turns.proofs.Counting.{counts_on}
use Rattle.turnstile_turns.proofs.workers.turn.Goals as goal

pub put-requires-clause-grown : goal.put-requires-clause-grown
put-requires-clause-grown g c κs =
    let one_more = c.count_one-is_reached.ensures.count in
    let within = c.take-counter.result.within in
    counts_on _ _ c.take-counter.result.count _ (ap list_or c.take-counter.ensures.holds.1) (omega arith)
