use Rattle.std.proofs.Common.{◌≡◌, Some, ap, ◌∙◌, arith}
use Rattle.samoa_turnstile.specs.Seats.{fixed_of}
use Rattle.turnstile_turns.proofs.Counting.{counted}
use Rattle.turnstile_turns.proofs.workers.count_turns.Goals as goal

pub returns : goal.returns
returns g c =
    let counter = c.close-counter.result in
    let last = c.run_all-last.ensures in
    let knows : fixed_of c.run_all-last.result ≡ Some c.args.goal = last.0.goal_is ∙ (c.in-Ok.ensures.fixed ∙ ap Some c.new.ensures.0) in
    let same : counter.goal ≡ c.args.goal = cc (c.close-counter.ensures.fixed, knows) in
    let within = counter.within in
    counted _ counter.count c.args.goal c.close-counter.ensures.grown (last.1 c.args.goal knows) (omega arith)
