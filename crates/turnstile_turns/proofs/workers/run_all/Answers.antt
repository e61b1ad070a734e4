use Rattle.std.proofs.Common.{rules, All, subst, sym, ◌≡◌}
use Rattle.samoa_turnstile.specs.Seats.{fixed_of}
use Rattle.turnstile_turns.specs.Workers.{HasReached, IsMember}
use Rattle.samoa_turnstile.proofs.Taken.{written}
use Rattle.turnstile_turns.proofs.Gathering.{worked_members}
use Rattle.turnstile_turns.proofs.workers.run_all.Goals as goal

pub returns : goal.returns
returns g c =
    let now = c.args.turnstile.now in
    let w = c.args.workers in
    let goal = fixed_of c.args.first in
    let before = subst (All (IsMember now w 1 goal)) (sym c.as_mut_slice.ensures.value) c.deal.ensures.members in
    let after = worked_members now w 1 goal c.as_mut_slice.result.now c.work_all.new.seats (search rules) c.work_all.ensures before in
    let count : c.deal.new.seats.len ≡ w = c.deal.ensures.count in
    let wrote = written c.deal.new.seats.items c.work_all.new.seats c.deal.new.seats.len (search rules) (search rules) in
    let all = subst (All (λ s. IsMember now w 1 goal s × HasReached s)) (sym wrote) after in
    let t = c.gather.ensures w goal all in
    (subst (λ n. IsMember now w n goal c.gather.result) count t.0, t.1)
