use Rattle.std.proofs.Common.{rules, ◌-◌, ◌+◌, ◌≡◌, vec_len, subst}
use Rattle.turnstile_turns.specs.Workers.{IsReady, HasReached, IsMember}
use Rattle.samoa_turnstile.proofs.Taken.{popped}
use Rattle.turnstile_turns.proofs.Gathering.{joined_ready, joined_member}
use Rattle.turnstile_turns.proofs.workers.gather.Goals as goal

pub loop-seat-preserved : goal.loop-seat-preserved
loop-seat-preserved c =
    let inv = c.loop-seat.invariant in
    let now = c.args.turnstile.now in
    let items = c.pop-in-loop-seat.ensures.items in
    let joined = c.join.ensures in
    let t = popped (IsReady now) _ _ _ _ items c.in-Some.is inv.ready in record {
      ready = t.0;
      last = joined_ready now c.loop-seat.last c.in-Some.seat c.join.new.seat joined.own joined.idle joined.hand joined.fixed joined.seats inv.last;
      fewer = search rules;
      members = λ workers goal all.
          let m = inv.members workers goal all in
          let u = popped (λ s. IsMember now workers 1 goal s × HasReached s) _ _ _ _ items c.in-Some.is m.1 in
          let up : vec_len c.args.seats - vec_len c.pop-in-loop-seat.new.self ≡ (vec_len c.args.seats - vec_len c.loop-seat.seats) + 1 = search rules in
          (joined_member now c.loop-seat.last c.in-Some.seat c.join.new.seat joined.own joined.idle joined.hand joined.fixed joined.seats joined.parts joined.seen_before workers _ _ goal up m.0 u.1.0, u.0);
    }

pub returns : goal.returns
returns c = λ workers goal all.
    let m = (c.loop-seat.invariant.members workers goal all).0 in
    let none_left : vec_len c.args.seats - vec_len c.loop-seat.seats ≡ vec_len c.args.seats = search rules in
    (subst (λ n. IsMember c.args.turnstile.now workers n goal c.loop-seat.last) none_left m.0, m.1)
