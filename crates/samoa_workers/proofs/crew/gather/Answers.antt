use Rattle.std.proofs.Common.{rules, arith, ℕ, ◌-◌, ◌+◌, ◌<◌, ◌≡◌, refl, vec_len, subst, sym}
use Rattle.samoa_workers.specs.Seats.{IsReady}
use Rattle.samoa_workers.specs.Members.{IsMember}
use Rattle.samoa_turnstile.proofs.Taken.{popped}
use Rattle.samoa_workers.proofs.Shares.{joined_member, joined_ready}
use Rattle.samoa_workers.proofs.crew.gather.Goals as goal

pub loop-seat-init : goal.loop-seat-init
loop-seat-init g c =
    let t = popped (IsReady c.args.board.now) _ _ _ _ c.pop.ensures.items c.unwrap-last.ensures c.requires.ready in record {
      ready = t.0;
      last = t.1;
      fewer = search rules;
      members = λ kept start all each.
          let u = popped (IsMember c.args.board.now kept start all 1) _ _ _ _ c.pop.ensures.items c.unwrap-last.ensures each in
          let one : vec_len c.args.seats - vec_len c.pop.new.self ≡ 1 = search rules in
          (subst (λ n. IsMember c.args.board.now kept start all n c.unwrap-last.result) (sym one) u.1, u.0);
    }

pub loop-seat-preserved : goal.loop-seat-preserved
loop-seat-preserved g c =
    let inv = c.loop-seat.invariant in
    let board = c.args.board.now in
    let join = c.join.ensures in
    let items = c.pop-in-loop-seat.ensures.items in
    let t = popped (IsReady board) _ _ _ _ items c.in-Some.is inv.ready in
    let fewer : vec_len c.pop-in-loop-seat.new.self < vec_len c.args.seats = search rules in record {
      ready = t.0;
      last = joined_ready board c.loop-seat.last c.join.new.seat join.own join.idle join.hand inv.last;
      fewer = fewer;
      members = λ kept start all each.
          let m = inv.members kept start all each in
          let u = popped (IsMember board kept start all 1) _ _ _ _ items c.in-Some.is m.1 in
          let up : vec_len c.args.seats - vec_len c.pop-in-loop-seat.new.self ≡ (vec_len c.args.seats - vec_len c.loop-seat.seats) + 1 = search rules in
          (joined_member board kept start all _ _ c.loop-seat.last c.in-Some.seat c.join.new.seat join.own join.idle join.hand join.parts join.seats join.fixed join.seen_before up m.0 u.1, u.0);
    }
