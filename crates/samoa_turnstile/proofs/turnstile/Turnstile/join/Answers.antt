use Rattle.std.proofs.Common.{rules, ap, arith}
use Rattle.samoa_turnstile.proofs.Steps.{joins_allowed, looks_allowed, joined_sees}
use Rattle.samoa_turnstile.proofs.turnstile.Turnstile.join.Goals as goal

pub join_seat-requires : goal.join_seat-requires
join_seat-requires g c = (
  search rules,
  search rules,
  search rules,
  search rules,
  joins_allowed g.V.Kept.fixed g.V.Kept.items g.V.Kept.is_open _ _ _ _ _ c.requires.idle.0.1 c.requires.idle.1.1 c.requires.hand c.requires.idle.0.2 c.requires.idle.1.2,
)

pub load-requires : goal.load-requires
load-requires g c =
    let more = ap (λ m. m.0.parts) c.join_seat.ensures.2 in
    let had = c.requires.idle.0.2 in
    (search rules, search rules, looks_allowed g.V.Kept.fixed g.V.Kept.items g.V.Kept.is_open _ _ _ _ (omega arith))

pub returns-clause-seen_before : goal.returns-clause-seen_before
returns-clause-seen_before g c =
    (joined_sees c.args.seat.now.me.0 c.args.other.me.0 c.join_seat.new.seat.me c.load.new.seat.me _ c.join_seat.ensures.2 c.load.ensures.2.0 c.load.ensures.2.1).0

pub returns-clause-seen_by_other : goal.returns-clause-seen_by_other
returns-clause-seen_by_other g c =
    (joined_sees c.args.seat.now.me.0 c.args.other.me.0 c.join_seat.new.seat.me c.load.new.seat.me _ c.join_seat.ensures.2 c.load.ensures.2.0 c.load.ensures.2.1).1
