use Rattle.std.proofs.Common.{rules}
use Rattle.samoa_turnstile.proofs.Steps.{puts_allowed, carries}
use Rattle.samoa_turnstile.proofs.turnstile.Turnstile.put.Goals as goal

pub store-requires : goal.store-requires
store-requires g c = (
  search rules,
  search rules,
  puts_allowed g.V.Kept.fixed g.V.Kept.items g.V.Kept.is_open _ g.V.Kept.open_below g.V.Kept.open_before _ _ _ c.args.seat.now.me.0 c.args.value c.args.self.now.sized.1
      (carries _ _ _ _ _ c.exchange-was.ensures.3 c.requires.holds.1.0) c.requires.holds.1.2 c.requires.holds.0 c.requires.holds.1.1 c.requires.fixed c.requires.grown,
)
