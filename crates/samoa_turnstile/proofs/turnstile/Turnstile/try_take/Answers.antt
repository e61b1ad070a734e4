use Rattle.std.proofs.Common.{rules, ◌∷◌, Some, sym, ap, ◌∙◌}
use Rattle.atomic_table.specs.Table.{rest}
use Rattle.samoa_turnstile.proofs.Steps.{takes_allowed}
use Rattle.samoa_turnstile.proofs.turnstile.Turnstile.try_take.Goals as goal

pub compare_exchange-requires : goal.compare_exchange-requires
compare_exchange-requires g c =
    (search rules, search rules, takes_allowed g.V.Kept.fixed g.V.Kept.items g.V.Kept.is_open _ _ _ _ c.requires.idle.0 c.requires.idle.1 c.requires.idle.2)

pub exchange-requires : goal.exchange-requires
exchange-requires g c = let t = c.compare_exchange.ensures.2.0 c.if-compare_exchange-eq-FREE.true in
    (c.compare_exchange.ensures.0 ∙ c.requires.own, (Some t.0, ap (λ m. m.1) t.1 ∙ ap (λ m. (0, Some t.0) ∷ rest m.1) (sym t.1)))
