use Rattle.std.proofs.Common.{◌≡◌, ◌-◌, ℕ, sym, subst, ◌∙◌, true}
use Rattle.samoa_invariant.specs.State as model
use Rattle.samoa_invariant.specs.Runs.{play, state}
use Rattle.samoa_control.proofs.Asked.{next-at, next-once, not-next, out-at, out-is}
use Rattle.samoa_control.proofs.control.Control.is_out.Goals as goal

pub returns-in-None : goal.returns-in-None
returns-in-None g c = (
  (λ no. cc),
  (λ can. absurd (not-next c.args.self.now (c.args.comp - 1) can.slot (sym c.next.ensures.next ∙ c.in-None.is) (out-at c.args.self.now (c.args.comp - 1) can.slot c.recall.ensures.run can.out).next)),
)

pub returns-then-has_turn : goal.returns-then-has_turn
returns-then-has_turn g c =
    out-is c.args.self.now (c.args.comp - 1) c.in-Some.micro.0 c.is_home_of.result c.recall.ensures.run
    (next-at c.args.self.now (c.args.comp - 1) (c.in-Some.micro, c.in-Some.field-0-1) (sym c.next.ensures.next ∙ c.in-Some.is))
    (c.has_turn.ensures.0 c.if-has_turn.true) c.is_home_of.ensures

pub returns-else-has_turn : goal.returns-else-has_turn
returns-else-has_turn g c = (
  (λ yes. absurd (let no = c.if-has_turn.false in cc)),
  (λ can. turned can),
)
  where
    turned : model.CanLeave (play c.args.self.now) (state c.args.self.now) (c.args.comp - 1) → c.has_turn.result ≡ true
    turned can =
        let at = out-at c.args.self.now (c.args.comp - 1) can.slot c.recall.ensures.run can.out in
        let next = next-at c.args.self.now (c.args.comp - 1) (c.in-Some.micro, c.in-Some.field-0-1) (sym c.next.ensures.next ∙ c.in-Some.is) in
        c.has_turn.ensures.1 (subst (λ (p : ℕ). model.HasTurn (play c.args.self.now) (state c.args.self.now) (c.args.comp - 1) p)
        (next-once c.args.self.now (c.args.comp - 1) can.slot c.in-Some.micro.0 at.next next) at.turn)
