use Rattle.std.proofs.Common.{◌≡◌, ◌∙◌, ◌-◌, ap, sym, true}
use Rattle.samoa_invariant.specs.Runs.{state}
use Rattle.samoa_invariant.proofs.settling.Making.{due-open}
use Rattle.samoa_control.specs.Forms.{waits_for_rest}
use Rattle.samoa_control.proofs.Passes.{not-waiting}
use Rattle.samoa_control.proofs.control.Control.may_have_releases.Goals as goal

pub returns-else-not-has_ended : goal.returns-else-not-has_ended
returns-else-not-has_ended g c p due =
    let ended : (state c.args.self.now).ended (c.args.comp - 1) ≡ true = sym c.has_ended.ensures ∙ c.if-not-has_ended.false in
    absurd (due-open c.args.self.now c.args.comp p c.recall.ensures.run due ended)

pub returns-else-is_idle : goal.returns-else-is_idle
returns-else-is_idle g c p due =
    not-waiting c.args.self.now c.args.comp p c.is_idle.result c.waits_for_rest.result c.recall.ensures.run due c.is_idle.ensures c.if-is_idle.false
    (c.waits_for_rest.ensures ∙ ap waits_for_rest c.declaration.ensures.decl)
