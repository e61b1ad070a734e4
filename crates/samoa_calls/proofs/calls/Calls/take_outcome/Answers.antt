use Rattle.std.proofs.Common.{◌≢◌, refl, ap, sym, ◌∙◌}
use Rattle.samoa_serial.specs.World.{attempts_of}
use Rattle.samoa_serial.specs.Calls.{Computation}
use Rattle.samoa_bind.specs.Bound.{table_at}
use Rattle.samoa_calls.proofs.Taken.{woken_after, handed_is, not_done, take-done, take-spent}
use Rattle.samoa_calls.specs.Held.{Calling, handlers_of}
use Rattle.samoa_calls.proofs.calls.Calls.take_outcome.Goals as goal

pub returns-then-is_idle-clause-taken : goal.returns-then-is_idle-clause-taken
returns-then-is_idle-clause-taken c =
    let a = c.requires.active.0 in
    let rest = c.requires.active.1 in
    let e = c.requires.active.2 in
    let attempts = attempts_of c.args.decl.now (table_at c.args.tables.now c.args.node c.args.epoch) in
    let finished = c.finish.ensures.handed a rest e in
    let done = take-done attempts c.args.self.now.comp a rest c.args.outcome c.in-Done.reply e c.in-Done.is in
    c.wake.ensures.woken ∙ (woken_after attempts _ _ rest _ c.finish.new.self.comp finished (c.is_idle.ensures.idle c.if-is_idle.true) ∙ done)

pub returns-else-is_idle-clause-taken : goal.returns-else-is_idle-clause-taken
returns-else-is_idle-clause-taken c =
    let a = c.requires.active.0 in
    let rest = c.requires.active.1 in
    let e = c.requires.active.2 in
    let attempts = attempts_of c.args.decl.now (table_at c.args.tables.now c.args.node c.args.epoch) in
    let done = take-done attempts c.args.self.now.comp a rest c.args.outcome c.in-Done.reply e c.in-Done.is in
    let left = c.is_idle.ensures.active c.if-is_idle.false in
    handed_is attempts _ _ rest _ c.finish.new.self.comp left.0 left.1 (c.finish.ensures.handed a rest e) left.2 ∙ done

pub spend-requires-clause-not_done : goal.spend-requires-clause-not_done
spend-requires-clause-not_done c = not_done c.args.outcome c.in_default.not-Done

pub returns-else-self-eq0 : goal.returns-else-self-eq0
returns-else-self-eq0 c =
    let a = c.requires.active.0 in
    let rest = c.requires.active.1 in
    let e = c.requires.active.2 in
    let value = c.args.self.now.comp in
    let attempts = attempts_of c.args.decl.now (table_at c.args.tables.now c.args.node c.args.epoch) in
    let goes_on = not_done c.args.outcome c.in_default.not-Done in
    let some_left : value.units ≢ 0 = λ none. c.if-self-eq0.false (ap (λ (x : Calling). x.units) c.self.view_is ∙ none) in
    record {
      taken = c.spend.ensures.effect a rest e ∙ take-spent attempts value a rest a.call c.args.outcome e refl (goes_on a.call) some_left;
      listed = c.spend.ensures.listed;
      ended = λ b bs f. sym (goes_on b.call);
    }

pub returns-then-self-eq0-clause-listed : goal.returns-then-self-eq0-clause-listed
returns-then-self-eq0-clause-listed c =
    let table = table_at c.args.tables.now c.args.node c.args.epoch in
    c.cut.ensures.waiting_handlers
    ∙ ap (λ (x : Computation). handlers_of table x.waiting) (sym (c.cut.ensures.cut c.requires.active.0 c.requires.active.1 c.requires.active.2))
