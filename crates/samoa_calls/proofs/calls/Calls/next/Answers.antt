use Rattle.std.proofs.Common.{◌≡◌, ap, ◌∙◌, arith}
use Rattle.samoa_serial.specs.declared.call.Due.{Due}
use Rattle.samoa_calls.proofs.Taken.{last_is}
use Rattle.samoa_calls.proofs.Nexts.{next-due}
use Rattle.samoa_calls.specs.Held.{Calling}
use Rattle.samoa_calls.proofs.calls.Calls.next.Goals as goal

pub returns-in-Next-clause-next : goal.returns-in-Next-clause-next
returns-in-Next-clause-next c =
    let left = c.is_idle.ensures.active c.if-is_idle.false in
    let active = ap (λ (x : Calling). x.active) c.self.view_is ∙ left.2 in
    let at : c.index-innermost.result.now ≡ left.0 = c.index-innermost.ensures ∙ last_is c.self.inside.active.items left.0 left.1 _ _ active (omega arith) in
    next-due c.args.self.now.comp c.index-innermost.result.now left.0 left.1 (Due.Next c.in-Next.moment) left.2 at c.in-Next.is

pub returns-in-Frame-clause-next : goal.returns-in-Frame-clause-next
returns-in-Frame-clause-next c =
    let left = c.is_idle.ensures.active c.if-is_idle.false in
    let active = ap (λ (x : Calling). x.active) c.self.view_is ∙ left.2 in
    let at : c.index-innermost.result.now ≡ left.0 = c.index-innermost.ensures ∙ last_is c.self.inside.active.items left.0 left.1 _ _ active (omega arith) in
    next-due c.args.self.now.comp c.index-innermost.result.now left.0 left.1 (Due.Frame c.in-Frame.field-0) left.2 at c.in-Frame.is

pub returns-in-Next-clause-active : goal.returns-in-Next-clause-active
returns-in-Next-clause-active c = λ some. c.is_idle.ensures.active c.if-is_idle.false
