use Rattle.std.proofs.Common.{◌≡◌, ◌∷◌, ap₂, ◌∙◌, arith}
use Rattle.samoa_model.specs.declared.handler.Moment.{Moment}
use Rattle.samoa_serial.specs.declared.call.Active.{Active}
use Rattle.samoa_serial.specs.Calls.{at_moment}
use Rattle.samoa_calls.proofs.Taken.{last_is, last_set}
use Rattle.samoa_calls.proofs.stack.go_on.Goals as goal

pub returns-clause-goes_on : goal.returns-clause-goes_on
returns-clause-goes_on c = λ a rest e.
    let read : c.index.result.now ≡ a = c.index.ensures ∙ last_is c.args.active.now.items a rest _ _ e (omega arith) in
    let at : c.index_mut.result.now ≡ a = c.index_mut.ensures.value ∙ last_is c.args.active.now.items a rest _ _ e (omega arith) in
    last_set c.args.active.now.items a (at_moment c.index_mut.result.now.call (Moment.Resume c.index.result.now.call.handler.index c.args.frame c.args.reply)) rest _ e (omega arith)
    ∙ ap₂ (λ (x y : Active). at_moment x.call (Moment.Resume y.call.handler.index c.args.frame c.args.reply) ∷ rest) at read
