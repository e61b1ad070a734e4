use Rattle.std.proofs.Common.{◌≡◌, ◌∷◌, ap, ◌∙◌, arith}
use Rattle.samoa_serial.specs.declared.call.Active.{Active}
use Rattle.samoa_serial.specs.Calls.{at_frame}
use Rattle.samoa_calls.proofs.Taken.{last_is, last_set}
use Rattle.samoa_calls.proofs.stack.wait.Goals as goal

pub returns-clause-waits : goal.returns-clause-waits
returns-clause-waits c = λ a rest e.
    let at : c.index_mut.result.now ≡ a = c.index_mut.ensures.value ∙ last_is c.args.active.now.items a rest _ _ e (omega arith) in
    last_set c.args.active.now.items a (at_frame c.index_mut.result.now.call c.args.frame) rest _ e (omega arith)
    ∙ ap (λ (x : Active). at_frame x.call c.args.frame ∷ rest) at
