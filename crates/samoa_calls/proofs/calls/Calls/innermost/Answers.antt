use Rattle.std.proofs.Common.{ap, ◌∙◌, arith}
use Rattle.samoa_serial.specs.declared.call.Active.{Active}
use Rattle.samoa_calls.proofs.Taken.{last_is}
use Rattle.samoa_calls.specs.Held.{Calling}
use Rattle.samoa_calls.proofs.calls.Calls.innermost.Goals as goal

pub returns : goal.returns
returns c = λ a rest e.
    ap (λ (x : Active). x.call)
    (c.index.ensures ∙ last_is c.self.inside.active.items a rest _ _ (ap (λ (x : Calling). x.active) c.self.view_is ∙ e) (omega arith))
