use Rattle.std.proofs.Common.{◌<◌, ap, arith, length, List, subst}
use Rattle.samoa_serial.specs.declared.call.Active.{Active}
use Rattle.samoa_calls.proofs.Taken.{some_first, not_empty}
use Rattle.samoa_calls.specs.Held.{Calling}
use Rattle.samoa_calls.proofs.calls.Calls.is_idle.Goals as goal

pub returns-clause-active : goal.returns-clause-active
returns-clause-active c = λ is_false.
    let lt = not_empty c.self.inside.active.items _ _ (omega arith) c.is_empty.ensures is_false in
    some_first _ (subst (λ (xs : List Active). 0 < length xs) (ap (λ (x : Calling). x.active) c.self.view_is) lt)
