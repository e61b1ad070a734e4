use Rattle.std.proofs.Common.{◌≡◌, ◌∙◌}
use Rattle.samoa_invariant.proofs.representation.Scripted.{get_is}
use Rattle.samoa_control.specs.declared.running.Running.{Running}
use Rattle.samoa_control.proofs.running.take_outcome_at.Goals as goal

pub returns-clause-lv : goal.returns-clause-lv
returns-clause-lv c r a rest is active =
    let e : c.index_mut.result.now ≡ r = c.index_mut.ensures.value ∙ get_is {A = Running} c.args.running.now.items c.args.at r c.index_mut.result.now is in
    rw (← e) (c.take_outcome.ensures.lv a rest (rw e active))
