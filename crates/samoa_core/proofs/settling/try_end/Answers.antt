use Rattle.samoa_core.proofs.Past.{end-over, ended}
use Rattle.samoa_core.proofs.settling.try_end.Goals as goal

pub returns-then-can_end-clause-ends : goal.returns-then-can_end-clause-ends
returns-then-can_end-clause-ends g c before run made =
    ended before c.args.control.now _ c.args.comp run made (c.can_end.ensures.0 c.if-can_end.true) c.end.ensures.step

pub returns-then-can_end-clause-over : goal.returns-then-can_end-clause-over
returns-then-can_end-clause-over g c due = end-over c.args.control.now _ c.args.comp c.recall.ensures.run c.end.ensures.step due
