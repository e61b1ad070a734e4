use Rattle.std.proofs.Common.{sym, subst}
use Rattle.samoa_serial.specs.World.{attempts_of}
use Rattle.samoa_calls.specs.Handed.{IsBetween}
use Rattle.samoa_calls.proofs.Between.{resolved_with, start_between, table_with}
use Rattle.samoa_calls.proofs.comp.Comp.start.Goals as goal

pub invariant_of-self : goal.invariant_of-self
invariant_of-self c =
    let table = table_with c.args.event.0 c.args.handlers.now in
    subst IsBetween (sym (c.start.ensures.started table (resolved_with c.args.event c.args.handlers.now)))
    (start_between (attempts_of c.args.decl.now table) _ c.args.event c.args.arg)
