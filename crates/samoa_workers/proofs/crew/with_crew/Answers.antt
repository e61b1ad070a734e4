use Rattle.std.proofs.Common.{◌≡◌, ◌∙◌, subst, sym}
use Rattle.samoa_invariant.specs.State.{NothingOut}
use Rattle.samoa_invariant.specs.Runs.{Trace, state}
use Rattle.samoa_control.specs.Later.{IsLater}
use Rattle.samoa_workers.proofs.Shares.{later_same, later_than}
use Rattle.samoa_workers.proofs.crew.with_crew.Goals as goal

pub returns-in-Ok-new-clause-later : goal.returns-in-Ok-new-clause-later
returns-in-Ok-new-clause-later g c =
    later_than c.args.core c.by_crew.result c.in-Ok-new.first c.admitted-before.ensures.run c.in-Ok-new.ensures.shows c.by_crew.ensures.goes_on

pub returns-in-Err-clause-home : goal.returns-in-Err-clause-home
returns-in-Err-clause-home g c =
    let same : c.in-Err.core ≡ c.args.core = c.in-Err.ensures.err in
    subst (λ (x : Trace). NothingOut (state x)) (sym same) c.requires.home

pub returns-in-Err-clause-later : goal.returns-in-Err-clause-later
returns-in-Err-clause-later g c =
    let same : c.in-Err.core ≡ c.args.core = c.in-Err.ensures.err in
    subst (λ (x : Trace). IsLater c.args.core x) (sym same) (later_same c.args.core)
