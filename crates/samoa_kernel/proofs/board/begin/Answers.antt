use Rattle.std.proofs.Common.{ℕ, subst, sym}
use Rattle.samoa_model.specs.declared.record.Step.{Step}
use Rattle.samoa_invariant.specs.State.{IsSettled}
use Rattle.samoa_invariant.specs.Runs.{IsDue, Trace, play, state}
use Rattle.samoa_invariant.proofs.settling.Releasing.{enter-settled}
use Rattle.samoa_control.specs.Turns.{Going}
use Rattle.samoa_kernel.proofs.Answering.{at_point, begun_due}
use Rattle.samoa_kernel.proofs.board.begin.Goals as goal

pub returns-clause-due : goal.returns-clause-due
returns-clause-due g c =
    let t : Trace = c.args.core.now in
    let turn : Going = c.enter-turn.result in
    let enter = c.enter-turn.ensures in
    let begun = begun_due t c.enter-turn.new.self turn c.args.comp c.requires.due.0 c.admitted-found.ensures.run enter.comp enter.step enter.away c.requires.due.1 in
    subst (λ (k : ℕ). IsDue t (Step.Enter k turn.micro)) enter.comp begun.0

pub returns-clause-serial : goal.returns-clause-serial
returns-clause-serial g c =
    let t : Trace = c.args.core.now in
    let turn : Going = c.enter-turn.result in
    let enter = c.enter-turn.ensures in
    let begun = begun_due t c.enter-turn.new.self turn c.args.comp c.requires.due.0 c.admitted-found.ensures.run enter.comp enter.step enter.away c.requires.due.1 in
    at_point t turn c.admitted-found.ensures.run begun.0 begun.1

pub returns-clause-settled : goal.returns-clause-settled
returns-clause-settled g c =
    let t : Trace = c.args.core.now in
    let turn : Going = c.enter-turn.result in
    subst (λ (x : Trace). IsSettled (play x) (state x)) (sym c.enter-turn.ensures.step)
    (enter-settled t c.args.comp turn.micro c.admitted-found.ensures.run c.requires.settled)
