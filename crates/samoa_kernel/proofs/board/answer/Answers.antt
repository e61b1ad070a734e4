use Rattle.std.proofs.Common.{◌≡◌, ◌∙◌, ℕ, subst, sym}
use Rattle.samoa_model.specs.declared.record.Step.{Step}
use Rattle.samoa_invariant.specs.Picking.{IsFirstToEnter}
use Rattle.samoa_invariant.specs.State.{AllEnded}
use Rattle.samoa_invariant.specs.Runs.{IsDue, Trace, state}
use Rattle.samoa_invariant.proofs.representation.Standing.{stopped_is}
use Rattle.samoa_control.specs.Turns.{Going}
use Rattle.samoa_kernel.proofs.Answering.{busy, not_all}
use Rattle.samoa_kernel.proofs.board.answer.Goals as goal

pub returns-then-stopped-clause-right : goal.returns-then-stopped-clause-right
returns-then-stopped-clause-right g c = record {
  unended = not_all c.all_ended.result (AllEnded (state c.args.core.now)) c.all_ended.ensures c.if-all_ended.false;
  stopped = sym (stopped_is c.args.core.now) ∙ (sym c.stopped.ensures ∙ c.if-stopped.true);
}

pub returns-in-Some-clause-right : goal.returns-in-Some-clause-right
returns-in-Some-clause-right g c =
    let t : Trace = c.args.core.now in
    let turn : Going = c.begin.result in
    let comp : c.in-Some.comp ≡ turn.comp = sym c.begin.ensures.comp in record {
      unended = not_all c.all_ended.result (AllEnded (state t)) c.all_ended.ensures c.if-all_ended.false;
      running = sym (stopped_is t) ∙ (sym c.stopped.ensures ∙ c.if-stopped.false);
      picked = subst (λ (k : ℕ). IsFirstToEnter t k) comp (record { micro = c.in-Some.ensures.due.0; due = c.in-Some.ensures.due.1; least = c.in-Some.ensures.least });
      due = subst (λ (k : ℕ). IsDue t (Step.Enter k turn.micro)) comp c.begin.ensures.due;
      away = c.begin.ensures.away;
      serial = c.begin.ensures.serial;
    }

pub returns-in-None-clause-right : goal.returns-in-None-clause-right
returns-in-None-clause-right g c =
    let t : Trace = c.args.core.now in
    let found = c.admitted-found.ensures in
    busy t found.run found.in_range found.known c.away.result (not_all c.all_ended.result (AllEnded (state t)) c.all_ended.ensures c.if-all_ended.false) (sym c.stopped.ensures ∙ c.if-stopped.false) c.requires.settled c.in-None.ensures.none c.away.ensures
