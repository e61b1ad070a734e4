use Rattle.std.proofs.Common.{◌∙◌, inl, inr, refl, subst}
use Rattle.samoa_micro.proofs.Enough.{covers-valid}
use Rattle.samoa_replay.specs.Faults.{IsFaultOf}
use Rattle.samoa_replay.specs.declared.fault.ReplayFault.TheVariants.{NotEnabled, Trailing, Unfinished}
use Rattle.samoa_run.specs.Replays.{complete, faulty}
use Rattle.samoa_run.specs.declared.status.Status.TheVariants.{Done, NotReplayed}
use Rattle.samoa_run.proofs.Replays.{gives, narrow}
use Rattle.samoa_run.proofs.replaying.replay_steps.Goals as goal

pub check-requires-clause-covers : goal.check-requires-clause-covers
check-requires-clause-covers g c = covers-valid c.args.script.now c.args.stock c.requires.valid c.requires.stock

pub returns-in-Ok : goal.returns-in-Ok
returns-in-Ok g c =
    gives Done _ c.write_text.result (inl refl) (complete c.in-Ok.ensures.complete refl (c.deref.ensures.value ∙ c.in-Ok.ensures.report))
    c.write_text.ensures.written (narrow c.write_text.ensures.statuses) c.write_text.ensures.sink_failed

pub returns-in-Err-NotEnabled : goal.returns-in-Err-NotEnabled
returns-in-Err-NotEnabled g c =
    let is : IsFaultOf c.args.script.now c.args.steps.now (NotEnabled c.in-Err-NotEnabled.line) =
    subst (IsFaultOf c.args.script.now c.args.steps.now) c.in-Err-NotEnabled.field-0-is c.in-Err-NotEnabled.ensures.fault in
    gives NotReplayed _ c.refuse_journal.result (inr (inr refl)) (faulty (NotEnabled c.in-Err-NotEnabled.line) is (λ e. absurd (cc)) refl refl)
    c.refuse_journal.ensures.written c.refuse_journal.ensures.statuses c.refuse_journal.ensures.sink_failed

pub returns-in-Err-Unfinished : goal.returns-in-Err-Unfinished
returns-in-Err-Unfinished g c =
    let is : IsFaultOf c.args.script.now c.args.steps.now (Unfinished c.in-Err-Unfinished.comp) =
    subst (IsFaultOf c.args.script.now c.args.steps.now) c.in-Err-Unfinished.field-0-is c.in-Err-Unfinished.ensures.fault in
    gives NotReplayed _ c.refuse_journal-in-Err-Unfinished.result (inr (inr refl)) (faulty (Unfinished c.in-Err-Unfinished.comp) is (λ e. absurd (cc)) refl refl)
    c.refuse_journal-in-Err-Unfinished.ensures.written c.refuse_journal-in-Err-Unfinished.ensures.statuses c.refuse_journal-in-Err-Unfinished.ensures.sink_failed

pub returns-in-Err-Trailing : goal.returns-in-Err-Trailing
returns-in-Err-Trailing g c =
    let is : IsFaultOf c.args.script.now c.args.steps.now (Trailing c.in-Err-Trailing.line) =
    subst (IsFaultOf c.args.script.now c.args.steps.now) c.in-Err-Trailing.field-0-is c.in-Err-Trailing.ensures.fault in
    gives NotReplayed _ c.refuse_journal-in-Err-Trailing.result (inr (inr refl)) (faulty (Trailing c.in-Err-Trailing.line) is (λ e. absurd (cc)) refl refl)
    c.refuse_journal-in-Err-Trailing.ensures.written c.refuse_journal-in-Err-Trailing.ensures.statuses c.refuse_journal-in-Err-Trailing.ensures.sink_failed
