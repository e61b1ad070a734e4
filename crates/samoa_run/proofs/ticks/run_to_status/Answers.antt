use Rattle.std.proofs.Common.{◌≡◌, false, inl, inr, true}
use Rattle.samoa_serial.specs.Ticks.{is_limited}
use Rattle.samoa_ticks.proofs.Parts.{at_ok}
use Rattle.samoa_ticks.specs.declared.ticks.Ended.{Ended}
use Rattle.samoa_run.proofs.Runs.{asked_part, asked_whole, at_err, at_ok_is, ended_part, ended_whole, some_part, stopped_with, unasked_whole}
use Rattle.samoa_run.proofs.ticks.run_to_status.Goals as goal

pub returns-in-Err-clause-run : goal.returns-in-Err-clause-run
returns-in-Err-clause-run g c =
    let part = at_err _ _ c.in-Err.is c.run_on_workers-core.ensures.part in
    ended_part c.args.script.now c.args.calls c.args.journal c.args.core.cells c.run_on_workers-core.result.0 _ _ _ (stopped_with c.in-Err.stop _ c.status_of.ensures)
    (some_part c.args.script.now c.args.calls c.args.journal c.run_on_workers-core.result.0.journal _ _ part) (inl part)

pub returns-in-Ok-clause-run : goal.returns-in-Ok-clause-run
returns-in-Ok-clause-run g c =
    let unasked : c.args.journal ≡ false = cc in
    ended_whole c.args.script.now c.args.calls c.args.journal c.args.core.cells c.run_on_workers-core.result.0 _ _ _ c.in-Ok.ended.limited (at_ok_is (λ (ended : Ended). ended.limited ≡ is_limited c.args.script.now) _ _ c.in-Ok.is c.run_on_workers-core.ensures.limited) c.status_of-in-Ok.ensures
    (unasked_whole c.args.script.now c.args.calls c.args.journal c.run_on_workers-core.result.0.journal _ _ unasked (at_ok _ _ c.in-Ok.is c.run_on_workers-core.ensures.all))
    (at_ok _ _ c.in-Ok.is c.run_on_workers-core.ensures.finished c.requires.most) (at_ok _ _ c.in-Ok.is c.run_on_workers-core.ensures.parts) (at_ok _ _ c.in-Ok.is c.run_on_workers-core.ensures.cells)

pub returns-in-Ok-write_journal-clause-run : goal.returns-in-Ok-write_journal-clause-run
returns-in-Ok-write_journal-clause-run g c =
    let asked : c.args.journal ≡ true = cc in
    ended_whole c.args.script.now c.args.calls c.args.journal c.args.core.cells c.run_on_workers-core.result.0 _ _ _ c.in-Ok-2.ended.limited (at_ok_is (λ (ended : Ended). ended.limited ≡ is_limited c.args.script.now) _ _ c.in-Ok-2.is c.run_on_workers-core.ensures.limited) c.status_of-in-Ok-write_journal.ensures
    (asked_whole c.args.script.now c.args.calls c.args.journal c.run_on_workers-core.result.0.journal _ _ _ _ asked c.journal.ensures (at_ok _ _ c.in-Ok-2.is c.run_on_workers-core.ensures.all) c.in-Ok-write_journal.ensures.all)
    (at_ok _ _ c.in-Ok-2.is c.run_on_workers-core.ensures.finished c.requires.most) (at_ok _ _ c.in-Ok-2.is c.run_on_workers-core.ensures.parts) (at_ok _ _ c.in-Ok-2.is c.run_on_workers-core.ensures.cells)

pub returns-in-Err-write_journal-clause-run : goal.returns-in-Err-write_journal-clause-run
returns-in-Err-write_journal-clause-run g c =
    let asked : c.args.journal ≡ true = cc in
    ended_part c.args.script.now c.args.calls c.args.journal c.args.core.cells c.run_on_workers-core.result.0 _ _ _ (stopped_with c.in-Err-write_journal.stop _ c.status_of-in-Err-write_journal.ensures)
    (asked_part c.args.script.now c.args.calls c.args.journal c.run_on_workers-core.result.0.journal _ _ _ _ asked c.journal.ensures (at_ok _ _ c.in-Ok-2.is c.run_on_workers-core.ensures.all) c.in-Err-write_journal.ensures.part)
    (inr (at_ok _ _ c.in-Ok-2.is c.run_on_workers-core.ensures.finished c.requires.most))
