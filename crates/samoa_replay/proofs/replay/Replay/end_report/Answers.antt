use Rattle.std.proofs.Common.{◌≡◌, ◌∙◌, ◌++◌, false, subst, sym}
use Rattle.std.proofs.lemmas.Bool.{false≢true}
use Rattle.samoa_model.specs.declared.script.Script.{Script}
use Rattle.samoa_serial.specs.LimitedReport.{report_in_full}
use Rattle.samoa_journal.specs.Finished.{IsComplete}
use Rattle.samoa_ledger.specs.Written.{closing_text}
use Rattle.samoa_replay.specs.Faults.{IsUnfinished}
use Rattle.samoa_replay.proofs.Replaying.{home_of, over_complete, over_text, unfinished}
use Rattle.samoa_replay.proofs.replay.Replay.end_report.Goals.{then-not-is_over-via-then-not-is_over, then-not-is_over-via-else-not-is_over+then-self}
use Rattle.samoa_replay.proofs.replay.Replay.end_report.Goals as goal

pub returns-then-not-is_over-clause-fault : goal.returns-then-not-is_over-clause-fault
returns-then-not-is_over-clause-fault g c =
    subst (λ (s : Script). IsUnfinished s c.args.self.now.core.journal c.least_unended-comp.result) c.requires.of_script
    (unfinished c.args.self.now.core c.args.self.now.course c.args.self.now.turns.items c.requires.ready c.admitted-admitted.ensures.all c.least_unended-comp.result
    (elim c.then-not-is_over.branch [ then-not-is_over-via-then-not-is_over w ↦ λ over. absurd (false≢true (sym w.if-not-is_over.true ∙ c.is_over.ensures.1 over)) | then-not-is_over-via-else-not-is_over+then-self w ↦ λ over. w.if-self.true ])
    c.least_unended-comp.ensures)

pub finish-requires-clause-home : goal.finish-requires-clause-home
finish-requires-clause-home g c = home_of c.args.self.now.core c.admitted-admitted.ensures.run (c.is_over.ensures.0 c.if-not-is_over.false).all

pub returns-in-Ok-clause-complete : goal.returns-in-Ok-clause-complete
returns-in-Ok-clause-complete g c =
    subst (λ (s : Script). IsComplete s c.args.self.now.core.journal) c.requires.of_script
    (over_complete _ _ _ c.requires.ready c.admitted-admitted.ensures.all (c.is_over.ensures.0 c.if-not-is_over.false) c.if-self.false)

pub returns-in-Ok-clause-report : goal.returns-in-Ok-clause-report
returns-in-Ok-clause-report g c =
    c.in-Ok.ensures
    ∙ subst (λ (s : Script). c.args.self.now.course.text.items ++ closing_text s c.args.self.now.core.exts ≡ report_in_full s false) c.requires.of_script
    (over_text c.args.self.now.core c.args.self.now.course c.args.self.now.turns.items c.requires.ready c.admitted-admitted.ensures.all (c.is_over.ensures.0 c.if-not-is_over.false) c.if-self.false)
