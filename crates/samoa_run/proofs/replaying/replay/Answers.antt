use Rattle.std.proofs.Common.{◌∙◌, All, List, ℕ, codes, ap, inr, refl, subst, sym}
use Rattle.samoa_model.specs.declared.record.Step.{Step}
use Rattle.samoa_report.specs.BadLine.{Fails, IsBadLine}
use Rattle.samoa_report.specs.StepFields.{FitsStep}
use Rattle.samoa_report.specs.Steps.{steps_text}
use Rattle.samoa_run.specs.Replays.{IsDueForJournal, IsJournalOf, bad_line, in_lines, replay_line}
use Rattle.samoa_run.specs.declared.status.Status.TheVariants.{NotReplayed}
use Rattle.samoa_run.specs.Statuses.{number}
use Rattle.samoa_run.proofs.Replays.{as_few, gives, gives_more}
use Rattle.samoa_run.proofs.replaying.replay.Goals as goal

pub replay_steps-requires-clause-few : goal.replay_steps-requires-clause-few
replay_steps-requires-clause-few g c = as_few c.args.journal.now c.deref.result.now 4294967296 (ap steps_text c.deref.ensures.value ∙ c.in-Ok.ensures.steps) c.requires.few

pub returns-in-Ok : goal.returns-in-Ok
returns-in-Ok g c =
    let lines : IsJournalOf c.args.journal.now c.deref.result.now = record {
      fit = subst (λ (xs : List Step). All FitsStep xs) (sym c.deref.ensures.value) c.in-Ok.ensures.fit;
      is = sym (ap steps_text c.deref.ensures.value ∙ c.in-Ok.ensures.steps);
    } in
    gives_more (λ due text is. in_lines c.deref.result.now lines is) c.replay_steps.ensures

pub returns-in-Err-BadLine : goal.returns-in-Err-BadLine
returns-in-Err-BadLine g c =
    let bad : IsBadLine c.args.journal.now c.in-Err-BadLine.line = subst (Fails c.args.journal.now) c.in-Err-BadLine.field-0-is c.in-Err-BadLine.ensures.fault in
    let due : IsDueForJournal c.args.script.now c.args.journal.now (number NotReplayed) (replay_line (codes "BadLine") c.in-Err-BadLine.line) = bad_line c.in-Err-BadLine.line bad refl refl in
    gives NotReplayed _ c.refuse_journal.result (inr (inr refl))
    (subst (λ (n : ℕ). IsDueForJournal c.args.script.now c.args.journal.now (number NotReplayed) (replay_line (codes "BadLine") n)) (sym c.in-Err-BadLine.line-is) due)
    c.refuse_journal.ensures.written c.refuse_journal.ensures.statuses c.refuse_journal.ensures.sink_failed
