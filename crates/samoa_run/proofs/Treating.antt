-- A script that is held is treated as ordered.
use Rattle.std.proofs.Common.{◌≡◌, ◌⊎◌, inl, inr, refl, sym, ap, ◌∙◌, arith, ℕ, Bool, List, Result, Ok, Err}
use Rattle.std.specs.declared.option.Option.{Option}
use Rattle.std.specs.Io.KnownBytes.{Appends}
use Rattle.std.specs.Result.{IfOk, OnErr, OnOk}
use Rattle.samoa_model.specs.declared.script.Script.{Script}
use Rattle.samoa_serial.specs.LimitedReport.{report_in_full}
use Rattle.samoa_serial.specs.Ticks.{is_limited}
use Rattle.samoa_ends.specs.Causes.{Rose}
use Rattle.samoa_ends.specs.Pieces.{AppendsPrefix}
use Rattle.samoa_ticks.specs.declared.stop.Stop.{Stop}
use Rattle.samoa_ticks.specs.declared.stop.Stop.TheVariants as stops
use Rattle.samoa_ticks.proofs.Written.{begins_all}
use Rattle.samoa_run.specs.declared.status.Status.{Status}
use Rattle.samoa_run.specs.declared.status.Status.TheVariants.{Done, Memory, SinkFailed}
use Rattle.samoa_run.specs.declared.words.Order.{Order}
use Rattle.samoa_run.specs.declared.words.Order.TheVariants.{Check, Serial}
use Rattle.samoa_run.specs.Statuses.{number}
use Rattle.samoa_run.specs.Due.{canonical_text, ended_with, run_status, status_of_run}
use Rattle.samoa_run.specs.Serving.{Answers, Treats}
use Rattle.samoa_run.proofs.Served.{number-same, one_of, unread}
use Rattle.samoa_run.proofs.Runs.{runs_status}

-- there was no memory to begin
pub memory_treats : (order : Order) (script : Script) (old : Option (List ℕ)) (faults faults_after : ℕ) → Treats order script old old faults faults_after Memory
memory_treats order script old faults faults_after = record { written = unread order (Ok script) old; statuses = inr (inr refl); sink_failed = λ e. absurd (cc) }

-- the canonical text was written
pub check_treats : (script : Script) (old new : Option (List ℕ)) (faults faults_after : ℕ) (status : Status) → Answers (number Done) (canonical_text script) old new (number status)
    → (status ≡ Done) ⊎ ((status ≡ SinkFailed) ⊎ (status ≡ Memory)) → (status ≡ SinkFailed → Rose faults faults_after) → Treats Check script old new faults faults_after status
check_treats script old new faults faults_after status answers is rose =
    record { written = one_of (canonical_text script) refl refl answers; statuses = named is; sink_failed = rose }
  where
    named : (status ≡ Done) ⊎ ((status ≡ SinkFailed) ⊎ (status ≡ Memory)) → (number status ≡ number Done) ⊎ ((status ≡ SinkFailed) ⊎ (status ≡ Memory))
    named (inl e) = inl (ap number e)
    named (inr e) = inr e

-- the report was written
report_answers : (script : Script) (calls : Bool) (ended : Result Bool Stop) (old new : Option (List ℕ)) (status : ℕ) → status ≡ ended_with ended
    → OnOk ended (Appends old new (report_in_full script calls)) → OnErr ended (AppendsPrefix old new (report_in_full script calls))
    → IfOk ended (λ limited. limited ≡ is_limited script) → Answers (run_status script) (report_in_full script calls) old new status
report_answers script calls (Ok limited) old new status is all part told =
    let due : status ≡ run_status script = is ∙ ap status_of_run told in
    let some : AppendsPrefix old new (report_in_full script calls) = begins_all old new (report_in_full script calls) all in
    record {
      whole = λ e. all;
      sink_failed = λ e. some;
      memory = λ e. some;
      source_failed = λ e. absurd ((runs_status (is_limited script)).not_four (sym due ∙ e));
      no_other = inl due;
    }
report_answers script calls (Err stops.Failed) old new status is all part told =
    record {
      whole = λ e. absurd ((runs_status (is_limited script)).not_five (sym e ∙ is));
      sink_failed = λ e. part;
      memory = λ e. part;
      source_failed = λ e. absurd (omega (arith, is, e));
      no_other = inr (inr (inl is));
    }
report_answers script calls (Err stops.Memory) old new status is all part told =
    record {
      whole = λ e. absurd ((runs_status (is_limited script)).not_six (sym e ∙ is));
      sink_failed = λ e. part;
      memory = λ e. part;
      source_failed = λ e. absurd (omega (arith, is, e));
      no_other = inr (inr (inr is));
    }

pub serial_treats : (script : Script) (calls : Bool) (ended : Result Bool Stop) (old new : Option (List ℕ)) (faults faults_after : ℕ) (status : Status) → number status ≡ ended_with ended
    → OnOk ended (Appends old new (report_in_full script calls)) → OnErr ended (AppendsPrefix old new (report_in_full script calls))
    → IfOk ended (λ limited. limited ≡ is_limited script) → (status ≡ SinkFailed → Rose faults faults_after) → Treats (Serial calls) script old new faults faults_after status
serial_treats script calls ended old new faults faults_after status is all part told rose =
    let answers = report_answers script calls ended old new (number status) is all part told in
    record { written = one_of (report_in_full script calls) refl refl answers; statuses = named ended is told; sink_failed = rose }
  where
    named : (r : Result Bool Stop) → number status ≡ ended_with r → IfOk r (λ limited. limited ≡ is_limited script) → (number status ≡ run_status script) ⊎ ((status ≡ SinkFailed) ⊎ (status ≡ Memory))
    named (Ok limited) e same = inl (e ∙ ap status_of_run same)
    named (Err stops.Failed) e same = inr (inl (number-same status SinkFailed e))
    named (Err stops.Memory) e same = inr (inr (number-same status Memory e))

-- at status 5 a write failed
pub sink_cause : (ended : Result Bool Stop) (status : Status) {R : Type 0} → number status ≡ ended_with ended → (ended ≡ Err stops.Failed → R) → status ≡ SinkFailed → R
sink_cause (Ok limited) status is rose e = absurd (go limited (sym is ∙ ap number e))
  where
    go : (b : Bool) → status_of_run b ≡ 5 → ⊥
    go b five = (runs_status b).not_five five
sink_cause (Err stops.Failed) status is rose e = rose refl
sink_cause (Err stops.Memory) status is rose e = absurd (let five : number status ≡ 5 = ap number e in omega (arith, is, five))
