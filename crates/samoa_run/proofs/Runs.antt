-- What a run on workers comes to.
use Rattle.std.proofs.Common.{◌≡◌, ◌⊎◌, if◌then◌else◌, Result, inl, inr, refl, sym, ap, subst, ◌∙◌, arith, ℕ, Bool, true, false, List, [], append-nil, Ok, Err}
use Rattle.std.specs.declared.option.Option.{Option}
use Rattle.std.specs.Io.KnownBytes.{Appends}
use Rattle.std.specs.Result.{IfOk, OnErr}
use Rattle.std.proofs.KnownBytes.{Appends-trans}
use Rattle.samoa_report.specs.Steps.{journal_text}
use Rattle.samoa_model.specs.declared.record.Step.{Step}
use Rattle.samoa_model.specs.declared.script.Script.{Script}
use Rattle.samoa_serial.specs.LimitedReport.{report_in_full}
use Rattle.samoa_serial.specs.Ticks.{is_limited}
use Rattle.samoa_ends.specs.Causes.{Rose}
use Rattle.samoa_ends.specs.Pieces.{AppendsPrefix}
use Rattle.samoa_invariant.specs.Runs.{Trace}
use Rattle.samoa_journal.specs.Finished.{IsFinished}
use Rattle.samoa_journal.specs.Parts.{IsPacked}
use Rattle.samoa_ticks.specs.Running.{run_text}
use Rattle.samoa_ticks.specs.declared.stop.Stop.{Stop}
use Rattle.samoa_ticks.specs.declared.stop.Stop.TheVariants as stops
use Rattle.samoa_ticks.proofs.Parts.{part_after, part_more}
use Rattle.samoa_ticks.proofs.Written.{begins_all}
use Rattle.samoa_run.specs.declared.status.Status.{Status}
use Rattle.samoa_run.specs.declared.status.Status.TheVariants.{Done, Limited, Memory, SinkFailed}
use Rattle.samoa_run.specs.declared.words.Order.{Order}
use Rattle.samoa_run.specs.declared.words.Order.TheVariants.{Run}
use Rattle.samoa_run.specs.Statuses.{number}
use Rattle.samoa_run.specs.Due.{IsBegun, IsRunOutput, due_status, ended_with, has_cells, run_status, status_if, status_of_run}
use Rattle.samoa_run.specs.Serving.{AnswersOne, Began, Treats}
use Rattle.samoa_run.specs.Runs.{RunsTo}
use Rattle.samoa_run.proofs.Served.{number-same, run_ends, treats}

-- where the status is 0, the limit did not end the run
unlimited : (b : Bool) → status_of_run b ≡ 0 → b ≡ false
unlimited true e = absurd (omega (arith, e))
unlimited false e = refl

-- a run's status is 0 or 8
pub record IsRuns (status : ℕ) : Type 0 where
  pub not_four : status ≡ 4 → ⊥
  pub not_five : status ≡ 5 → ⊥
  pub not_six : status ≡ 6 → ⊥

pub runs_status : (b : Bool) → IsRuns (status_of_run b)
runs_status b = go (run_ends b)
  where
    go : (status_of_run b ≡ number Limited) ⊎ (status_of_run b ≡ number Done) → IsRuns (status_of_run b)
    go (inl is) = record { not_four = λ e. omega (arith, is, e); not_five = λ e. omega (arith, is, e); not_six = λ e. omega (arith, is, e) }
    go (inr is) = record { not_four = λ e. omega (arith, is, e); not_five = λ e. omega (arith, is, e); not_six = λ e. omega (arith, is, e) }

pub at_err : {T E P : Type 0} (r : Result T E) (e : E) → r ≡ Err e → OnErr r P → P
at_err (Ok x) e is p = absurd (cc)
at_err (Err x) e is p = p

pub at_ok_is : {T E : Type 0} (P : T → Type 0) (r : Result T E) (x : T) → r ≡ Ok x → IfOk r P → P x
at_ok_is P (Ok y) x is p = let same : y ≡ x = cc in subst P same p
at_ok_is P (Err e) x is p = absurd (cc)

-- ---- what is written with the journal or without
module _ (script : Script) (calls journal : Bool) (steps : List Step) (old mid : Option (List ℕ)) where
  abbrev report : List ℕ
  report = report_in_full script calls

  pub some_part : AppendsPrefix old mid report → AppendsPrefix old mid (run_text script calls journal steps)
  some_part part = part_more old mid report (if journal then journal_text steps else []) part

  pub unasked_whole : journal ≡ false → Appends old mid report → Appends old mid (run_text script calls journal steps)
  unasked_whole unasked all = subst (λ (b : Bool). Appends old mid (run_text script calls b steps)) (sym unasked) (subst (λ (text : List ℕ). Appends old mid text) (sym (append-nil report)) all)

  module _ (new : Option (List ℕ)) (lines : List Step) (asked : journal ≡ true) (same : lines ≡ steps) (wrote : Appends old mid report) where
    pub asked_whole : Appends mid new (journal_text lines) → Appends old new (run_text script calls journal steps)
    asked_whole all =
        subst (λ (b : Bool). Appends old new (run_text script calls b steps)) (sym asked)
        (Appends-trans old mid new report (journal_text steps) wrote (subst (λ (xs : List Step). Appends mid new (journal_text xs)) same all))

    pub asked_part : AppendsPrefix mid new (journal_text lines) → AppendsPrefix old new (run_text script calls journal steps)
    asked_part part =
        subst (λ (b : Bool). AppendsPrefix old new (run_text script calls b steps)) (sym asked)
        (part_after old mid new report (journal_text steps) wrote (subst (λ (xs : List Step). AppendsPrefix mid new (journal_text xs)) same part))

module _ (script : Script) (calls journal : Bool) (given : ℕ) (core : Trace) (old new : Option (List ℕ)) (status : ℕ) where
  -- all was written
  pub ended_whole : (limited : Bool) → limited ≡ is_limited script → status ≡ ended_with (Ok limited) → Appends old new (run_text script calls journal core.journal)
      → IsFinished script core.journal → IsPacked false core [] → core.cells ≡ given → RunsTo script calls journal given core old new status
  ended_whole limited told is wrote finished packed same =
      let due : status ≡ run_status script = is ∙ ap status_of_run told in
      let part : AppendsPrefix old new (run_text script calls journal core.journal) = begins_all old new (run_text script calls journal core.journal) wrote in
      record {
        written = record {
          whole = λ e. wrote;
          sink_failed = λ e. part;
          memory = λ e. part;
          source_failed = λ e. absurd ((runs_status (is_limited script)).not_four (sym due ∙ e));
          no_other = inl due;
        };
        begun = inr finished;
        finished = λ e. finished;
        complete = λ zero. record { finished = finished; unlimited = unlimited (is_limited script) (sym due ∙ zero) };
        parts = λ e. packed;
        cells = λ e. same;
        statuses = inl due;
      }

  -- a part was written
  module _ (five_or_six : (status ≡ 5) ⊎ (status ≡ 6)) where
    not_due : (status ≡ 5) ⊎ (status ≡ 6) → status ≡ run_status script → ⊥
    not_due (inl five) due = (runs_status (is_limited script)).not_five (sym due ∙ five)
    not_due (inr six) due = (runs_status (is_limited script)).not_six (sym due ∙ six)

    not_four : (status ≡ 5) ⊎ (status ≡ 6) → status ≡ 4 → ⊥
    not_four (inl five) four = omega (arith, five, four)
    not_four (inr six) four = omega (arith, six, four)

    not_zero : (status ≡ 5) ⊎ (status ≡ 6) → status ≡ 0 → ⊥
    not_zero (inl five) zero = omega (arith, five, zero)
    not_zero (inr six) zero = omega (arith, six, zero)

    pub ended_part : AppendsPrefix old new (run_text script calls journal core.journal) → AppendsPrefix old new (report_in_full script calls) ⊎ IsFinished script core.journal
        → RunsTo script calls journal given core old new status
    ended_part part begun = record {
      written = record {
        whole = λ e. absurd (not_due five_or_six e);
        sink_failed = λ e. part;
        memory = λ e. part;
        source_failed = λ e. absurd (not_four five_or_six e);
        no_other = inr (inr five_or_six);
      };
      begun = begun;
      finished = λ e. absurd (not_due five_or_six e);
      complete = λ e. absurd (not_zero five_or_six e);
      parts = λ e. absurd (not_due five_or_six e);
      cells = λ e. absurd (not_due five_or_six e);
      statuses = inr five_or_six;
    }

  -- what was written is one of the texts that are meant
  output : (asked : Bool) → IsFinished script core.journal → IsRunOutput asked script calls (run_text script calls asked core.journal)
  output false finished = append-nil (report_in_full script calls)
  output true finished = (core.journal, (finished, refl))

  pub run_answers : (workers cells : ℕ) → RunsTo script calls journal given core old new status
      → AnswersOne (run_status script) (IsRunOutput journal script calls) (IsBegun (Run workers cells calls journal) script) old new status
  run_answers workers cells run = record {
    whole = λ e. record { text = run_text script calls journal core.journal; is_meant = output journal (run.finished e); all = run.written.whole e };
    sink_failed = λ e. began run.begun (run.written.sink_failed e);
    memory = λ e. began run.begun (run.written.memory e);
    source_failed = run.written.source_failed;
    no_other = run.written.no_other;
  }
    where
      began : AppendsPrefix old new (report_in_full script calls) ⊎ IsFinished script core.journal → AppendsPrefix old new (run_text script calls journal core.journal)
          → Began (IsBegun (Run workers cells calls journal) script) old new
      began (inl part) whole = record { text = report_in_full script calls; is_meant = inl refl; part = part }
      began (inr finished) whole = record { text = run_text script calls journal core.journal; is_meant = inr (output journal finished); part = whole }

stopped : (stop : Stop) → (ended_with (Err stop) ≡ 5) ⊎ (ended_with (Err stop) ≡ 6)
stopped stops.Failed = inl refl
stopped stops.Memory = inr refl

pub stopped_with : (stop : Stop) (status : ℕ) → status ≡ ended_with (Err stop) → (status ≡ 5) ⊎ (status ≡ 6)
stopped_with stop status is = go (stopped stop)
  where
    go : (ended_with (Err stop) ≡ 5) ⊎ (ended_with (Err stop) ≡ 6) → (status ≡ 5) ⊎ (status ≡ 6)
    go (inl five) = inl (is ∙ five)
    go (inr six) = inr (is ∙ six)

-- the cells were enough
pub run_treats : (script : Script) (workers cells : ℕ) (calls journal : Bool) (given : ℕ) (core : Trace) (old new : Option (List ℕ)) (faults faults_after : ℕ) (status : Status)
    → has_cells (Run workers cells calls journal) script ≡ true → RunsTo script calls journal given core old new (number status) → (status ≡ SinkFailed → Rose faults faults_after)
    → Treats (Run workers cells calls journal) script old new faults faults_after status
run_treats script workers cells calls journal given core old new faults faults_after status can run rose =
    let order : Order = Run workers cells calls journal in
    record {
      written = treats order script can (run_answers script calls journal given core old new (number status) workers cells run);
      statuses = named run.statuses;
      sink_failed = rose;
    }
  where
    named : (number status ≡ run_status script) ⊎ ((number status ≡ 5) ⊎ (number status ≡ 6))
        → (number status ≡ due_status (Run workers cells calls journal) (Ok script)) ⊎ ((status ≡ SinkFailed) ⊎ (status ≡ Memory))
    named (inl is) = inl (is ∙ sym (ap (λ (b : Bool). status_if b (Run workers cells calls journal) script) can))
    named (inr (inl is)) = inr (inl (number-same status SinkFailed is))
    named (inr (inr is)) = inr (inr (number-same status Memory is))
