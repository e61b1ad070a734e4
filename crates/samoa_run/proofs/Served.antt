-- How a call of the top ends.
use Rattle.std.proofs.Common.{◌≡◌, ◌⊎◌, ℕ, Bool, true, false, cond, ◌==◌, ◌≤◌, ◌<◌, List, [], ◌++◌, length, None, Some, Result, Ok, Err, refl, sym, ap, ◌∙◌, subst, inl, inr, arith, append-nil, length-append, rules}
use Rattle.std.specs.declared.option.Option.{Option}
use Rattle.std.specs.Io.KnownBytes.{Appends, Consumes, IsAtEnd}
use Rattle.std.proofs.KnownBytes.{Appends-nil}
use Rattle.samoa_model.specs.declared.script.Script.{Script}
use Rattle.samoa_ends.specs.Pieces.{AppendsPrefix}
use Rattle.samoa_grammar.specs.Held.{IsTooLong}
use Rattle.samoa_script.specs.declared.fault.ScriptFault.{ScriptFault}
use Rattle.samoa_script.specs.declared.fault.ScriptFault.TheVariants.{TooLong, NotJson, Missing, WrongForm, Unknown, Twice, Over, Memory}
use Rattle.samoa_script.proofs.Apart.{one_script, answers_apart}
use Rattle.samoa_run.specs.Readings.{IsFaultOf, IsReading}
use Rattle.samoa_run.specs.declared.status.Status.{Status}
use Rattle.samoa_run.specs.declared.status.Status.TheVariants as statuses
use Rattle.samoa_run.specs.declared.status.Status.TheVariants.{Done, Usage, Refused, SourceFailed, SinkFailed, NotReplayed, Limited}
use Rattle.samoa_run.specs.declared.words.Order.{Order}
use Rattle.samoa_run.specs.Statuses.{number}
use Rattle.samoa_run.specs.declared.words.Order.TheVariants.{Run, Serial, Check}
use Rattle.samoa_serial.specs.LimitedReport.{report_in_full}
use Rattle.samoa_serial.specs.Ticks.{is_limited}
use Rattle.samoa_run.specs.Due.{IsAnswerTo, IsBegun, IsOutput, IsRunOutput, IsPartlyAnswerTo, IsTreated, IsTreatedPartly, has_cells, canonical_text, done_status, due_status, fault_line, is_memory, status_if, status_of_run, turned_away_line}
use Rattle.samoa_run.specs.Serving.{Answers, AnswersOne, IsDueOrFailed}

-- what was read is the input, where that is no longer than the limit
pub read_all : (limit : ℕ) (a b : Option (List ℕ)) (input bytes : List ℕ) → a ≡ Some input → Consumes a b bytes → (length bytes ≤ limit → IsAtEnd b)
    → length bytes ≤ limit → input ≡ bytes
read_all limit None b input bytes told taken end short = absurd (cc)
read_all limit (Some x) None input bytes told taken end short = absurd taken
read_all limit (Some x) (Some y) input bytes told taken end short =
    let same : input ≡ x = cc in
    same ∙ taken ∙ ap (λ (l : List ℕ). bytes ++ l) (end short) ∙ append-nil bytes

pub no_longer : (a b : Option (List ℕ)) (input bytes : List ℕ) → a ≡ Some input → Consumes a b bytes → length bytes ≤ length input
no_longer None b input bytes told taken = absurd (cc)
no_longer (Some x) None input bytes told taken = absurd taken
no_longer (Some x) (Some y) input bytes told taken =
    let same : input ≡ x = cc in
    let whole : length input ≡ length (bytes ++ y) = ap (λ (l : List ℕ). length l) (same ∙ taken) in
    omega (arith, whole, length-append bytes y)

-- a reading of bytes that aren't too long
short_or_long : (bytes : List ℕ) (found : Result Script ScriptFault) → IsReading bytes found → (length bytes ≤ 1048576) ⊎ ((1048576 < length bytes) × (found ≡ Err TooLong))
short_or_long bytes (Ok script) held = inl held.short
short_or_long bytes (Err TooLong) fails = inr (fails.0, refl)
short_or_long bytes (Err NotJson) fails = inl fails.0.short
short_or_long bytes (Err (Missing key)) fails = inl fails.0.short
short_or_long bytes (Err (WrongForm key)) fails = inl fails.0.short
short_or_long bytes (Err (Unknown name)) fails = inl fails.0.short
short_or_long bytes (Err (Twice name)) fails = inl fails.0.short
short_or_long bytes (Err (Over name limit)) fails = inl fails.0.short
short_or_long bytes (Err Memory) fails = absurd (fails.1 refl)

one_fault : (bytes : List ℕ) (f g : ScriptFault) → IsFaultOf bytes f → IsFaultOf bytes g → f ≡ g
one_fault bytes f g h k = search rules

pub one_reading : (bytes : List ℕ) (r q : Result Script ScriptFault) → IsReading bytes r → IsReading bytes q → r ≡ q
one_reading bytes (Ok s) (Ok t) h k = ap Ok (one_script bytes s t h k)
one_reading bytes (Ok s) (Err f) h k = absurd (k.1 (answers_apart bytes s f h k.0))
one_reading bytes (Err f) (Ok s) h k = absurd (h.1 (answers_apart bytes s f k h.0))
one_reading bytes (Err f) (Err g) h k = ap Err (one_fault bytes f g h k)

both_long : (text input : List ℕ) (r found : Result Script ScriptFault) → length text ≤ length input
    → (length text ≤ 1048576) ⊎ ((1048576 < length text) × (r ≡ Err TooLong)) → (length input ≤ 1048576) ⊎ ((1048576 < length input) × (found ≡ Err TooLong))
    → (length text ≤ 1048576) ⊎ (found ≡ r)
both_long text input r found within (inl short) other = inl short
both_long text input r found within (inr long) (inl short) = absurd (omega (arith, within, long.0, short))
both_long text input r found within (inr long) (inr same) = inr (same.1 ∙ sym long.1)

-- the input reads as what was read, where that is no longer than the limit
pub reading_of_input : (a b : Option (List ℕ)) (input bytes text : List ℕ) (r : Result Script ScriptFault) → a ≡ Some input → Consumes a b bytes
    → (length bytes ≤ 1048576 → IsAtEnd b) → text ≡ bytes → IsReading text r → IsReading input r
reading_of_input a b input bytes text r told taken end same here = either (short_or_long text r here)
  where
    either : (length text ≤ 1048576) ⊎ ((1048576 < length text) × (r ≡ Err TooLong)) → IsReading input r
    either (inl short) =
        let as_many : length text ≡ length bytes = ap (λ (l : List ℕ). length l) same in
        let whole : input ≡ text = read_all 1048576 a b input bytes told taken end (omega (arith, short, as_many)) ∙ sym same in
        let R : List ℕ → Type 0 = λ l. IsReading l r in
        subst R (sym whole) here
    either (inr long) =
        let as_many : length text ≡ length bytes = ap (λ (l : List ℕ). length l) same in
        let R : Result Script ScriptFault → Type 0 = λ f. IsReading input f in
        let over : IsTooLong input = omega (arith, no_longer a b input bytes told taken, as_many, long.0) in
        subst R (sym long.1) (over, λ e. absurd (cc))

-- the due status, or a fault of the sink or want of memory
pub later_status : (status : Status) (due : ℕ) → (number status ≡ due) ⊎ ((status ≡ SinkFailed) ⊎ (status ≡ statuses.Memory)) → IsDueOrFailed due (number status)
later_status status due (inl is) = inl is
later_status status due (inr (inl is)) = inr (inr (inl (ap number is)))
later_status status due (inr (inr is)) = inr (inr (inr (ap number is)))

pub refused_status : (status : Status) → (status ≡ Refused) ⊎ ((status ≡ SinkFailed) ⊎ (status ≡ statuses.Memory)) → IsDueOrFailed (number Refused) (number status)
refused_status status (inl is) = inl (ap number is)
refused_status status (inr (inl is)) = inr (inr (inl (ap number is)))
refused_status status (inr (inr is)) = inr (inr (inr (ap number is)))

pub due_refused : (status : Status) (due : ℕ) → status ≡ Refused → (number status ≡ due) ⊎ ((status ≡ SinkFailed) ⊎ (status ≡ statuses.Memory)) → due ≡ number Refused
due_refused status due refused (inl is) = sym is ∙ ap number refused
due_refused status due refused (inr (inl is)) = absurd (cc)
due_refused status due refused (inr (inr is)) = absurd (cc)

-- a number tells its status
pub number-same : (a b : Status) → number a ≡ number b → a ≡ b
number-same a b e = sym (back a) ∙ (ap named e ∙ back b)
  where
    named : ℕ → Status
    named n = cond (n == 0) Done (cond (n == 2) Usage (cond (n == 3) Refused (cond (n == 4) SourceFailed (cond (n == 5) SinkFailed (cond (n == 6) statuses.Memory (cond (n == 7) NotReplayed Limited))))))

    back : (s : Status) → named (number s) ≡ s
    back Done = refl
    back Usage = refl
    back Refused = refl
    back SourceFailed = refl
    back SinkFailed = refl
    back statuses.Memory = refl
    back NotReplayed = refl
    back Limited = refl

-- a text that is meant answers
pub one_of : {due : ℕ} {meant begun : List ℕ → Type 0} {old new : Option (List ℕ)} {status : ℕ} (text : List ℕ) → meant text → begun text → Answers due text old new status
    → AnswersOne due meant begun old new status
one_of text is may answers = record {
  whole = λ e. record { text = text; is_meant = is; all = answers.whole e };
  sink_failed = λ e. record { text = text; is_meant = may; part = answers.sink_failed e };
  memory = λ e. record { text = text; is_meant = may; part = answers.memory e };
  source_failed = answers.source_failed;
  no_other = answers.no_other;
}

-- where one text alone is meant, that text answers
pub the_one : {due : ℕ} {old new : Option (List ℕ)} {status : ℕ} (text : List ℕ) → AnswersOne due (λ t. t ≡ text) (λ t. t ≡ text) old new status → Answers due text old new status
the_one {old = old} {new = new} text answers =
    let W : List ℕ → Type 0 = Appends old new in
    let P : List ℕ → Type 0 = AppendsPrefix old new in
    record {
      whole = λ e. let wrote = answers.whole e in subst W wrote.is_meant wrote.all;
      sink_failed = λ e. let began = answers.sink_failed e in subst P began.is_meant began.part;
      memory = λ e. let began = answers.memory e in subst P began.is_meant began.part;
      source_failed = answers.source_failed;
      no_other = answers.no_other;
    }

-- a run without its journal
pub only_report : {due : ℕ} {old new : Option (List ℕ)} {status : ℕ} (workers cells : ℕ) (script : Script) (calls : Bool)
    → AnswersOne due (IsRunOutput false script calls) (IsBegun (Run workers cells calls false) script) old new status → Answers due (report_in_full script calls) old new status
only_report {old = old} {new = new} workers cells script calls answers =
    let W : List ℕ → Type 0 = Appends old new in
    record {
      whole = λ e. let wrote = answers.whole e in subst W wrote.is_meant wrote.all;
      sink_failed = λ e. let began = answers.sink_failed e in part began.text began.is_meant began.part;
      memory = λ e. let began = answers.memory e in part began.text began.is_meant began.part;
      source_failed = answers.source_failed;
      no_other = answers.no_other;
    }
  where
    part : (text : List ℕ) → (text ≡ report_in_full script calls) ⊎ (text ≡ report_in_full script calls) → AppendsPrefix old new text → AppendsPrefix old new (report_in_full script calls)
    part text (inl is) began = subst (λ (t : List ℕ). AppendsPrefix old new t) is began
    part text (inr is) began = subst (λ (t : List ℕ). AppendsPrefix old new t) is began

-- a script that can be treated as ordered, and one that can't
pub treats : (order : Order) (script : Script) {old new : Option (List ℕ)} {status : ℕ} → has_cells order script ≡ true
    → AnswersOne (done_status order script) (IsOutput order script) (IsBegun order script) old new status
    → AnswersOne (due_status order (Ok script)) (IsAnswerTo order (Ok script)) (IsPartlyAnswerTo order (Ok script)) old new status
treats order script {old = old} {new = new} {status = status} can answers =
    let F : Bool → Type 0 = λ b. AnswersOne (status_if b order script) (IsTreated b order script) (IsTreatedPartly b order script) old new status in
    subst F (sym can) answers

pub not_memory : (fault : ScriptFault) → is_memory fault ≡ false → fault ≡ Memory → ⊥
not_memory fault other is = let yes : is_memory fault ≡ true = ap is_memory is in absurd (cc)

-- some text may be begun for what was read
some_begun : (order : Order) (script : Script) → (text : List ℕ) × IsBegun order script text
some_begun (Run workers cells calls journal) script = (report_in_full script calls, inl refl)
some_begun (Serial calls) script = (report_in_full script calls, refl)
some_begun Check script = (canonical_text script, refl)

some_treated : (b : Bool) (order : Order) (script : Script) → (text : List ℕ) × IsTreatedPartly b order script text
some_treated true order script = some_begun order script
some_treated false order script = (turned_away_line order script, refl)

some_answer : (order : Order) (found : Result Script ScriptFault) → (text : List ℕ) × IsPartlyAnswerTo order found text
some_answer order (Ok script) = some_treated (has_cells order script) order script
some_answer order (Err fault) = (fault_line fault, refl)

-- a run ends with 8 or 0
pub run_ends : (limited : Bool) → (status_of_run limited ≡ number Limited) ⊎ (status_of_run limited ≡ number Done)
run_ends true = inl refl
run_ends false = inr refl

pub done_ends : (order : Order) (script : Script) → (done_status order script ≡ number Limited) ⊎ (done_status order script ≡ number Done)
done_ends (Run workers cells calls journal) script = run_ends (is_limited script)
done_ends (Serial calls) script = run_ends (is_limited script)
done_ends Check script = inr refl

-- no fault of the source and no want of memory is due
pub record IsOther (due : ℕ) : Type 0 where
  pub not_four : due ≡ 4 → ⊥
  pub not_six : due ≡ 6 → ⊥

ends_other : (due : ℕ) → (due ≡ number Limited) ⊎ (due ≡ number Done) → IsOther due
ends_other due (inl is) = record { not_four = λ four. omega (arith, is, four); not_six = λ six. omega (arith, is, six) }
ends_other due (inr is) = record { not_four = λ four. omega (arith, is, four); not_six = λ six. omega (arith, is, six) }

due_if : (b : Bool) (order : Order) (script : Script) → IsOther (status_if b order script)
due_if true order script = ends_other (done_status order script) (done_ends order script)
due_if false order script = record { not_four = λ four. omega (arith, four); not_six = λ six. omega (arith, six) }

pub due_other : (order : Order) (found : Result Script ScriptFault) → IsOther (due_status order found)
due_other order (Ok script) = due_if (has_cells order script) order script
due_other order (Err fault) = record { not_four = λ four. omega (arith, four); not_six = λ six. omega (arith, six) }

nothing_yet : (old : Option (List ℕ)) (text : List ℕ) → AppendsPrefix old old text
nothing_yet old text = record { piece = []; appended = Appends-nil old; prefix = record { rest = text; whole = refl } }

-- there was no memory to read
pub unread : (order : Order) (found : Result Script ScriptFault) (old : Option (List ℕ))
    → AnswersOne (due_status order found) (IsAnswerTo order found) (IsPartlyAnswerTo order found) old old (number statuses.Memory)
unread order found old =
    let some = some_answer order found in
    record {
      whole = λ six. absurd ((due_other order found).not_six (sym six));
      sink_failed = λ e. absurd (omega (arith, e));
      memory = λ _. record { text = some.0; is_meant = some.1; part = nothing_yet old some.0 };
      source_failed = λ e. absurd (omega (arith, e));
      no_other = inr (inr (inr refl));
    }

-- the source failed
pub failed : (order : Order) (found : Result Script ScriptFault) (old : Option (List ℕ))
    → AnswersOne (due_status order found) (IsAnswerTo order found) (IsPartlyAnswerTo order found) old old (number SourceFailed)
failed order found old =
    record {
      whole = λ four. absurd ((due_other order found).not_four (sym four));
      sink_failed = λ e. absurd (omega (arith, e));
      memory = λ e. absurd (omega (arith, e));
      source_failed = λ _. Appends-nil old;
      no_other = inr (inl refl);
    }
