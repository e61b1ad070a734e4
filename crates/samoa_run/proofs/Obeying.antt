-- An order is carried out, told by what the input reads as.
use Rattle.std.proofs.Common.{◌≡◌, ◌⊎◌, ℕ, ◌≤◌, Bool, true, false, List, length, Result, Ok, Err, Some, inl, inr, refl, sym, subst, ◌∙◌, ap, arith}
use Rattle.std.specs.declared.option.Option.{Option}
use Rattle.std.specs.Io.KnownBytes.{IsAtEnd}
use Rattle.samoa_model.specs.declared.script.Script.{Script}
use Rattle.samoa_ends.specs.Causes.{Rose}
use Rattle.samoa_grammar.specs.Held.{Holds}
use Rattle.samoa_script.specs.declared.fault.ScriptFault.{ScriptFault}
use Rattle.samoa_run.specs.Readings.{IsFaultOf, IsReading}
use Rattle.samoa_run.specs.declared.reading.TheConstants.{LIMIT}
use Rattle.samoa_run.specs.declared.status.Status.{Status}
use Rattle.samoa_run.specs.declared.status.Status.TheVariants.{Done, Refused, SourceFailed, SinkFailed, Memory, Limited}
use Rattle.samoa_run.specs.declared.words.Order.{Order}
use Rattle.samoa_run.specs.Statuses.{number}
use Rattle.samoa_run.specs.Due.{IsAnswerTo, IsPartlyAnswerTo, IsTreated, IsTreatedPartly, has_cells, done_status, due_status, fault_line, status_if, turned_away_line}
use Rattle.samoa_run.specs.Serving.{Answers, AnswersOne, Ends, Treats, IsDueOrFailed, IsRefused, faulty, turned_away, NoFault, Obeys}
use Rattle.samoa_run.proofs.Served.{done_ends, due_other, later_status, number-same, one_of, one_reading, refused_status, the_one, unread}

-- what was read, and what was answered for it
pub record Told (order : Order) (ends : Ends) (status : Status) : Type 0 where
  pub written : (input : List ℕ) (found : Result Script ScriptFault) → ends.left ≡ Some input → IsReading input found
      → AnswersOne (due_status order found) (IsAnswerTo order found) (IsPartlyAnswerTo order found) ends.written ends.written_after (number status)
  pub complete : (input : List ℕ) (found : Result Script ScriptFault) → ends.left ≡ Some input → IsReading input found
      → IsDueOrFailed (due_status order found) (number status)
  pub refused_only : (input : List ℕ) → ends.left ≡ Some input → status ≡ Refused
      → (found : Result Script ScriptFault) × (IsReading input found × (due_status order found ≡ number Refused))

not_refused : (order : Order) (script : Script) → (done_status order script ≡ number Limited) ⊎ (done_status order script ≡ number Done) → done_status order script ≡ number Refused → ⊥
not_refused order script (inl is) h = omega (arith, is, h)
not_refused order script (inr is) h = omega (arith, is, h)

refused_if_not : (b : Bool) (order : Order) (script : Script) → status_if b order script ≡ number Refused → b ≡ false
refused_if_not true order script h = absurd (not_refused order script (done_ends order script) h)
refused_if_not false order script h = refl

refused_so : (order : Order) (input : List ℕ) (found : Result Script ScriptFault) → IsReading input found → due_status order found ≡ number Refused → IsRefused order input
refused_so order input (Ok script) held is = turned_away script held (refused_if_not (has_cells order script) order script is)
refused_so order input (Err fault) fails is = faulty fault fails

-- where no count rose, the due status or want of memory
without_fault : (ends : Ends) (status due : ℕ) → NoFault ends → (status ≡ number SourceFailed → Rose ends.source_faults ends.source_faults_after)
    → (status ≡ number SinkFailed → Rose ends.sink_faults ends.sink_faults_after)
    → IsDueOrFailed due status → (status ≡ due) ⊎ (status ≡ number Memory)
without_fault ends status due fine source sink (inl is) = inl is
without_fault ends status due fine source sink (inr (inl is)) = absurd (fine.source (source is))
without_fault ends status due fine source sink (inr (inr (inl is))) = absurd (fine.sink (sink is))
without_fault ends status due fine source sink (inr (inr (inr is))) = inr is

pub obeyed : (order : Order) (ends : Ends) (status : Status) → Told order ends status
    → (status ≡ Done → IsAtEnd ends.left_after) → (status ≡ Limited → IsAtEnd ends.left_after)
    → ((input : List ℕ) → ends.left ≡ Some input → length input ≤ LIMIT → status ≡ Refused → IsAtEnd ends.left_after)
    → (status ≡ SourceFailed → Rose ends.source_faults ends.source_faults_after) → (status ≡ SinkFailed → Rose ends.sink_faults ends.sink_faults_after)
    → (number status ≡ number Done) ⊎ ((number status ≡ number Limited) ⊎ IsDueOrFailed (number Refused) (number status)) → Obeys order ends (number status)
obeyed order ends status told read limited_read refused_read source sink statuses =
    let W : (script : Script) → Bool → Type 0 = λ script b. AnswersOne (status_if b order script) (IsTreated b order script) (IsTreatedPartly b order script) ends.written ends.written_after (number status) in
    let C : Script → Bool → Type 0 = λ script b. IsDueOrFailed (status_if b order script) (number status) in
    let from_source : number status ≡ number SourceFailed → Rose ends.source_faults ends.source_faults_after = λ e. source (number-same status SourceFailed e) in
    let from_sink : number status ≡ number SinkFailed → Rose ends.sink_faults ends.sink_faults_after = λ e. sink (number-same status SinkFailed e) in
    let when_refused : (input : List ℕ) → ends.left ≡ Some input → IsRefused order input → IsDueOrFailed (number Refused) (number status)
    = λ input left is. due_when_refused input left is in
    record {
      done = λ input script left held can. subst (W script) can (told.written input (Ok script) left held);
      turned_away = λ input script left held can. the_one (turned_away_line order script) (subst (W script) can (told.written input (Ok script) left held));
      refused = λ input fault left fails. the_one (fault_line fault) (told.written input (Err fault) left fails);
      refused_only = λ input left is. let found = told.refused_only input left (number-same status Refused is) in refused_so order input found.0 found.1.0 found.1.1;
      complete = λ input script left held can fine. without_fault ends (number status) (done_status order script) fine from_source from_sink (subst (C script) can (told.complete input (Ok script) left held));
      complete_refused = λ input left is fine. without_fault ends (number status) (number Refused) fine from_source from_sink (when_refused input left is);
      read = λ e. at_end e;
      refused_read = λ input left short e. refused_read input left short (number-same status Refused e);
      source_failed = from_source;
      sink_failed = from_sink;
      statuses = statuses;
    }
  where
    due_when_refused : (input : List ℕ) → ends.left ≡ Some input → IsRefused order input → IsDueOrFailed (number Refused) (number status)
    due_when_refused input left (faulty fault fails) = told.complete input (Err fault) left fails
    due_when_refused input left (turned_away script held can) =
        let C : Bool → Type 0 = λ b. IsDueOrFailed (status_if b order script) (number status) in
        subst C can (told.complete input (Ok script) left held)

    at_end : (number status ≡ number Done) ⊎ (number status ≡ number Limited) → IsAtEnd ends.left_after
    at_end (inl e) = read (number-same status Done e)
    at_end (inr e) = limited_read (number-same status Limited e)

-- a script was read and treated as ordered
pub treated : (order : Order) (script : Script) (ends : Ends) (status : Status) → ((input : List ℕ) → ends.left ≡ Some input → Holds input script) → IsAtEnd ends.left_after
    → Treats order script ends.written ends.written_after ends.sink_faults ends.sink_faults_after status → Obeys order ends (number status)
treated order script ends status holds at_end done =
    obeyed order ends status
    (record { written = told; complete = complete; refused_only = refused_only })
    (λ e. at_end) (λ e. at_end) (λ input left short e. at_end) no_source done.sink_failed (statuses done.statuses)
  where
    told : (input : List ℕ) (found : Result Script ScriptFault) → ends.left ≡ Some input → IsReading input found
        → AnswersOne (due_status order found) (IsAnswerTo order found) (IsPartlyAnswerTo order found) ends.written ends.written_after (number status)
    told input found left reading =
        let P : Result Script ScriptFault → Type 0 = λ r. AnswersOne (due_status order r) (IsAnswerTo order r) (IsPartlyAnswerTo order r) ends.written ends.written_after (number status) in
        subst P (one_reading input (Ok script) found (holds input left) reading) done.written

    complete : (input : List ℕ) (found : Result Script ScriptFault) → ends.left ≡ Some input → IsReading input found → IsDueOrFailed (due_status order found) (number status)
    complete input found left reading =
        let P : Result Script ScriptFault → Type 0 = λ r. IsDueOrFailed (due_status order r) (number status) in
        subst P (one_reading input (Ok script) found (holds input left) reading) (later_status status (due_status order (Ok script)) done.statuses)

    three : (number status ≡ due_status order (Ok script)) ⊎ ((status ≡ SinkFailed) ⊎ (status ≡ Memory)) → status ≡ Refused → due_status order (Ok script) ≡ number Refused
    three (inl is) e = sym is ∙ ap number e
    three (inr (inl is)) e = absurd (cc)
    three (inr (inr is)) e = absurd (cc)

    refused_only : (input : List ℕ) → ends.left ≡ Some input → status ≡ Refused → (found : Result Script ScriptFault) × (IsReading input found × (due_status order found ≡ number Refused))
    refused_only input left e = (Ok script, (holds input left, three done.statuses e))

    no_source : status ≡ SourceFailed → Rose ends.source_faults ends.source_faults_after
    no_source e = absurd (four done.statuses)
      where
        four : (number status ≡ due_status order (Ok script)) ⊎ ((status ≡ SinkFailed) ⊎ (status ≡ Memory)) → ⊥
        four (inl is) = (due_other order (Ok script)).not_four (sym is ∙ ap number e)
        four (inr (inl is)) = absurd (cc)
        four (inr (inr is)) = absurd (cc)

    by_due : (b : Bool) → number status ≡ status_if b order script → (number status ≡ number Done) ⊎ ((number status ≡ number Limited) ⊎ IsDueOrFailed (number Refused) (number status))
    by_due false is = inr (inr (inl is))
    by_due true is = go (done_ends order script)
      where
        go : (done_status order script ≡ number Limited) ⊎ (done_status order script ≡ number Done) → (number status ≡ number Done) ⊎ ((number status ≡ number Limited) ⊎ IsDueOrFailed (number Refused) (number status))
        go (inl e) = inr (inl (is ∙ e))
        go (inr e) = inl (is ∙ e)

    statuses : (number status ≡ due_status order (Ok script)) ⊎ ((status ≡ SinkFailed) ⊎ (status ≡ Memory)) → (number status ≡ number Done) ⊎ ((number status ≡ number Limited) ⊎ IsDueOrFailed (number Refused) (number status))
    statuses (inl is) = by_due (has_cells order script) is
    statuses (inr (inl is)) = inr (inr (inr (inr (inl (ap number is)))))
    statuses (inr (inr is)) = inr (inr (inr (inr (inr (ap number is)))))

-- the input has a fault, whose line was written
pub refused : (order : Order) (fault : ScriptFault) (ends : Ends) (status : Status) → ((input : List ℕ) → ends.left ≡ Some input → IsFaultOf input fault)
    → ((input : List ℕ) → ends.left ≡ Some input → length input ≤ LIMIT → IsAtEnd ends.left_after)
    → Answers (number Refused) (fault_line fault) ends.written ends.written_after (number status)
    → (status ≡ Refused) ⊎ ((status ≡ SinkFailed) ⊎ (status ≡ Memory)) → (status ≡ SinkFailed → Rose ends.sink_faults ends.sink_faults_after) → Obeys order ends (number status)
refused order fault ends status fails at_end answers is sink =
    obeyed order ends status
    (record {
      written = told;
      complete = complete;
      refused_only = λ input left e. (Err fault, (fails input left, refl));
    })
    (λ e. absurd (not_done is e)) (λ e. absurd (not_limited is e)) (λ input left short e. at_end input left short) (λ e. absurd (not_source is e)) sink (inr (inr (refused_status status is)))
  where
    told : (input : List ℕ) (found : Result Script ScriptFault) → ends.left ≡ Some input → IsReading input found
        → AnswersOne (due_status order found) (IsAnswerTo order found) (IsPartlyAnswerTo order found) ends.written ends.written_after (number status)
    told input found left reading =
        let P : Result Script ScriptFault → Type 0 = λ r. AnswersOne (due_status order r) (IsAnswerTo order r) (IsPartlyAnswerTo order r) ends.written ends.written_after (number status) in
        subst P (one_reading input (Err fault) found (fails input left) reading) (one_of (fault_line fault) refl refl answers)

    complete : (input : List ℕ) (found : Result Script ScriptFault) → ends.left ≡ Some input → IsReading input found → IsDueOrFailed (due_status order found) (number status)
    complete input found left reading =
        let P : Result Script ScriptFault → Type 0 = λ r. IsDueOrFailed (due_status order r) (number status) in
        subst P (one_reading input (Err fault) found (fails input left) reading) (refused_status status is)

    not_done : (status ≡ Refused) ⊎ ((status ≡ SinkFailed) ⊎ (status ≡ Memory)) → status ≡ Done → ⊥
    not_done (inl i) e = absurd (cc)
    not_done (inr (inl i)) e = absurd (cc)
    not_done (inr (inr i)) e = absurd (cc)

    not_limited : (status ≡ Refused) ⊎ ((status ≡ SinkFailed) ⊎ (status ≡ Memory)) → status ≡ Limited → ⊥
    not_limited (inl i) e = absurd (cc)
    not_limited (inr (inl i)) e = absurd (cc)
    not_limited (inr (inr i)) e = absurd (cc)

    not_source : (status ≡ Refused) ⊎ ((status ≡ SinkFailed) ⊎ (status ≡ Memory)) → status ≡ SourceFailed → ⊥
    not_source (inl i) e = absurd (cc)
    not_source (inr (inl i)) e = absurd (cc)
    not_source (inr (inr i)) e = absurd (cc)

-- nothing was read: there was no memory, or a read failed
pub stopped_by_memory : (order : Order) (ends : Ends) → ends.written_after ≡ ends.written → Obeys order ends (number Memory)
stopped_by_memory order ends same =
    let W : (found : Result Script ScriptFault) → Option (List ℕ) → Type 0 = λ found new. AnswersOne (due_status order found) (IsAnswerTo order found) (IsPartlyAnswerTo order found) ends.written new (number Memory) in
    obeyed order ends Memory
    (record {
      written = λ input found left reading. subst (W found) (sym same) (unread order found ends.written);
      complete = λ input found left reading. inr (inr (inr refl));
      refused_only = λ input left e. absurd (cc);
    })
    (λ e. absurd (cc)) (λ e. absurd (cc)) (λ input left short e. absurd (cc)) (λ e. absurd (cc)) (λ e. absurd (cc)) (inr (inr (inr (inr (inr refl)))))
