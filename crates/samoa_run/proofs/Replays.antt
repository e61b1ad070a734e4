-- What is due for a replay, and what was answered.
use Rattle.std.proofs.Common.{if◌then◌else◌, ◌≡◌, ◌⊎◌, ◌≤◌, ◌<◌, ◌+◌, inl, inr, refl, sym, ap, subst, ◌∙◌, arith, ℕ, Bool, true, false, List, [], ◌∷◌, ◌++◌, length, append-nil, length-append, codes, Err, Some, None}
use Rattle.std.specs.declared.option.Option.{Option}
use Rattle.std.specs.Io.KnownBytes.{IsAtEnd}
use Rattle.std.proofs.lemmas.Slice.Eq.{bytes_eq-Decides}
use Rattle.samoa_model.specs.declared.record.Step.{Step}
use Rattle.samoa_model.specs.declared.script.Script.{Script}
use Rattle.samoa_ends.specs.Causes.{Rose}
use Rattle.samoa_report.specs.Steps.{step_text, steps_text}
use Rattle.samoa_report.specs.BadLine.{IsBadLine}
use Rattle.samoa_report.proofs.StepLines.{nothing_begins, same_steps}
use Rattle.samoa_script.specs.declared.fault.ScriptFault.TheVariants.{TooLong}
use Rattle.samoa_script.proofs.Apart.{answers_apart, one_script}
use Rattle.samoa_replay.proofs.Causes.{no_fault, only_fault}
use Rattle.samoa_run.specs.declared.status.Status.{Status}
use Rattle.samoa_run.specs.declared.status.Status.TheVariants.{Done, Memory, NotReplayed, Refused, SinkFailed, SourceFailed}
use Rattle.samoa_run.specs.declared.reading.TheConstants.{REPLAY_LIMIT}
use Rattle.samoa_run.specs.Statuses.{number}
use Rattle.samoa_run.specs.Words.{is_replay, order_in}
use Rattle.samoa_run.specs.Due.{fault_line}
use Rattle.samoa_run.specs.Serving.{Answers, Ends, IsDueOrFailed, NoFault}
use Rattle.samoa_run.specs.Replays.{Gives, IsDueFor, IsDueForJournal, IsDueForSteps, IsJournalOf, IsReply, Replays, Replies, bad_line, complete, faulty, held, in_lines, journal_fault_line, journal_part, refused, replay_line, script_part, script_text, silent, told, too_long}
use Rattle.samoa_run.proofs.Served.{number-same, one_reading}

-- words that ask for a replay give no order
pub no_order : (words : List (List ℕ)) → is_replay words ≡ true → order_in words ≡ None
no_order [] e = refl
no_order (word ∷ []) e = subst (λ (w : List ℕ). order_in (w ∷ []) ≡ None) (sym ((bytes_eq-Decides word (codes "replay")).0 e)) refl
no_order (word ∷ option ∷ rest) e = absurd (cc)

-- what holds the script
pub of_replay : (words : List (List ℕ)) (input : List ℕ) → is_replay words ≡ true → script_text words input ≡ script_part input
of_replay words input is = ap (λ (b : Bool). if b then script_part input else input) is

pub of_order : (words : List (List ℕ)) (input : List ℕ) → is_replay words ≡ false → script_text words input ≡ input
of_order words input is = ap (λ (b : Bool). if b then script_part input else input) is

-- ---- at most one status and one text are due
pub record AreSame (a b : ℕ) (x y : List ℕ) : Type 0 where
  pub status : a ≡ b
  pub text : x ≡ y

both : {a b d e : ℕ} {x y u v : List ℕ} → a ≡ d → x ≡ u → b ≡ e → y ≡ v → d ≡ e → u ≡ v → AreSame a b x y
both p q r s same alike = record { status = p ∙ same ∙ sym r; text = q ∙ alike ∙ sym s }

one_for_steps : (script : Script) (steps : List Step) (a b : ℕ) (x y : List ℕ) → IsDueForSteps script steps a x → IsDueForSteps script steps b y → AreSame a b x y
one_for_steps script steps a b x y (complete is p q) (complete also r s) = both p q r s refl refl
one_for_steps script steps a b x y (complete is p q) (faulty fault at other r s) = absurd (other (no_fault script steps fault is at))
one_for_steps script steps a b x y (faulty fault at other p q) (complete is r s) = absurd (other (no_fault script steps fault is at))
one_for_steps script steps a b x y (faulty f at other p q) (faulty g here another r s) =
    both p q r s refl (ap journal_fault_line (only_fault script steps f g at here other another))

lines_or_bad : (journal : List ℕ) (steps : List Step) (line : ℕ) → IsJournalOf journal steps → IsBadLine journal line → ⊥
lines_or_bad journal steps line lines bad =
    let none : [] ≡ bad.rest = (same_steps steps bad.steps [] bad.rest lines.fit bad.fit nothing_begins bad.bad (append-nil (steps_text steps) ∙ sym lines.is ∙ bad.is)).1 in
    omega (arith, bad.some, ap length none)

one_bad : (journal : List ℕ) (l m : ℕ) → IsBadLine journal l → IsBadLine journal m → l ≡ m
one_bad journal l m one two =
    let same : one.steps ≡ two.steps = (same_steps one.steps two.steps one.rest two.rest one.fit two.fit one.bad two.bad (sym one.is ∙ two.is)).0 in
    one.number ∙ ap (λ (xs : List Step). length xs + 1) same ∙ sym two.number

one_list : (journal : List ℕ) (xs ys : List Step) → IsJournalOf journal xs → IsJournalOf journal ys → xs ≡ ys
one_list journal xs ys one two = (same_steps xs ys [] [] one.fit two.fit nothing_begins nothing_begins (ap (λ (t : List ℕ). t ++ []) (sym one.is ∙ two.is))).0

one_for_journal : (script : Script) (journal : List ℕ) (a b : ℕ) (x y : List ℕ) → IsDueForJournal script journal a x → IsDueForJournal script journal b y → AreSame a b x y
one_for_journal script journal a b x y (bad_line l one p q) (bad_line m two r s) = both p q r s refl (ap (replay_line (codes "BadLine")) (one_bad journal l m one two))
one_for_journal script journal a b x y (bad_line l one p q) (in_lines steps lines due) = absurd (lines_or_bad journal steps l lines one)
one_for_journal script journal a b x y (in_lines steps lines due) (bad_line l one p q) = absurd (lines_or_bad journal steps l lines one)
one_for_journal script journal a b x y (in_lines xs one due) (in_lines ys two other) =
    one_for_steps script xs a b x y due (subst (λ (s : List Step). IsDueForSteps script s b y) (sym (one_list journal xs ys one two)) other)

pub one_is_due : (input : List ℕ) (a b : ℕ) (x y : List ℕ) → IsDueFor input a x → IsDueFor input b y → AreSame a b x y
one_is_due input a b x y (too_long over p q) (too_long also r s) = both p q r s refl refl
one_is_due input a b x y (too_long over p q) (refused fault within is r s) = absurd (omega (arith, over, within))
one_is_due input a b x y (too_long over p q) (held script within is due) = absurd (omega (arith, over, within))
one_is_due input a b x y (refused fault within is p q) (too_long over r s) = absurd (omega (arith, over, within))
one_is_due input a b x y (refused fault within is p q) (refused other short also r s) =
    let same : Err fault ≡ Err other = one_reading (script_part input) (Err fault) (Err other) is also in
    both p q r s refl (ap fault_line (cc))
one_is_due input a b x y (refused fault within is p q) (held script short holds due) = absurd (is.1 (answers_apart (script_part input) script fault holds is.0))
one_is_due input a b x y (held script within is due) (too_long over r s) = absurd (omega (arith, over, within))
one_is_due input a b x y (held script within is due) (refused fault short fails r s) = absurd (fails.1 (answers_apart (script_part input) script fault is fails.0))
one_is_due input a b x y (held s within is due) (held t short also other) =
    one_for_journal s (journal_part input) a b x y due
    (subst (λ (script : Script). IsDueForJournal script (journal_part input) b y) (sym (one_script (script_part input) s t is also)) other)

-- ---- which statuses are due
steps_reply : (script : Script) (steps : List Step) (a : ℕ) (x : List ℕ) → IsDueForSteps script steps a x → IsReply a
steps_reply script steps a x (complete is p q) = inl p
steps_reply script steps a x (faulty fault at other p q) = inr (inr p)

journal_reply : (script : Script) (journal : List ℕ) (a : ℕ) (x : List ℕ) → IsDueForJournal script journal a x → IsReply a
journal_reply script journal a x (bad_line l one p q) = inr (inr p)
journal_reply script journal a x (in_lines steps lines due) = steps_reply script steps a x due

due_reply : (input : List ℕ) (a : ℕ) (x : List ℕ) → IsDueFor input a x → IsReply a
due_reply input a x (too_long over p q) = inr (inl p)
due_reply input a x (refused fault within is p q) = inr (inl p)
due_reply input a x (held script within is due) = journal_reply script (journal_part input) a x due

-- a status that is due is none of a fault or of want of memory
pub record IsCalm (due : ℕ) : Type 0 where
  pub not_four : due ≡ 4 → ⊥
  pub not_five : due ≡ 5 → ⊥
  pub not_six : due ≡ 6 → ⊥

pub reply_calm : (due : ℕ) → IsReply due → IsCalm due
reply_calm due (inl is) = record { not_four = λ e. omega (arith, is, e); not_five = λ e. omega (arith, is, e); not_six = λ e. omega (arith, is, e) }
reply_calm due (inr (inl is)) = record { not_four = λ e. omega (arith, is, e); not_five = λ e. omega (arith, is, e); not_six = λ e. omega (arith, is, e) }
reply_calm due (inr (inr is)) = record { not_four = λ e. omega (arith, is, e); not_five = λ e. omega (arith, is, e); not_six = λ e. omega (arith, is, e) }

-- ---- from what was answered to the clauses
module _ (input : List ℕ) (old new : Option (List ℕ)) (status : ℕ) where
  pub replies_answer : Replies (IsDueFor input) old new status → (due : ℕ) (text : List ℕ) → IsDueFor input due text → Answers due text old new status
  replies_answer (told d t is answers) due text also =
      let same = one_is_due input d due t text is also in
      subst (λ (x : List ℕ). Answers due x old new status) same.text (subst (λ (s : ℕ). Answers s t old new status) same.status answers)
  replies_answer (silent which none) due text also =
      let calm = reply_calm due (due_reply input due text also) in
      record {
        whole = λ e. absurd (out which calm e);
        sink_failed = λ e. absurd (five which e);
        memory = λ e. record { piece = []; appended = none; prefix = record { rest = text; whole = refl } };
        source_failed = λ e. none;
        no_other = other which;
      }
    where
      out : (status ≡ number SourceFailed) ⊎ (status ≡ number Memory) → IsCalm due → status ≡ due → ⊥
      out (inl four) calm e = calm.not_four (sym e ∙ four)
      out (inr six) calm e = calm.not_six (sym e ∙ six)

      five : (status ≡ number SourceFailed) ⊎ (status ≡ number Memory) → status ≡ 5 → ⊥
      five (inl four) e = omega (arith, four, e)
      five (inr six) e = omega (arith, six, e)

      other : (status ≡ number SourceFailed) ⊎ (status ≡ number Memory) → IsDueOrFailed due status
      other (inl four) = inr (inl four)
      other (inr six) = inr (inr (inr six))

  pub replies_cause : Replies (IsDueFor input) old new status → IsReply status → (text : List ℕ) × IsDueFor input status text
  replies_cause (told d t is answers) reply = (t, go answers.no_other)
    where
      calm : IsCalm status
      calm = reply_calm status reply

      go : IsDueOrFailed d status → IsDueFor input status t
      go (inl same) = subst (λ (s : ℕ). IsDueFor input s t) (sym same) is
      go (inr (inl four)) = absurd (calm.not_four four)
      go (inr (inr (inl fives))) = absurd (calm.not_five fives)
      go (inr (inr (inr six))) = absurd (calm.not_six six)
  replies_cause (silent (inl four) none) reply = absurd ((reply_calm status reply).not_four four)
  replies_cause (silent (inr six) none) reply = absurd ((reply_calm status reply).not_six six)

-- all clauses of a replay
pub replayed : (ends : Ends) (status : Status) → ((input : List ℕ) → ends.left ≡ Some input → Replies (IsDueFor input) ends.written ends.written_after (number status))
    → ((status ≡ Done) ⊎ (status ≡ NotReplayed) → IsAtEnd ends.left_after)
    → ((input : List ℕ) → ends.left ≡ Some input → length input ≤ REPLAY_LIMIT → status ≡ Refused → IsAtEnd ends.left_after)
    → (status ≡ SourceFailed → Rose ends.source_faults ends.source_faults_after) → (status ≡ SinkFailed → Rose ends.sink_faults ends.sink_faults_after)
    → IsReply (number status) ⊎ ((number status ≡ number SourceFailed) ⊎ ((number status ≡ number SinkFailed) ⊎ (number status ≡ number Memory)))
    → Replays ends (number status)
replayed ends status replies read refused_read source sink statuses = record {
  replies = replies;
  answers = λ input due text left is. replies_answer input ends.written ends.written_after (number status) (replies input left) due text is;
  cause = λ input left reply. replies_cause input ends.written ends.written_after (number status) (replies input left) reply;
  complete = λ input due text left is fine.
      calm fine due (replies_answer input ends.written ends.written_after (number status) (replies input left) due text is).no_other;
  read = at_end;
  refused_read = λ input left short e. refused_read input left short (number-same status Refused e);
  source_failed = λ e. source (number-same status SourceFailed e);
  sink_failed = λ e. sink (number-same status SinkFailed e);
  statuses = statuses;
}
  where
    at_end : (number status ≡ number Done) ⊎ (number status ≡ number NotReplayed) → IsAtEnd ends.left_after
    at_end (inl e) = read (inl (number-same status Done e))
    at_end (inr e) = read (inr (number-same status NotReplayed e))

    calm : NoFault ends → (due : ℕ) → IsDueOrFailed due (number status) → (number status ≡ due) ⊎ (number status ≡ number Memory)
    calm fine due (inl is) = inl is
    calm fine due (inr (inl is)) = absurd (fine.source (source (number-same status SourceFailed is)))
    calm fine due (inr (inr (inl is))) = absurd (fine.sink (sink (number-same status SinkFailed is)))
    calm fine due (inr (inr (inr is))) = inr is

-- ---- the parts
-- a line or a text that is due was written
pub gives : {is_due : ℕ → List ℕ → Type 0} {old new : Option (List ℕ)} {faults faults_after : ℕ} (due : Status) (text : List ℕ) (status : Status) → IsReply (number due) → is_due (number due) text
    → Answers (number due) text old new (number status) → (status ≡ due) ⊎ ((status ≡ SinkFailed) ⊎ (status ≡ Memory)) → (status ≡ SinkFailed → Rose faults faults_after)
    → Gives is_due old new faults faults_after status
gives due text status reply is answers statuses rose =
    record { replies = told (number due) text is answers; sink_failed = rose; not_source = λ e. not_four statuses e }
  where
    not_four : (status ≡ due) ⊎ ((status ≡ SinkFailed) ⊎ (status ≡ Memory)) → status ≡ SourceFailed → ⊥
    not_four (inl same) e = (reply_calm (number due) reply).not_four (ap number (sym same ∙ e))
    not_four (inr (inl same)) e = absurd (cc)
    not_four (inr (inr same)) e = absurd (cc)

-- a text that needed no memory
pub narrow : {status due : Status} → (status ≡ due) ⊎ (status ≡ SinkFailed) → (status ≡ due) ⊎ ((status ≡ SinkFailed) ⊎ (status ≡ Memory))
narrow (inl is) = inl is
narrow (inr is) = inr (inl is)

-- what is due for a part is due for the whole
pub gives_more : {is_due also : ℕ → List ℕ → Type 0} {old new : Option (List ℕ)} {faults faults_after : ℕ} {status : Status} → ((due : ℕ) (text : List ℕ) → is_due due text → also due text)
    → Gives is_due old new faults faults_after status → Gives also old new faults faults_after status
gives_more {is_due} {also} {old} {new} {faults} {faults_after} {status} more g = record { replies = go g.replies; sink_failed = g.sink_failed; not_source = g.not_source }
  where
    go : Replies is_due old new (number status) → Replies also old new (number status)
    go (told due text is answers) = told due text (more due text is) answers
    go (silent which none) = silent which none

-- every step has a line
few_steps : (steps : List Step) → length steps ≤ length (steps_text steps)
few_steps [] = omega arith
few_steps (s ∷ steps) = omega (arith, few_steps steps, length-append (step_text s) (steps_text steps), some_line s)
  where
    some_line : (s : Step) → 1 ≤ length (step_text s)
    some_line (Step.Admit comp) = omega arith
    some_line (Step.Enter comp micro) = omega arith
    some_line (Step.Leave comp) = omega arith
    some_line (Step.Abandon comp) = omega arith
    some_line (Step.Release comp micro) = omega arith
    some_line (Step.End comp) = omega arith

pub as_few : (journal : List ℕ) (steps : List Step) (most : ℕ) → steps_text steps ≡ journal → length journal < most → length steps < most
as_few journal steps most is few = omega (arith, few, few_steps steps, ap (λ (t : List ℕ). length t) is)

-- ---- an input
told_statuses : (input : List ℕ) (old new : Option (List ℕ)) (status : ℕ) → Replies (IsDueFor input) old new status
    → IsReply status ⊎ ((status ≡ number SourceFailed) ⊎ ((status ≡ number SinkFailed) ⊎ (status ≡ number Memory)))
told_statuses input old new status (told due text is answers) = go answers.no_other
  where
    go : IsDueOrFailed due status → IsReply status ⊎ ((status ≡ number SourceFailed) ⊎ ((status ≡ number SinkFailed) ⊎ (status ≡ number Memory)))
    go (inl same) = inl (subst IsReply (sym same) (due_reply input due text is))
    go (inr failed) = inr failed
told_statuses input old new status (silent (inl four) none) = inr (inl four)
told_statuses input old new status (silent (inr six) none) = inr (inr (inr six))

-- all of it was read
pub text_replayed : (ends : Ends) (text : List ℕ) (status : Status) → ((input : List ℕ) → ends.left ≡ Some input → input ≡ text) → IsAtEnd ends.left_after
    → Gives (IsDueFor text) ends.written ends.written_after ends.sink_faults ends.sink_faults_after status → Replays ends (number status)
text_replayed ends text status whole at_end gave =
    replayed ends status
    (λ input left. subst (λ (t : List ℕ). Replies (IsDueFor t) ends.written ends.written_after (number status)) (sym (whole input left)) gave.replies)
    (λ e. at_end) (λ input left short e. at_end) (λ e. absurd (gave.not_source e)) gave.sink_failed
    (told_statuses text ends.written ends.written_after (number status) gave.replies)

-- it is too long
pub long_replayed : (ends : Ends) (status : Status) → ((input : List ℕ) → ends.left ≡ Some input → REPLAY_LIMIT < length input)
    → Answers (number Refused) (fault_line TooLong) ends.written ends.written_after (number status) → (status ≡ Refused) ⊎ ((status ≡ SinkFailed) ⊎ (status ≡ Memory))
    → (status ≡ SinkFailed → Rose ends.sink_faults ends.sink_faults_after) → Replays ends (number status)
long_replayed ends status over answers statuses rose =
    replayed ends status (λ input left. told (number Refused) (fault_line TooLong) (too_long (over input left) refl refl) answers)
    (λ e. absurd (not_whole statuses e)) (λ input left short e. absurd (omega (arith, short, over input left))) (λ e. absurd (not_source statuses e)) rose (named statuses)
  where
    not_whole : (status ≡ Refused) ⊎ ((status ≡ SinkFailed) ⊎ (status ≡ Memory)) → (status ≡ Done) ⊎ (status ≡ NotReplayed) → ⊥
    not_whole (inl i) (inl e) = absurd (cc)
    not_whole (inl i) (inr e) = absurd (cc)
    not_whole (inr (inl i)) (inl e) = absurd (cc)
    not_whole (inr (inl i)) (inr e) = absurd (cc)
    not_whole (inr (inr i)) (inl e) = absurd (cc)
    not_whole (inr (inr i)) (inr e) = absurd (cc)

    not_source : (status ≡ Refused) ⊎ ((status ≡ SinkFailed) ⊎ (status ≡ Memory)) → status ≡ SourceFailed → ⊥
    not_source (inl i) e = absurd (cc)
    not_source (inr (inl i)) e = absurd (cc)
    not_source (inr (inr i)) e = absurd (cc)

    named : (status ≡ Refused) ⊎ ((status ≡ SinkFailed) ⊎ (status ≡ Memory))
        → IsReply (number status) ⊎ ((number status ≡ number SourceFailed) ⊎ ((number status ≡ number SinkFailed) ⊎ (number status ≡ number Memory)))
    named (inl i) = inl (inr (inl (ap number i)))
    named (inr (inl i)) = inr (inr (inl (ap number i)))
    named (inr (inr i)) = inr (inr (inr (ap number i)))
