-- The two broadcasts' boxes, as boxes of the group stack.
use Rattle.std.proofs.Common.{◌≡◌, ℕ, refl, sym, ap, ◌∙◌, arith, List, Some, None}
use Rattle.std.specs.Prelude.{⊤}
use Rattle.samoa_model.specs.declared.handler.Moment.{Moment}
use Rattle.samoa_model.specs.declared.handler.Outcome.{Outcome}
use Rattle.samoa_model.specs.declared.ids.EventId.{EventId}
use Rattle.samoa_model.specs.declared.setup.Setup.{Setup}
use Rattle.samoa_serial.specs.AbcastTable.{abcast_step}
use Rattle.samoa_serial.specs.SeqcastTable.{seqcast_step}
use Rattle.samoa_serial.specs.Rows.{message_at, word}
use Rattle.samoa_serial.specs.State.{AbcastState, OfAbcast, OfSeqcast, SeqcastState}
use Rattle.samoa_serial.specs.declared.message.Message.{Message}
use Rattle.samoa_laws.specs.trace.Causes.{frame_of}
use Rattle.samoa_laws.specs.trace.Group.{event}
use Rattle.samoa_laws.proofs.trace.Worlds.{group_setup}
use Rattle.samoa_laws.specs.broadcasts.Boxes.{raised_by}
use Rattle.samoa_laws.specs.broadcasts.Abcast.{abcast_opening}
use Rattle.samoa_laws.specs.broadcasts.Seqcast.{seqcast_opening}
use Rattle.samoa_laws.proofs.broadcasts.AnswersByPort.{abcast_read, abcast_read_back, seqcast_read, seqcast_read_back}
use Rattle.samoa_laws.proofs.broadcasts.Given.{Given, NoCall, OfCast, OfPending, Upwards, Sent, NotSent, SentCast, SentNumber, SentUp, step_fine, step_sent}
use Rattle.samoa_laws.specs.broadcasts.Begun.{abcast_of, seqcast_of}
use Rattle.samoa_laws.proofs.broadcasts.Boxes.{Upward}

-- the frame of an outcome that is done or a call
abbrev pub IsUp : List ℕ → Outcome → Type 0
IsUp frame o = frame_of o ≡ Some frame → word frame 0 ≡ 1 → (k : Message) × (raised_by o ≡ Some (word frame 1, k))

done_up : (frame words : List ℕ) (o : Outcome) → o ≡ Outcome.Done words → IsUp frame o
done_up frame words o is has one = absurd (let none : None ≡ Some frame = sym (ap frame_of is) ∙ has in cc)

call_up : (frame : List ℕ) (to : EventId) (arg fs : List ℕ) (o : Outcome) → o ≡ Outcome.Call to arg fs → IsUp frame o
call_up frame to arg fs o is has one =
    let both : Some fs ≡ Some frame = sym (ap frame_of is) ∙ has in
    let same : fs ≡ frame = cc in
    (message_at arg 0, ap raised_by (is ∙ ap (λ (gs : List ℕ). Outcome.Call to arg gs) same) ∙ rw one refl)

pub given_up : (setup : Setup) (m : Moment) (frame : List ℕ) (o : Outcome) → Given (λ (k : Message). ⊤) setup m o → IsUp frame o
given_up setup m frame o (NoCall e) = done_up frame _ o e
given_up setup m frame o (OfCast arg at e) = call_up frame _ _ _ o e
given_up setup m frame o (OfPending i k good e) = call_up frame _ _ _ o e
given_up setup m frame o (Upwards x k e) = call_up frame _ _ _ o e

pub sent_up : (setup : Setup) (m : Moment) (frame : List ℕ) (o : Outcome) → Sent setup m o → IsUp frame o
sent_up setup m frame o (NotSent e) = done_up frame _ o e
sent_up setup m frame o (SentCast arg at e) = call_up frame _ _ _ o e
sent_up setup m frame o (SentNumber x k e) = call_up frame _ _ _ o e
sent_up setup m frame o (SentUp x k e) = call_up frame _ _ _ o e

-- the events of their ports differ
pub apart : (a b : ℕ) → (a ≡ b → ⊥) → event a ≡ event b → ⊥
apart a b differ e = differ (ap (λ (x : EventId). x.0) e)

abbrev pub abcast_box : Upward AbcastState
abcast_box = record {
  box = record {
    number = 4;
    to = OfAbcast;
    of = abcast_of;
    table = abcast_step;
    start = abcast_opening;
    back = λ s. refl;
    state = λ nodes v s m. refl;
    answer = λ nodes v s m. refl;
    opens = λ nodes v. refl;
  };
  goes_on = λ nodes v s m frame has one. given_up (group_setup nodes v 4) m frame _ (step_fine (λ (k : Message). ⊤) (group_setup nodes v 4) s m (λ k h. tt) (λ arg e tag. tt)).1 has one;
  reads = λ nodes v s m arg frame is. abcast_read (group_setup nodes v 4) s m arg frame (apart 11 8 (λ e. omega (arith, e))) (apart 11 10 (λ e. omega (arith, e))) is;
  calls = λ nodes v s m x k is. abcast_read_back (group_setup nodes v 4) s m x k is;
}

abbrev pub seqcast_box : Upward SeqcastState
seqcast_box = record {
  box = record {
    number = 5;
    to = OfSeqcast;
    of = seqcast_of;
    table = seqcast_step;
    start = seqcast_opening;
    back = λ s. refl;
    state = λ nodes v s m. refl;
    answer = λ nodes v s m. refl;
    opens = λ nodes v. refl;
  };
  goes_on = λ nodes v s m frame has one. sent_up (group_setup nodes v 5) m frame _ (step_sent (group_setup nodes v 5) s m) has one;
  reads = λ nodes v s m arg frame is. seqcast_read (group_setup nodes v 5) s m arg frame (apart 11 1 (λ e. omega (arith, e))) is;
  calls = λ nodes v s m x k is. seqcast_read_back (group_setup nodes v 5) s m x k is;
}
