-- What is read off an outcome goes with its port.
use Rattle.std.proofs.Common.{◌≡◌, ℕ, List, [], ◌∷◌, sym, ap, ◌∙◌, subst, Some, None, ◌==◌, if◌then◌else◌}
use Rattle.samoa_serial.specs.Rows.{word, V, call, port_at, message_at, message_words}
use Rattle.samoa_serial.specs.State.{AbcastState, SeqcastState}
use Rattle.samoa_serial.specs.AbcastTable.{abcast_step}
use Rattle.samoa_serial.specs.SeqcastTable.{seqcast_step}
use Rattle.samoa_model.specs.declared.handler.Moment.{Moment}
use Rattle.samoa_model.specs.declared.handler.Outcome.{Outcome}
use Rattle.samoa_serial.specs.declared.message.Message.{Message}
use Rattle.samoa_model.specs.declared.setup.Setup.{Setup}
use Rattle.samoa_laws.specs.broadcasts.Boxes.{raised_by}
use Rattle.samoa_laws.specs.broadcasts.Seqcast.{told_by}
use Rattle.std.specs.Prelude.{⊤}
use Rattle.samoa_laws.proofs.broadcasts.Outcomes.{same_event, same_words, same_frame, no_call, one_zero}
use Rattle.samoa_laws.proofs.broadcasts.Given.{Given, NoCall, OfCast, OfPending, Upwards, step_fine, Sent, NotSent, SentCast, SentNumber, SentUp, step_sent}

-- any message
abbrev Any : Message → Type 0
Any m = ⊤

abcast_gives : (setup : Setup) (s : AbcastState) (moment : Moment) → Given Any setup moment (abcast_step setup s moment).1
abcast_gives setup s moment = (step_fine Any setup s moment (λ m h. tt) (λ arg e tag. tt)).1

abbrev Pair : Type 0
Pair = ℕ × Message

same_some : (a b : Pair) → Some a ≡ Some b → a ≡ b
same_some a b e = cc

nothing_some : (a : Pair) → None ≡ Some a → ⊥
nothing_some a e = cc

pub abcast_read : (setup : Setup) (s : AbcastState) (moment : Moment) (arg frame : List ℕ) → (port_at setup 2 ≡ port_at setup 0 → ⊥) → (port_at setup 2 ≡ port_at setup 1 → ⊥)
    → (abcast_step setup s moment).1 ≡ Outcome.Call (port_at setup 2) arg frame → raised_by (abcast_step setup s moment).1 ≡ Some (word frame 1, message_at arg 0)
abcast_read setup s moment arg frame first second e =
    ap raised_by e ∙ ap (λ (fs : List ℕ). if word fs 0 == 1 then Some (word frame 1, message_at arg 0) else None) (frame_up (subst (Given Any setup moment) e (abcast_gives setup s moment))).1
  where
    frame_up : Given Any setup moment (Outcome.Call (port_at setup 2) arg frame) → (x : ℕ) × (frame ≡ 1 ∷ x ∷ [])
    frame_up (NoCall h) = absurd (no_call (port_at setup 2) arg frame [] h)
    frame_up (OfCast a b h) = absurd (first (same_event (port_at setup 2) (port_at setup 0) arg (0 ∷ message_words (message_at a 0)) frame (0 ∷ []) h))
    frame_up (OfPending i m good h) = absurd (second (same_event (port_at setup 2) (port_at setup 1) arg (i ∷ message_words m) frame (0 ∷ []) h))
    frame_up (Upwards x m h) = (x, same_frame (port_at setup 2) (port_at setup 2) arg (message_words m) frame (1 ∷ x ∷ []) h)

up_is : (o : Outcome) (setup : Setup) (port x y : ℕ) (m k : Message) → o ≡ call setup port (message_words k) (1 ∷ y ∷ []) → raised_by o ≡ Some (x, m)
    → o ≡ call setup port (message_words m) (1 ∷ x ∷ [])
up_is o setup port x y m k e r =
    let same : ◌≡◌ {A = Pair} (y, k) (x, m) = same_some (y, k) (x, m) (sym (ap raised_by e) ∙ r) in
    e ∙ ap (λ (u : Pair). call setup port (message_words u.1) (1 ∷ u.0 ∷ [])) same

pub abcast_read_back : (setup : Setup) (s : AbcastState) (moment : Moment) (x : ℕ) (m : Message) → raised_by (abcast_step setup s moment).1 ≡ Some (x, m)
    → (abcast_step setup s moment).1 ≡ call setup 2 (message_words m) (1 ∷ x ∷ [])
abcast_read_back setup s moment x m r = go (abcast_gives setup s moment)
  where
    o : Outcome
    o = (abcast_step setup s moment).1

    go : Given Any setup moment o → o ≡ call setup 2 (message_words m) (1 ∷ x ∷ [])
    go (NoCall e) = absurd (nothing_some (x, m) (sym (ap raised_by e) ∙ r))
    go (OfCast a b e) = absurd (nothing_some (x, m) (sym (ap raised_by e) ∙ r))
    go (OfPending i k good e) = absurd (nothing_some (x, m) (sym (ap raised_by e) ∙ r))
    go (Upwards y k e) = up_is o setup 2 x y m k e r

pub seqcast_read : (setup : Setup) (s : SeqcastState) (moment : Moment) (arg frame : List ℕ) → (port_at setup 1 ≡ port_at setup 0 → ⊥)
    → (seqcast_step setup s moment).1 ≡ Outcome.Call (port_at setup 1) arg frame → raised_by (seqcast_step setup s moment).1 ≡ Some (word frame 1, message_at arg 0)
seqcast_read setup s moment arg frame apart e =
    ap raised_by e ∙ ap (λ (fs : List ℕ). if word fs 0 == 1 then Some (word frame 1, message_at arg 0) else None) (frame_up (subst (Sent setup moment) e (step_sent setup s moment))).1
  where
    frame_up : Sent setup moment (Outcome.Call (port_at setup 1) arg frame) → (x : ℕ) × (frame ≡ 1 ∷ x ∷ [])
    frame_up (NotSent h) = absurd (no_call (port_at setup 1) arg frame [] h)
    frame_up (SentCast a b h) =
        absurd (apart (same_event (port_at setup 1) (port_at setup 0) arg (V setup 1 ∷ V setup 0 ∷ 0 ∷ message_words (message_at a 0)) frame (0 ∷ []) h))
    frame_up (SentNumber x m h) =
        absurd (apart (same_event (port_at setup 1) (port_at setup 0) arg (setup.nodes ∷ V setup 0 ∷ 1 ∷ x ∷ message_words m) frame (0 ∷ []) h))
    frame_up (SentUp x m h) = (x, same_frame (port_at setup 1) (port_at setup 1) arg (message_words m) frame (1 ∷ x ∷ []) h)

pub seqcast_read_back : (setup : Setup) (s : SeqcastState) (moment : Moment) (x : ℕ) (m : Message) → raised_by (seqcast_step setup s moment).1 ≡ Some (x, m)
    → (seqcast_step setup s moment).1 ≡ call setup 1 (message_words m) (1 ∷ x ∷ [])
seqcast_read_back setup s moment x m r = go (step_sent setup s moment)
  where
    o : Outcome
    o = (seqcast_step setup s moment).1

    go : Sent setup moment o → o ≡ call setup 1 (message_words m) (1 ∷ x ∷ [])
    go (NotSent e) = absurd (nothing_some (x, m) (sym (ap raised_by e) ∙ r))
    go (SentCast a b e) = absurd (nothing_some (x, m) (sym (ap raised_by e) ∙ r))
    go (SentNumber y k e) = absurd (nothing_some (x, m) (sym (ap raised_by e) ∙ r))
    go (SentUp y k e) = up_is o setup 1 x y m k e r

-- a call for sending with the tag 1 tells a message with its number
pub told_said : (setup : Setup) (moment : Moment) (arg frame : List ℕ) → (port_at setup 1 ≡ port_at setup 0 → ⊥) → word arg 2 ≡ 1
    → Sent setup moment (Outcome.Call (port_at setup 0) arg frame) → told_by (Outcome.Call (port_at setup 0) arg frame) ≡ Some (word arg 3, message_at arg 4)
told_said setup moment arg frame apart tag sent = go sent
  where
    words : (ws : List ℕ) → Outcome.Call (port_at setup 0) arg frame ≡ Outcome.Call (port_at setup 0) ws (0 ∷ []) → arg ≡ ws
    words ws h = same_words (port_at setup 0) (port_at setup 0) arg ws frame (0 ∷ []) h

    go : Sent setup moment (Outcome.Call (port_at setup 0) arg frame) → told_by (Outcome.Call (port_at setup 0) arg frame) ≡ Some (word arg 3, message_at arg 4)
    go (NotSent h) = absurd (no_call (port_at setup 0) arg frame [] h)
    go (SentCast a b h) =
        absurd (one_zero (sym tag ∙ ap (λ (ws : List ℕ). word ws 2) (words (V setup 1 ∷ V setup 0 ∷ 0 ∷ message_words (message_at a 0)) h)))
    go (SentNumber x m h) =
        ap told_by h ∙ ap (λ (ws : List ℕ). Some (word ws 3, message_at ws 4)) (sym (words (setup.nodes ∷ V setup 0 ∷ 1 ∷ x ∷ message_words m) h))
    go (SentUp x m h) = absurd (apart (sym (same_event (port_at setup 0) (port_at setup 1) arg (message_words m) frame (1 ∷ x ∷ []) h)))

pub told_read : (setup : Setup) (s : SeqcastState) (moment : Moment) (arg frame : List ℕ) → (port_at setup 1 ≡ port_at setup 0 → ⊥) → word arg 2 ≡ 1
    → (seqcast_step setup s moment).1 ≡ Outcome.Call (port_at setup 0) arg frame → told_by (seqcast_step setup s moment).1 ≡ Some (word arg 3, message_at arg 4)
told_read setup s moment arg frame apart tag e =
    ap told_by e ∙ told_said setup moment arg frame apart tag (subst (Sent setup moment) e (step_sent setup s moment))

pub told_read_back : (setup : Setup) (s : SeqcastState) (moment : Moment) (x : ℕ) (m : Message) → told_by (seqcast_step setup s moment).1 ≡ Some (x, m)
    → (seqcast_step setup s moment).1 ≡ call setup 0 (setup.nodes ∷ V setup 0 ∷ 1 ∷ x ∷ message_words m) (0 ∷ [])
told_read_back setup s moment x m r = go (step_sent setup s moment)
  where
    o : Outcome
    o = (seqcast_step setup s moment).1

    go : Sent setup moment o → o ≡ call setup 0 (setup.nodes ∷ V setup 0 ∷ 1 ∷ x ∷ message_words m) (0 ∷ [])
    go (NotSent e) = absurd (nothing_some (x, m) (sym (ap told_by e) ∙ r))
    go (SentCast a b e) = absurd (nothing_some (x, m) (sym (ap told_by e) ∙ r))
    go (SentNumber y k e) =
        let same : ◌≡◌ {A = Pair} (y, k) (x, m) = same_some (y, k) (x, m) (sym (ap told_by e) ∙ r) in
        e ∙ ap (λ (u : Pair). call setup 0 (setup.nodes ∷ V setup 0 ∷ 1 ∷ u.0 ∷ message_words u.1) (0 ∷ [])) same
    go (SentUp y k e) = absurd (nothing_some (x, m) (sym (ap told_by e) ∙ r))
