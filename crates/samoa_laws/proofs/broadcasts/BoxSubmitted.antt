-- What the boxes propose, broadcast and submit was given to them.
use Rattle.std.proofs.Common.{◌≡◌, inl, inr, ℕ, List, [], ◌∷◌, refl, sym, ap, ◌∙◌, subst}
use Rattle.samoa_serial.specs.Rows.{word, V, port_at, message_at, message_words}
use Rattle.samoa_serial.specs.State.{AbcastState, SeqcastState}
use Rattle.samoa_serial.specs.AbcastTable.{abcast_step}
use Rattle.samoa_model.specs.declared.handler.Outcome.{Outcome}
use Rattle.samoa_serial.specs.declared.message.Message.{Message}
use Rattle.samoa_model.specs.declared.setup.Setup.{Setup}
use Rattle.samoa_laws.specs.lists.Lists.{In}
use Rattle.samoa_laws.specs.trace.Boxes.{BoxStep, IsStep, left_by}
use Rattle.samoa_laws.specs.broadcasts.Boxes.{WasCast}
use Rattle.samoa_laws.specs.broadcasts.Abcast.{abcast_opening, IsAbcastBox, WasHeard}
use Rattle.samoa_laws.specs.broadcasts.Seqcast.{IsSeqcastBox}
use Rattle.samoa_laws.proofs.broadcasts.Outcomes.{same_event, same_words, no_call, one_zero}
use Rattle.samoa_laws.proofs.broadcasts.Given.{Given, NoCall, OfCast, OfPending, Upwards, AreGood, Fine, Hears, step_fine, Sent, NotSent, SentCast, SentNumber, SentUp, step_sent}

-- ---- every history: all that waits is valid, and each answer is one of these
record AllFine (Psi : Message → Type 0) (setup : Setup) (steps : List (BoxStep AbcastState)) : Type 0 where
  good : AreGood Psi (left_by abcast_opening steps).pending
  given : (s : BoxStep AbcastState) → In s steps → Given Psi setup s.moment s.outcome

all_fine : (Psi : Message → Type 0) (setup : Setup) (steps : List (BoxStep AbcastState)) → IsAbcastBox setup steps
    → ((s : BoxStep AbcastState) → In s steps → Hears Psi s.moment) → AllFine Psi setup steps
all_fine Psi setup [] history hears = record { good = λ m h. absurd h; given = λ s h. absurd h }
all_fine Psi setup (s ∷ earlier) history hears =
    go history.0 (all_fine Psi setup earlier history.2 (λ t at. hears t (inr at)))
  where
    go : IsStep (abcast_step setup) abcast_opening earlier s → AllFine Psi setup earlier → AllFine Psi setup (s ∷ earlier)
    go step ih =
        let after : Fine Psi setup s.moment (abcast_step setup s.old s.moment) =
        step_fine Psi setup s.old s.moment (subst (λ (x : AbcastState). AreGood Psi x.pending) (sym step.old) ih.good) (hears s (inl refl)) in
        record {
          good = subst (λ (x : AbcastState). AreGood Psi x.pending) (sym step.new) after.0;
          given = λ t h. one t h (subst (Given Psi setup s.moment) (sym step.outcome) after.1) ih;
        }
      where
        one : (t : BoxStep AbcastState) → In t (s ∷ earlier) → Given Psi setup s.moment s.outcome → AllFine Psi setup earlier → Given Psi setup t.moment t.outcome
        one t (inl e) new ih = subst (λ (x : BoxStep AbcastState). Given Psi setup x.moment x.outcome) (sym e) new
        one t (inr h) new ih = ih.given t h

all_heard : (setup : Setup) (steps : List (BoxStep AbcastState)) → IsAbcastBox setup steps → AllFine (WasHeard steps) setup steps
all_heard setup steps history = all_fine (WasHeard steps) setup steps history (λ s at arg e tag. (s, arg, at, e, tag, refl))

-- ---- by port
-- what a box proposes was heard
pub proposes_heard : (setup : Setup) (steps : List (BoxStep AbcastState)) → IsAbcastBox setup steps → (port_at setup 1 ≡ port_at setup 0 → ⊥) → (port_at setup 1 ≡ port_at setup 2 → ⊥)
    → (s : BoxStep AbcastState) (arg frame : List ℕ) → In s steps → s.outcome ≡ Outcome.Call (port_at setup 1) arg frame → WasHeard steps (message_at arg 1)
proposes_heard setup steps history first second s arg frame at is =
    go (subst (Given (WasHeard steps) setup s.moment) is ((all_heard setup steps history).given s at))
  where
    go : Given (WasHeard steps) setup s.moment (Outcome.Call (port_at setup 1) arg frame) → WasHeard steps (message_at arg 1)
    go (NoCall e) = absurd (no_call (port_at setup 1) arg frame [] e)
    go (OfCast a b e) = absurd (first (same_event (port_at setup 1) (port_at setup 0) arg (0 ∷ message_words (message_at a 0)) frame (0 ∷ []) e))
    go (OfPending i m heard e) =
        subst (λ (ws : List ℕ). WasHeard steps (message_at ws 1)) (sym (same_words (port_at setup 1) (port_at setup 1) arg (i ∷ message_words m) frame (0 ∷ []) e)) heard
    go (Upwards x m e) = absurd (second (same_event (port_at setup 1) (port_at setup 2) arg (message_words m) frame (1 ∷ x ∷ []) e))

-- what it broadcasts was cast, and goes with the tag 0
pub broadcasts_cast : (setup : Setup) (steps : List (BoxStep AbcastState)) → IsAbcastBox setup steps → (port_at setup 0 ≡ port_at setup 1 → ⊥) → (port_at setup 0 ≡ port_at setup 2 → ⊥)
    → (s : BoxStep AbcastState) (arg frame : List ℕ) → In s steps → s.outcome ≡ Outcome.Call (port_at setup 0) arg frame → (word arg 0 ≡ 0) × WasCast steps (message_at arg 1)
broadcasts_cast setup steps history first second s arg frame at is =
    go (subst (Given (WasHeard steps) setup s.moment) is ((all_heard setup steps history).given s at))
  where
    go : Given (WasHeard steps) setup s.moment (Outcome.Call (port_at setup 0) arg frame) → (word arg 0 ≡ 0) × WasCast steps (message_at arg 1)
    go (NoCall e) = absurd (no_call (port_at setup 0) arg frame [] e)
    go (OfCast a b e) =
        let words = same_words (port_at setup 0) (port_at setup 0) arg (0 ∷ message_words (message_at a 0)) frame (0 ∷ []) e in
        (ap (λ (ws : List ℕ). word ws 0) words, (s, a, at, b, ap (λ (ws : List ℕ). message_at ws 1) (sym words)))
    go (OfPending i m heard e) = absurd (first (same_event (port_at setup 0) (port_at setup 1) arg (i ∷ message_words m) frame (0 ∷ []) e))
    go (Upwards x m e) = absurd (second (same_event (port_at setup 0) (port_at setup 2) arg (message_words m) frame (1 ∷ x ∷ []) e))

-- ---- seqcast
-- each answer is one of these
pub all_sent : (setup : Setup) (steps : List (BoxStep SeqcastState)) → IsSeqcastBox setup steps → (s : BoxStep SeqcastState) → In s steps → Sent setup s.moment s.outcome
all_sent setup [] history s at = absurd at
all_sent setup (t ∷ earlier) history s (inl e) =
    subst (λ (x : BoxStep SeqcastState). Sent setup x.moment x.outcome) (sym e) (subst (Sent setup t.moment) (sym history.0.outcome) (step_sent setup t.old t.moment))
all_sent setup (t ∷ earlier) history s (inr h) = all_sent setup earlier history.2 s h

-- what a box sends with the tag 0 was cast
pub submits_cast : (setup : Setup) (steps : List (BoxStep SeqcastState)) → IsSeqcastBox setup steps → (port_at setup 0 ≡ port_at setup 1 → ⊥)
    → (s : BoxStep SeqcastState) (arg frame : List ℕ) → In s steps → s.outcome ≡ Outcome.Call (port_at setup 0) arg frame → word arg 2 ≡ 0 → WasCast steps (message_at arg 3)
submits_cast setup steps history apart s arg frame at is tag =
    go (subst (Sent setup s.moment) is (all_sent setup steps history s at))
  where
    go : Sent setup s.moment (Outcome.Call (port_at setup 0) arg frame) → WasCast steps (message_at arg 3)
    go (NotSent e) = absurd (no_call (port_at setup 0) arg frame [] e)
    go (SentCast a b e) =
        let words = same_words (port_at setup 0) (port_at setup 0) arg (V setup 1 ∷ V setup 0 ∷ 0 ∷ message_words (message_at a 0)) frame (0 ∷ []) e in
        (s, a, at, b, ap (λ (ws : List ℕ). message_at ws 3) (sym words))
    go (SentNumber x m e) =
        absurd (one_zero (sym (ap (λ (ws : List ℕ). word ws 2) (same_words (port_at setup 0) (port_at setup 0) arg (setup.nodes ∷ V setup 0 ∷ 1 ∷ x ∷ message_words m) frame (0 ∷ []) e)) ∙ tag))
    go (SentUp x m e) = absurd (apart (same_event (port_at setup 0) (port_at setup 1) arg (message_words m) frame (1 ∷ x ∷ []) e))
