-- What is read off the outcomes of a box of consensus, by port.
use Rattle.std.proofs.Common.{◌≡◌, ℕ, List, [], ◌∷◌, take, drop, sym, ap, ◌∙◌, subst, Some}
use Rattle.samoa_serial.specs.Rows.{word, V, port_at, message_at, message_words}
use Rattle.samoa_serial.specs.State.{ConsState}
use Rattle.samoa_serial.specs.ConsTable.{letter_at, cons_step}
use Rattle.samoa_model.specs.declared.handler.Moment.{Moment}
use Rattle.samoa_model.specs.declared.handler.Outcome.{Outcome}
use Rattle.samoa_serial.specs.declared.keys.Ballot.{Ballot}
use Rattle.samoa_serial.specs.declared.message.Message.{Message}
use Rattle.samoa_model.specs.declared.setup.Setup.{Setup}
use Rattle.samoa_laws.proofs.trace.Shapes.{ConsAnnounces, ConsDecides, ConsNothing, ConsSays, ConsTells, cons-says}
use Rattle.samoa_laws.proofs.broadcasts.Outcomes.{same_event, same_words}
use Rattle.samoa_laws.specs.consensus.Consensus.{letter_by, announced_by, decided_by}

-- the words of a tell
abbrev words_told : Setup → ℕ → ℕ → Ballot → ℕ → Message → List ℕ
words_told setup to tag b ts m = to ∷ V setup 0 ∷ tag ∷ b.instance ∷ b.round ∷ ts ∷ message_words m

pub letter_read : (setup : Setup) (s : ConsState) (moment : Moment) (node : ℕ) (arg frame : List ℕ) → (port_at setup 0 ≡ port_at setup 1 → ⊥) → (port_at setup 0 ≡ port_at setup 2 → ⊥)
    → (cons_step setup s moment).1 ≡ Outcome.Call (port_at setup 0) arg frame → letter_by node (cons_step setup s moment).1 ≡ Some (letter_at (node ∷ drop 2 arg))
letter_read setup s moment node arg frame first second h =
    ap (letter_by node) h ∙ go (subst (ConsSays setup) h (cons-says setup s moment).holds)
  where
    go : ConsSays setup (Outcome.Call (port_at setup 0) arg frame) → letter_by node (Outcome.Call (port_at setup 0) arg frame) ≡ Some (letter_at (node ∷ drop 2 arg))
    go (ConsNothing d) = absurd d
    go (ConsTells to tag b ts m rest e) =
        ap (letter_by node) e
        ∙ ap (λ (ws : List ℕ). Some (letter_at (node ∷ drop 2 ws))) (sym (same_words (port_at setup 0) (port_at setup 0) arg (words_told setup to tag b ts m) frame (take 12 rest) e))
    go (ConsAnnounces i m e) = absurd (first (same_event (port_at setup 0) (port_at setup 1) arg (1 ∷ i ∷ message_words m) frame [] e))
    go (ConsDecides i m e) = absurd (second (same_event (port_at setup 0) (port_at setup 2) arg (i ∷ message_words m) frame [] e))

pub announced_read : (setup : Setup) (s : ConsState) (moment : Moment) (arg frame : List ℕ) → (port_at setup 1 ≡ port_at setup 0 → ⊥) → (port_at setup 1 ≡ port_at setup 2 → ⊥)
    → (cons_step setup s moment).1 ≡ Outcome.Call (port_at setup 1) arg frame → announced_by (cons_step setup s moment).1 ≡ Some (word arg 1, message_at arg 2)
announced_read setup s moment arg frame first second h =
    ap announced_by h ∙ go (subst (ConsSays setup) h (cons-says setup s moment).holds)
  where
    go : ConsSays setup (Outcome.Call (port_at setup 1) arg frame) → announced_by (Outcome.Call (port_at setup 1) arg frame) ≡ Some (word arg 1, message_at arg 2)
    go (ConsNothing d) = absurd d
    go (ConsTells to tag b ts m rest e) = absurd (first (same_event (port_at setup 1) (port_at setup 0) arg (words_told setup to tag b ts m) frame (take 12 rest) e))
    go (ConsAnnounces i m e) =
        ap announced_by e ∙ ap (λ (ws : List ℕ). Some (word ws 1, message_at ws 2)) (sym (same_words (port_at setup 1) (port_at setup 1) arg (1 ∷ i ∷ message_words m) frame [] e))
    go (ConsDecides i m e) = absurd (second (same_event (port_at setup 1) (port_at setup 2) arg (i ∷ message_words m) frame [] e))

pub decided_read : (setup : Setup) (s : ConsState) (moment : Moment) (arg frame : List ℕ) → (port_at setup 2 ≡ port_at setup 0 → ⊥) → (port_at setup 2 ≡ port_at setup 1 → ⊥)
    → (cons_step setup s moment).1 ≡ Outcome.Call (port_at setup 2) arg frame → decided_by (cons_step setup s moment).1 ≡ Some (word arg 0, message_at arg 1)
decided_read setup s moment arg frame first second h =
    ap decided_by h ∙ go (subst (ConsSays setup) h (cons-says setup s moment).holds)
  where
    go : ConsSays setup (Outcome.Call (port_at setup 2) arg frame) → decided_by (Outcome.Call (port_at setup 2) arg frame) ≡ Some (word arg 0, message_at arg 1)
    go (ConsNothing d) = absurd d
    go (ConsTells to tag b ts m rest e) = absurd (first (same_event (port_at setup 2) (port_at setup 0) arg (words_told setup to tag b ts m) frame (take 12 rest) e))
    go (ConsAnnounces i m e) = absurd (second (same_event (port_at setup 2) (port_at setup 1) arg (1 ∷ i ∷ message_words m) frame [] e))
    go (ConsDecides i m e) =
        ap decided_by e ∙ ap (λ (ws : List ℕ). Some (word ws 0, message_at ws 1)) (sym (same_words (port_at setup 2) (port_at setup 2) arg (i ∷ message_words m) frame [] e))
