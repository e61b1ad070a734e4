-- Histories as they come: a call upwards that is cut inside and made again, a decision that is passed over, a cut call; a sequencer that hands on its own messages.
use Rattle.std.proofs.Common.{sym, ◌≡◌, inl, inr, ℕ, Bool, true, false, List, [], ◌∷◌, refl, ap, arith, Option, Some, None, if◌then◌else◌, ◌==◌}
use Rattle.samoa_serial.specs.State.{AbcastState, SeqcastState}
use Rattle.samoa_serial.specs.AbcastTable.{abcast_step}
use Rattle.samoa_serial.specs.SeqcastTable.{seqcast_step}
use Rattle.samoa_model.specs.declared.handler.Moment.{Moment}
use Rattle.samoa_model.specs.declared.handler.Outcome.{Outcome}
use Rattle.samoa_model.specs.declared.handler.Reply.{Reply}
use Rattle.samoa_serial.specs.declared.message.Message.{Message}
use Rattle.samoa_model.specs.declared.setup.Setup.{Setup}
use Rattle.samoa_laws.specs.lists.Lists.{Comparable}
use Rattle.samoa_laws.specs.lists.Messages.{first_of_keys, first_places}
use Rattle.samoa_laws.specs.trace.Boxes.{BoxStep, IsStep, left_by}
use Rattle.samoa_laws.specs.broadcasts.Boxes.{called_up}
use Rattle.samoa_laws.specs.broadcasts.Abcast.{abcast_opening, IsAbcast, up_to}
use Rattle.samoa_laws.specs.broadcasts.Seqcast.{seqcast_opening, told, numbered, IsSeqcast}

-- all ports are one event: nothing here goes by events
abbrev setup : Setup
setup = record { node = record { 0 = 0 }; nodes = 3; ports = record { 0 = 5 } ∷ record { 0 = 5 } ∷ record { 0 = 5 } ∷ []; changes = []; nums = 3 ∷ 0 ∷ []; codes = [] }

-- one step more, by the table
abbrev more : {S : Type 0} → (S → Moment → S × Outcome) → S → List (BoxStep S) → Moment → Bool → List (BoxStep S)
more table opening steps moment effective =
    record {
      moment = moment;
      old = left_by opening steps;
      new = (table (left_by opening steps) moment).0;
      outcome = (table (left_by opening steps) moment).1;
      effective = effective;
    } ∷ steps

abbrev message : ℕ → Message
message k = record { epoch = 0; origin = 1; number = k; kind = 0; value = k }

abbrev again : Moment
again = Moment.Resume 2 (1 ∷ 1 ∷ []) (Reply.Words [])

-- instances 1 and 2 decided one message, instance 3 another
abbrev decision : ℕ → Option Message
decision i = if i == 1 then Some (message 7) else if i == 2 then Some (message 7) else if i == 3 then Some (message 8) else None

abbrev one : List (BoxStep AbcastState)
one = more (abcast_step setup) abcast_opening [] (Moment.Begin 2 (1 ∷ 0 ∷ 1 ∷ 7 ∷ 0 ∷ 7 ∷ [])) true

-- the computation was cut within the call, so there is no resume
abbrev two : List (BoxStep AbcastState)
two = more (abcast_step setup) abcast_opening one (Moment.Begin 2 (2 ∷ 0 ∷ 1 ∷ 7 ∷ 0 ∷ 7 ∷ [])) true

abbrev three : List (BoxStep AbcastState)
three = more (abcast_step setup) abcast_opening two again true

-- this call is cut
abbrev four : List (BoxStep AbcastState)
four = more (abcast_step setup) abcast_opening three (Moment.Begin 2 (3 ∷ 0 ∷ 1 ∷ 8 ∷ 0 ∷ 8 ∷ [])) false

called : called_up four ≡ message 7 ∷ message 7 ∷ []
called = refl

first : first_places (called_up four) ≡ first_of_keys (up_to decision 2)
first = refl

by_table : {S : Type 0} (table : S → Moment → S × Outcome) (opening : S) (steps : List (BoxStep S)) (moment : Moment) (effective : Bool)
    → IsStep table opening steps (record {
      moment = moment;
      old = left_by opening steps;
      new = (table (left_by opening steps) moment).0;
      outcome = (table (left_by opening steps) moment).1;
      effective = effective;
    })
by_table table opening steps moment effective = record { old = refl; new = refl; outcome = refl }

pub abcast_history : IsAbcast setup decision four
abcast_history = (
  by_table (abcast_step setup) abcast_opening three (Moment.Begin 2 (3 ∷ 0 ∷ 1 ∷ 8 ∷ 0 ∷ 8 ∷ [])) false,
  (λ e. refl),
  (
    by_table (abcast_step setup) abcast_opening two again true,
    (λ e f. (message 7, inl refl)),
    (
      by_table (abcast_step setup) abcast_opening one (Moment.Begin 2 (2 ∷ 0 ∷ 1 ∷ 7 ∷ 0 ∷ 7 ∷ [])) true,
      (λ e. refl),
      (by_table (abcast_step setup) abcast_opening [] (Moment.Begin 2 (1 ∷ 0 ∷ 1 ∷ 7 ∷ 0 ∷ 7 ∷ [])) true, (λ e. refl), tt),
    ),
  ),
)

-- what is assumed of resumes is needed: were one to come where the call before it was cut, this box would pass over what the box above called up
abbrev passes_over : List (BoxStep AbcastState)
passes_over =
    more (abcast_step setup) abcast_opening
    (more (abcast_step setup) abcast_opening
    (more (abcast_step setup) abcast_opening [] (Moment.Begin 2 (1 ∷ 0 ∷ 1 ∷ 7 ∷ 0 ∷ 7 ∷ [])) false)
    again true)
    (Moment.Begin 2 (2 ∷ 0 ∷ 1 ∷ 8 ∷ 0 ∷ 8 ∷ [])) true

differ : (k : ℕ) (rest : List Message) (j : ℕ) → message k ∷ rest ≡ message j ∷ [] → k ≡ j
differ k rest j e = ap (λ (m : Message). m.number) (head e)
  where
    head : message k ∷ rest ≡ message j ∷ [] → message k ≡ message j
    head h = cc

no_order : Comparable (first_places (called_up passes_over)) (first_places (called_up one)) → ⊥
no_order (inl p) = apart (differ 8 p.rest 7 (sym p.is))
  where
    apart : ◌≡◌ {A = ℕ} 8 7 → ⊥
    apart e = omega arith
no_order (inr p) = apart (differ 7 p.rest 8 (sym p.is))
  where
    apart : ◌≡◌ {A = ℕ} 7 8 → ⊥
    apart e = omega arith

-- ---- the sequencer: two messages are numbered, the sending of the second is cut, and the first is handed on
abbrev first_number : List (BoxStep SeqcastState)
first_number = more (seqcast_step setup) seqcast_opening [] (Moment.Begin 1 (2 ∷ 0 ∷ 0 ∷ 1 ∷ 7 ∷ 0 ∷ 7 ∷ [])) true

abbrev second_number : List (BoxStep SeqcastState)
second_number = more (seqcast_step setup) seqcast_opening first_number (Moment.Begin 1 (1 ∷ 0 ∷ 0 ∷ 1 ∷ 8 ∷ 0 ∷ 8 ∷ [])) false

abbrev gets_first : List (BoxStep SeqcastState)
gets_first = more (seqcast_step setup) seqcast_opening second_number (Moment.Begin 1 (0 ∷ 1 ∷ 1 ∷ 0 ∷ 1 ∷ 7 ∷ 0 ∷ 7 ∷ [])) true

numbers : told gets_first ≡ (1, message 7) ∷ (2, message 8) ∷ []
numbers = refl

handed : called_up gets_first ≡ message 7 ∷ []
handed = refl

-- another box of the group: the second number comes first and waits
abbrev waits : List (BoxStep SeqcastState)
waits = more (seqcast_step setup) seqcast_opening [] (Moment.Begin 1 (0 ∷ 1 ∷ 2 ∷ 0 ∷ 1 ∷ 8 ∷ 0 ∷ 8 ∷ [])) true

abbrev comes : List (BoxStep SeqcastState)
comes = more (seqcast_step setup) seqcast_opening waits (Moment.Begin 1 (0 ∷ 1 ∷ 1 ∷ 0 ∷ 1 ∷ 7 ∷ 0 ∷ 7 ∷ [])) true

abbrev goes_on : List (BoxStep SeqcastState)
goes_on = more (seqcast_step setup) seqcast_opening comes (Moment.Resume 1 (1 ∷ 1 ∷ []) (Reply.Words [])) true

-- it hands both on
pub seqcast_history : (called_up goes_on ≡ numbered gets_first) × IsSeqcast setup (told gets_first) goes_on
seqcast_history = (
  refl,
  (
    by_table (seqcast_step setup) seqcast_opening comes (Moment.Resume 1 (1 ∷ 1 ∷ []) (Reply.Words [])) true,
    (λ e f. (message 7, inl refl)),
    (
      by_table (seqcast_step setup) seqcast_opening waits (Moment.Begin 1 (0 ∷ 1 ∷ 1 ∷ 0 ∷ 1 ∷ 7 ∷ 0 ∷ 7 ∷ [])) true,
      (λ e f. inl refl),
      (by_table (seqcast_step setup) seqcast_opening [] (Moment.Begin 1 (0 ∷ 1 ∷ 2 ∷ 0 ∷ 1 ∷ 8 ∷ 0 ∷ 8 ∷ [])) true, (λ e f. inr (inl refl)), tt),
    ),
  ),
)
