-- What holds after every history of a box of abcast.
use Rattle.std.proofs.Common.{◌≡◌, inl, inr, ℕ, suc, ◌^◌, ◌+◌, ◌<◌, ◌≤◌, List, [], ◌∷◌, length, refl, sym, ap, subst, arith, Option, Some}
use Rattle.samoa_serial.specs.Rows.{word, message_at}
use Rattle.samoa_serial.specs.State.{AbcastState}
use Rattle.samoa_serial.specs.AbcastTable.{abcast_step}
use Rattle.samoa_model.specs.declared.handler.Moment.{Moment}
use Rattle.samoa_model.specs.declared.handler.Outcome.{Outcome}
use Rattle.samoa_serial.specs.declared.message.Message.{Message}
use Rattle.samoa_model.specs.declared.setup.Setup.{Setup}
use Rattle.samoa_laws.specs.lists.Lists.{Comparable, In}
use Rattle.samoa_laws.specs.lists.Messages.{first_of_keys, first_places}
use Rattle.samoa_laws.specs.trace.Boxes.{BoxStep, IsStep, left_by, noted}
use Rattle.samoa_laws.specs.broadcasts.Boxes.{raised_by, raised, called_up}
use Rattle.samoa_laws.specs.broadcasts.Abcast.{abcast_opening, AbcastMay, IsAbcast, up_to, WasDecided}
use Rattle.samoa_laws.proofs.broadcasts.Handed.{few_passed, none_handed, shape, comparable, called_valid}
use Rattle.samoa_laws.proofs.broadcasts.AbcastKeeps.{KeptBy, After, IsShort, Fits, step_keeps}

-- the decisions that these steps begin with are valid
abbrev AreValid : (ℕ → Message → Type 0) → List (BoxStep AbcastState) → Type 0
AreValid Phi steps =
    (s : BoxStep AbcastState) → In s steps → (arg : List ℕ) → s.moment ≡ Moment.Begin 2 arg → Phi (word arg 0) (message_at arg 1)

fits : (message : ℕ → Option Message) (Phi : ℕ → Message → Type 0) (earlier : List (BoxStep AbcastState)) (moment : Moment)
    → AbcastMay message earlier moment → ((arg : List ℕ) → moment ≡ Moment.Begin 2 arg → Phi (word arg 0) (message_at arg 1))
    → Fits message Phi (raised earlier) moment
fits message Phi earlier (Moment.Begin handler arg) may valid = λ t. (may t, valid arg (ap (λ (h : ℕ). Moment.Begin h arg) t))
fits message Phi earlier (Moment.Resume handler frame reply) may valid = may

pub kept : (message : ℕ → Option Message) (Phi : ℕ → Message → Type 0) (setup : Setup) (steps : List (BoxStep AbcastState)) → IsAbcast setup message steps
    → AreValid Phi steps → IsShort (length steps) → KeptBy message Phi (length steps) (left_by abcast_opening steps) (raised steps)
kept message Phi setup [] history valid small = record {
  stands = record { passed = 0; comes = refl; handed = none_handed message Phi; keys = λ k. refl };
  few = omega arith;
}
kept message Phi setup (s ∷ earlier) history valid small =
    go history.0 (kept message Phi setup earlier history.2 (λ t at. valid t (inr at)) (omega arith))
  where
    us : List (ℕ × Message)
    us = raised earlier

    Result : AbcastState → Outcome → Type 0
    Result new outcome = KeptBy message Phi (suc (length earlier)) new (noted us (raised_by outcome) s.effective)

    go : IsStep (abcast_step setup) abcast_opening earlier s → KeptBy message Phi (length earlier) (left_by abcast_opening earlier) us
        → Result s.new s.outcome
    go step ih =
        let old : KeptBy message Phi (length earlier) s.old us =
        subst (λ (x : AbcastState). KeptBy message Phi (length earlier) x us) (sym step.old) ih in
        let after : After message Phi (suc (length earlier)) us (abcast_step setup s.old s.moment) =
        step_keeps message Phi (length earlier) us setup s.old s.moment small (fits message Phi earlier s.moment history.1 (valid s (inl refl))) old in
        subst (λ (x : AbcastState). Result x s.outcome) (sym step.new)
        (subst (λ (o : Outcome). Result (abcast_step setup s.old s.moment).0 o) (sym step.outcome) (after s.effective))

all_decided : (steps : List (BoxStep AbcastState)) → AreValid (WasDecided steps) steps
all_decided steps s at arg e = (s, arg, at, e, refl, refl)

-- ---- the laws
pub order_is : (message : ℕ → Option Message) (setup : Setup) (steps : List (BoxStep AbcastState)) → IsAbcast setup message steps → length steps < 2 ^ 32
    → (n : ℕ) × (first_places (called_up steps) ≡ first_of_keys (up_to message n))
order_is message setup steps history small =
    let k : KeptBy message (WasDecided steps) (length steps) (left_by abcast_opening steps) (raised steps) =
    kept message (WasDecided steps) setup steps history (all_decided steps) small in
    shape message (WasDecided steps) (left_by abcast_opening steps).decisions k.stands.passed (raised steps) k.stands.handed

pub orders_agree : (message : ℕ → Option Message) (setup other : Setup) (steps more : List (BoxStep AbcastState))
    → IsAbcast setup message steps → IsAbcast other message more → length steps < 2 ^ 32 → length more < 2 ^ 32
    → Comparable (first_places (called_up steps)) (first_places (called_up more))
orders_agree message setup other steps more history history' small small' =
    comparable message (raised steps) (raised more) (order_is message setup steps history small) (order_is message other more history' small')

pub called_was_decided : (message : ℕ → Option Message) (setup : Setup) (steps : List (BoxStep AbcastState)) → IsAbcast setup message steps → length steps < 2 ^ 32
    → (m : Message) → In m (called_up steps) → (i : ℕ) × (message i ≡ Some m) × WasDecided steps i m
called_was_decided message setup steps history small m at =
    let k : KeptBy message (WasDecided steps) (length steps) (left_by abcast_opening steps) (raised steps) =
    kept message (WasDecided steps) setup steps history (all_decided steps) small in
    called_valid message (WasDecided steps) (left_by abcast_opening steps).decisions k.stands.passed (raised steps) k.stands.handed m at

-- the next instance is at most the steps and one more, so it is far from the end of its type
pub next_is_low : (message : ℕ → Option Message) (setup : Setup) (steps : List (BoxStep AbcastState)) → IsAbcast setup message steps → length steps < 2 ^ 32
    → (left_by abcast_opening steps).next ≤ length steps + 1
next_is_low message setup steps history small =
    let k : KeptBy message (WasDecided steps) (length steps) (left_by abcast_opening steps) (raised steps) =
    kept message (WasDecided steps) setup steps history (all_decided steps) small in
    let le : k.stands.passed ≤ length (left_by abcast_opening steps).decisions =
    few_passed message (WasDecided steps) (left_by abcast_opening steps).decisions k.stands.passed (raised steps) k.stands.handed in
    let comes : (left_by abcast_opening steps).next ≡ suc k.stands.passed = k.stands.comes in
    let few : length (left_by abcast_opening steps).decisions ≤ length steps = k.few in
    omega arith
