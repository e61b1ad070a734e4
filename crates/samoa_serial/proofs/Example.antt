-- A small stack, computed: handler 0.0 calls event 1, asks for event 2 to wait, and is done with a reply of its own.
use Rattle.std.proofs.Common.{zero, suc, [], ◌∷◌, ◌++◌, length, refl, ℕ, List, ◌≡◌}
use Rattle.samoa_model.specs.declared.ids.EventId.{EventId}
use Rattle.samoa_model.specs.declared.ids.HandlerId.{HandlerId}
use Rattle.samoa_model.specs.declared.handler.Reply.{Reply}
use Rattle.samoa_model.specs.declared.handler.Moment.{Moment}
use Rattle.samoa_model.specs.declared.handler.Outcome.{Outcome}
use Rattle.samoa_model.specs.declared.record.Entry.{Entry}
use Rattle.samoa_model.specs.declared.record.Ending.{Ending}
use Rattle.samoa_model.specs.Allowed.{Attempt}
use Rattle.samoa_serial.specs.State.{State, Registers}
use Rattle.samoa_serial.specs.World.{Rules, States}
use Rattle.samoa_serial.specs.Whole.{event_whole}

w : ℕ → List ℕ
w n = n ∷ []

ev : ℕ → EventId
ev n = record { 0 = n }

hd : ℕ → HandlerId
hd n = record { micro = record { 0 = n }; index = 0 }

-- a state that remembers one word more
recalls : List ℕ → State → State
recalls arg (Registers words) = Registers (arg ++ words)
recalls arg _ = Registers arg

frame_steps : List ℕ → State → State × Outcome
frame_steps (zero ∷ []) s = (s, Outcome.Later (ev 2) (w 9) (w 1))
frame_steps _ s = (s, Outcome.Done (w 7))

steps : ℕ → State → Moment → State × Outcome
steps zero s (Moment.Begin index arg) = (s, Outcome.Call (ev 1) arg (w 0))
steps zero s (Moment.Resume index frame reply) = frame_steps frame s
steps _ s (Moment.Begin index arg) = (recalls arg s, Outcome.Done (w 5))
steps _ s (Moment.Resume index frame reply) = (s, Outcome.Done (w 6))

answers : ℕ → Attempt
answers zero = Attempt.Accepts (hd 0) []
answers (suc zero) = Attempt.Accepts (hd 1) (hd 1 ∷ [])
answers _ = Attempt.Accepts (hd 2) []

example : Rules
unfolding steps answers frame_steps recalls w ev hd
example = record { step = λ p s m. steps p.0 s m; attempt = λ es caller event. answers event.0 }

start_states : States
start_states = λ p. Registers []

-- what it comes to, and with one turn alone
comes_to : ((event_whole example 4 start_states (ev 0) (w 3)).value ≡ Ending.Replied (Reply.Words (w 7)))
    × (length (event_whole example 4 start_states (ev 0) (w 3)).world.turns ≡ 6)
    × ((event_whole example 4 start_states (ev 0) (w 3)).world.entries ≡
    Entry.Accepted 1 0 (hd 0) (w 3) ∷ Entry.Accepted 2 1 (hd 1) (w 3) ∷ Entry.Accepted 3 1 (hd 1) (w 3) ∷ Entry.Finished 2 (w 5) ∷ Entry.Finished 3 (w 5)
    ∷ Entry.Waiting 1 (ev 2) (w 9) ∷ Entry.Finished 1 (w 7) ∷ Entry.Accepted 4 1 (hd 2) (w 9) ∷ Entry.Finished 4 (w 5) ∷ [])
    × ((event_whole example 4 start_states (ev 0) (w 3)).world.states 1 ≡ Registers (3 ∷ 3 ∷ []))
    × ((event_whole example 1 start_states (ev 0) (w 3)).value ≡ Ending.Cut)
unfolding example start_states steps answers frame_steps recalls w ev hd
comes_to = (refl, refl, refl, refl, refl)
