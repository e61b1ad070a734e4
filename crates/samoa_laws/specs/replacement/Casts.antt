-- What a box sends: rebindings, and the casts that go down.
use Rattle.std.specs.Prelude.{ℕ, suc, ◌==◌, Bool, false, if◌then◌else◌, ◌≡◌, List, [], ◌∷◌, Some, slice_get, ⊤}
use Rattle.samoa_model.specs.declared.handler.Moment.{Moment}
use Rattle.samoa_model.specs.declared.handler.Moment.TheVariants.{Begin, Resume}
use Rattle.samoa_model.specs.declared.handler.Outcome.TheVariants.{Call}
use Rattle.samoa_model.specs.declared.ids.EventId.{EventId}
use Rattle.samoa_model.specs.declared.ids.ChangeId.{ChangeId}
use Rattle.samoa_model.specs.declared.setup.Setup.{Setup}
use Rattle.samoa_serial.specs.State.{ReplState}
use Rattle.samoa_serial.specs.Rows.{word, port_at}
use Rattle.samoa_laws.specs.replacement.History.{Step, asked}

abbrev pub handler_of : Moment → ℕ
handler_of (Begin handler arg) = handler
handler_of (Resume handler frame reply) = handler

abbrev pub begins_switch : Moment → Bool
begins_switch (Begin handler arg) = handler == 2
begins_switch (Resume handler frame reply) = false

-- how often `switched` began
abbrev pub switches : List Step → ℕ
switches [] = 0
switches (s ∷ earlier) = if begins_switch s.moment then suc (switches earlier) else switches earlier

-- the last step was one of `switched`, and called
abbrev pub CalledOn : List Step → Type 0
CalledOn [] = ⊥
CalledOn (s ∷ earlier) =
    (handler_of s.moment ≡ 2) × (event : EventId) × (arg : List ℕ) × (frame : List ℕ) × (s.outcome ≡ Call event arg frame)

-- of `switched`: the i-th begin has the argument of the i-th change that was asked for; and a resume comes next after the
-- call that it resumes, since no step of this box is within that call
abbrev pub MaySwitch : List Step → Moment → Type 0
MaySwitch earlier (Begin handler arg) = handler ≡ 2 → (c : ChangeId) × (slice_get (asked earlier) (switches earlier) ≡ Some (c, arg))
MaySwitch earlier (Resume handler frame reply) = handler ≡ 2 → CalledOn earlier

abbrev pub IsRebound : List Step → Type 0
IsRebound [] = ⊤
IsRebound (s ∷ earlier) = MaySwitch earlier s.moment × IsRebound earlier

-- the call of a step that left this state: a message of its epoch goes down, and casts are not held
pub record IsCast (setup : Setup) (s : ReplState) (event : EventId) (arg : List ℕ) : Type 0 where
  pub port : event ≡ port_at setup 0
  pub epoch : word arg 0 ≡ s.epoch
  pub free : s.hold ≡ 0
