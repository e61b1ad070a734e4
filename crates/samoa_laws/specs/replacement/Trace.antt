-- A trace of the steps of many boxes, of which one is looked at; the last step stands first.
use Rattle.std.specs.Prelude.{ℕ, Bool, true, if◌then◌else◌, ◌≡◌, List, [], ◌∷◌, ◌++◌, Option, Some, None, slice_get, ⊤}
use Rattle.samoa_model.specs.declared.handler.Moment.{Moment}
use Rattle.samoa_model.specs.declared.handler.Moment.TheVariants.{Begin, Resume}
use Rattle.samoa_model.specs.declared.handler.Outcome.{Outcome}
use Rattle.samoa_model.specs.declared.handler.Outcome.TheVariants.{Done, Call, Later, Send, Deliver, Change}
use Rattle.samoa_model.specs.declared.handler.Reply.{Reply}
use Rattle.samoa_model.specs.declared.ids.ChangeId.{ChangeId}
use Rattle.samoa_model.specs.declared.setup.Setup.{Setup}
use Rattle.samoa_serial.specs.Lists.{In}
use Rattle.samoa_serial.specs.ReplTable.{repl_step}
use Rattle.samoa_laws.specs.replacement.History.{Step, left_by, given, asked}
use Rattle.samoa_laws.specs.replacement.Casts.{handler_of, switches}

-- a step of the trace: whether it is one of this box, the computation and the call that it is of, and, of this box, the step
pub record Item : Type 0 where
  pub here : Bool
  pub computation : ℕ
  pub call : ℕ
  pub step : Step

pub record SameCall (i j : Item) : Type 0 where
  pub computation : i.computation ≡ j.computation
  pub call : i.call ≡ j.call

-- the steps of this box
abbrev pub box_of : List Item → List Step
box_of [] = []
box_of (i ∷ items) = if i.here then i.step ∷ box_of items else box_of items

-- the frame that an outcome carries
abbrev pub carried : Outcome → Option (List ℕ)
carried (Done reply) = None
carried (Call event arg frame) = Some frame
carried (Later event arg frame) = Some frame
carried (Send to event arg frame) = Some frame
carried (Deliver arg frame) = Some frame
carried (Change c arg frame) = Some frame

-- a resume comes from the last step of its call, which was effective and carries its frame
pub record ResumesFrom (earlier : List Item) (i : Item) (handler : ℕ) (frame : List ℕ) : Type 0 where
  pub between : List Item
  pub from : Item
  pub before : List Item
  pub is : earlier ≡ between ++ from ∷ before
  pub here : from.here ≡ true
  pub same : SameCall from i
  pub of : handler_of from.step.moment ≡ handler
  pub carries : carried from.step.outcome ≡ Some frame
  pub effective : from.step.effective ≡ true
  pub last : (j : Item) → In j between → SameCall from j → ⊥

abbrev pub IsCaused : List Item → Item → Moment → Type 0
IsCaused earlier i (Begin handler arg) = ⊤
IsCaused earlier i (Resume handler frame reply) = ResumesFrom earlier i handler frame

-- the frame of an effective delivery or change of this box, where the last step of the trace is one
abbrev pub awaited : List Item → Option (List ℕ)
awaited [] = None
awaited (i ∷ earlier) = if i.here then given (i.step ∷ []) else None

-- after an effective delivery or change of this box the very next step of the trace is the resume of the same call
pub record ComesAtOnce (last i : Item) (frame : List ℕ) : Type 0 where
  pub here : i.here ≡ true
  pub same : SameCall last i
  pub reply : Reply
  pub resumes : i.step.moment ≡ Resume (handler_of last.step.moment) frame reply

abbrev pub GoesOnAtOnce : List Item → Item → Type 0
GoesOnAtOnce [] i = ⊤
GoesOnAtOnce (last ∷ earlier) i = (frame : List ℕ) → awaited (last ∷ earlier) ≡ Some frame → ComesAtOnce last i frame

-- a step of this box: from the state that the last such step left, by the table, and caused
pub record IsMade (setup : Setup) (earlier : List Item) (i : Item) : Type 0 where
  pub old : i.step.old ≡ left_by (box_of earlier)
  pub new : i.step.new ≡ (repl_step setup i.step.old i.step.moment).0
  pub outcome : i.step.outcome ≡ (repl_step setup i.step.old i.step.moment).1
  pub caused : IsCaused earlier i i.step.moment

abbrev pub IsTrace : Setup → List Item → Type 0
IsTrace setup [] = ⊤
IsTrace setup (i ∷ earlier) = (i.here ≡ true → IsMade setup earlier i) × GoesOnAtOnce earlier i × IsTrace setup earlier

-- ---- for the casts: what is known of `switched`
-- the i-th begin of it has the argument of the i-th change that was asked for before; and no step of this box lies within
-- a call of it that is resumed
pub record IsSwitched (earlier : List Item) (i : Item) : Type 0 where
  pub begins : (arg : List ℕ) → i.step.moment ≡ Begin 2 arg → (c : ChangeId) × (slice_get (asked (box_of earlier)) (switches (box_of earlier)) ≡ Some (c, arg))
  pub alone : (frame : List ℕ) (from : ResumesFrom earlier i 2 frame) (j : Item) → In j from.between → j.here ≡ true → ⊥

abbrev pub AllSwitched : List Item → Type 0
AllSwitched [] = ⊤
AllSwitched (i ∷ earlier) = (i.here ≡ true → IsSwitched earlier i) × AllSwitched earlier
