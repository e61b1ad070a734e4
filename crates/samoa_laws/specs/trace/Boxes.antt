-- The history of one box: the handler steps that were made there, the last first; and those of a trace at a box.
use Rattle.std.specs.Prelude.{ℕ, ◌≡◌, Bool, true, false, ◌&&◌, ◌==◌, if◌then◌else◌, List, [], ◌∷◌, ◌++◌, Option, Some, None, ⊤}
use Rattle.samoa_model.specs.declared.handler.Moment.{Moment}
use Rattle.samoa_model.specs.declared.handler.Outcome.{Outcome}
use Rattle.samoa_serial.specs.State.{State}
use Rattle.samoa_laws.specs.trace.Trace.{HandlerStep, micro_of}

-- what a step was given, the states before and after it, what it answered, and whether that took effect:
-- a cut step leaves its new state, and its outcome has no effect
pub record BoxStep (S : Type 0) : Type 0 where
  pub moment : Moment
  pub old : S
  pub new : S
  pub outcome : Outcome
  pub effective : Bool

-- the state that these steps leave
abbrev pub left_by : {S : Type 0} → S → List (BoxStep S) → S
left_by opening [] = opening
left_by opening (s ∷ earlier) = s.new

-- a step by the table, from the state that the earlier ones left
pub record IsStep {S : Type 0} (table : S → Moment → S × Outcome) (opening : S) (earlier : List (BoxStep S)) (s : BoxStep S) : Type 0 where
  pub old : s.old ≡ left_by opening earlier
  pub new : s.new ≡ (table s.old s.moment).0
  pub outcome : s.outcome ≡ (table s.old s.moment).1

-- such steps, each of a moment that may come after the earlier ones
abbrev pub IsHistory : {S : Type 0} → (S → Moment → S × Outcome) → S → (List (BoxStep S) → Moment → Type 0) → List (BoxStep S) → Type 0
IsHistory table opening May [] = ⊤
IsHistory table opening May (s ∷ earlier) = IsStep table opening earlier s × May earlier s.moment × IsHistory table opening May earlier

-- any moment may come
abbrev pub Anything : {S : Type 0} → List (BoxStep S) → Moment → Type 0
Anything earlier moment = ⊤

-- the list, with one more at its end where there is one and it counts
abbrev pub noted : {A : Type 0} → List A → Option A → Bool → List A
noted xs None counts = xs
noted xs (Some x) true = xs ++ x ∷ []
noted xs (Some x) false = xs

-- ---- the steps of a trace at the box of microprotocol p at node v
abbrev pub is_at : ℕ → ℕ → HandlerStep → Bool
is_at v p x = (x.node == v) && (micro_of x == p)

-- a step as one of its box, where `of` reads the states of the microprotocol
abbrev pub box_step : {S : Type 0} → (State → S) → HandlerStep → BoxStep S
box_step of x = record { moment = x.moment; old = of x.old; new = of x.new; outcome = x.outcome; effective = x.effective }

abbrev pub box_steps : {S : Type 0} → (State → S) → ℕ → ℕ → List HandlerStep → List (BoxStep S)
box_steps of v p [] = []
box_steps of v p (x ∷ past) = if is_at v p x then box_step of x ∷ box_steps of v p past else box_steps of v p past
