-- Who begins the next handler step, what goes on where nothing is out, and what is out.
use Rattle.std.specs.Prelude.{◌≡◌, ℕ, ◌-◌, ◌<◌, ◌⊎◌, Option, Some, None}
use Rattle.samoa_model.specs.declared.record.Step.{Step}
use Rattle.samoa_invariant.specs.State as model
use Rattle.samoa_invariant.specs.Runs.{IsDue, Trace, play, state}

-- no Enter is due
abbrev pub NoEnterIsDue : Trace → Type 0
NoEnterIsDue t = (comp micro : ℕ) → IsDue t (Step.Enter comp micro) → ⊥

-- the least computation whose Enter is due
pub record IsFirstToEnter (t : Trace) (comp : ℕ) : Type 0 where
  pub micro : ℕ
  pub due : IsDue t (Step.Enter comp micro)
  pub least : (earlier p : ℕ) → earlier < comp → IsDue t (Step.Enter earlier p) → ⊥

-- what is picked: the least computation whose Enter is due, if there is one
abbrev pub IsPick : Trace → Option ℕ → Type 0
IsPick t None = NoEnterIsDue t
IsPick t (Some comp) = IsFirstToEnter t comp

-- the least computation that hasn't ended
pub record IsLeastUnended (t : Trace) (comp : ℕ) : Type 0 where
  pub number : 0 < comp
  pub least : model.IsLeastOpen (state t) (comp - 1)

-- a release, the end, or the next handler step of the computation is due
abbrev pub GoesOnItself : Trace → ℕ → Type 0
GoesOnItself t comp = ((micro : ℕ) × IsDue t (Step.Release comp micro)) ⊎ (IsDue t (Step.End comp) ⊎ ((micro : ℕ) × IsDue t (Step.Enter comp micro)))

-- a microprotocol of its node is out to the computation
pub record IsOutTo (t : Trace) (comp micro : ℕ) : Type 0 where
  pub number : 0 < comp
  pub out : (state t).out ((play t).node (comp - 1)) micro ≡ Some (comp - 1)

-- a step by which what is out to the computation comes back
abbrev pub BringsBack : ℕ → Step → Type 0
BringsBack comp (Step.Leave other) = other ≡ comp
BringsBack comp (Step.Abandon other) = other ≡ comp
BringsBack comp _ = ⊥

-- an Enter of the computation
abbrev pub IsEnterOf : ℕ → Step → Type 0
IsEnterOf comp (Step.Enter other micro) = other ≡ comp
IsEnterOf comp _ = ⊥

-- the computation's calls and handler steps, and what is at the slot and to whom it is out, are as they were
pub record StaysOut (before after : Trace) (comp micro : ℕ) : Type 0 where
  pub calls : (state after).comp (comp - 1) ≡ (state before).comp (comp - 1)
  pub made : (state after).made (comp - 1) ≡ (state before).made (comp - 1)
  pub box : (state after).boxes ((play before).node (comp - 1)) micro ≡ (state before).boxes ((play before).node (comp - 1)) micro
  pub out : (state after).out ((play before).node (comp - 1)) micro ≡ Some (comp - 1)
