-- Settling, by what holds of the steps that it adds: the releases that are enabled, and then the ends, until none is.
use Rattle.std.specs.Prelude.{◌≡◌, ℕ, ◌<◌, ◌≤◌, ◌⊎◌, List, [], ◌∷◌, ◌++◌}
use Rattle.std.specs.List.{All, AllPairs}
use Rattle.samoa_model.specs.declared.record.Step.{Step}
use Rattle.samoa_invariant.specs.State.{Core, left}
use Rattle.samoa_invariant.specs.Runs.{IsDue, IsRun, Trace, play, state, with_step}

-- more steps
abbrev pub with_steps : Trace → List Step → Trace
with_steps t steps = record t { journal = t.journal ++ steps }

-- each of these steps is enabled where it is made
abbrev pub AreDue : Trace → List Step → Type 0
AreDue t [] = Unit {0}
AreDue t (step ∷ later) = IsDue t step × AreDue (with_step t step) later

abbrev pub IsRelease : Step → Type 0
IsRelease (Step.Admit comp) = ⊥
IsRelease (Step.Enter comp micro) = ⊥
IsRelease (Step.Leave comp) = ⊥
IsRelease (Step.Abandon comp) = ⊥
IsRelease (Step.Release comp micro) = Unit {0}
IsRelease (Step.End comp) = ⊥

abbrev pub IsEnd : Step → Type 0
IsEnd (Step.Admit comp) = ⊥
IsEnd (Step.Enter comp micro) = ⊥
IsEnd (Step.Leave comp) = ⊥
IsEnd (Step.Abandon comp) = ⊥
IsEnd (Step.Release comp micro) = ⊥
IsEnd (Step.End comp) = Unit {0}

-- of two releases, that of the lesser computation stands first, and of one computation that of the lesser microprotocol
abbrev pub ReleasesFirst : Step → Step → Type 0
ReleasesFirst (Step.Release j p) (Step.Release k q) = (j < k) ⊎ ((j ≡ k) × (p < q))
ReleasesFirst _ _ = ⊥

-- of two ends, that of the lesser computation stands first
abbrev pub EndsFirst : Step → Step → Type 0
EndsFirst (Step.End j) (Step.End k) = j < k
EndsFirst _ _ = ⊥

-- enabled releases were made, by rising computation, then rising microprotocol, and none is enabled any more
pub record ReleasesAll (before after : Trace) : Type 0 where
  pub steps : List Step
  pub made : after ≡ with_steps before steps
  pub due : AreDue before steps
  pub releases : All IsRelease steps
  pub rising : AllPairs ReleasesFirst steps
  pub none : (comp micro : ℕ) → IsDue after (Step.Release comp micro) → ⊥

-- enabled ends were made, by rising computation, and none is enabled any more
pub record EndsAll (before after : Trace) : Type 0 where
  pub steps : List Step
  pub made : after ≡ with_steps before steps
  pub due : AreDue before steps
  pub ends : All IsEnd steps
  pub rising : AllPairs EndsFirst steps
  pub none : (comp : ℕ) → IsDue after (Step.End comp) → ⊥

-- all releases were made, and then all ends
pub record Settles (before after : Trace) : Type 0 where
  pub between : Trace
  pub releases : ReleasesAll before between
  pub ends : EndsAll between after

-- what releases and ends leave as it was: all but local versions and what has ended
pub record IsUnmoved (before after : Core) : Type 0 where
  pub count : after.count ≡ before.count
  pub present : after.present ≡ before.present
  pub global : after.global ≡ before.global
  pub boxes : after.boxes ≡ before.boxes
  pub out : after.out ≡ before.out
  pub cells : after.cells ≡ before.cells
  pub stopped : after.stopped ≡ before.stopped
  pub table : after.table ≡ before.table
  pub from : after.from ≡ before.from
  pub private : after.private ≡ before.private
  pub comp : after.comp ≡ before.comp
  pub made : after.made ≡ before.made

-- a run that releases and ends have brought on: nothing else has moved, and no more is left to do
pub record LeavesTheRest (before after : Trace) : Type 0 where
  pub run : IsRun after
  pub unmoved : IsUnmoved (state before) (state after)
  pub not_more : left (play after) (state after) ≤ left (play before) (state before)

-- a release of this computation at a microprotocol below this one
abbrev pub IsReleaseOf : ℕ → ℕ → Step → Type 0
IsReleaseOf comp micro (Step.Release j p) = (j ≡ comp) × (p < micro)
IsReleaseOf comp micro _ = ⊥

-- a release of an earlier computation
abbrev pub IsReleaseBefore : ℕ → Step → Type 0
IsReleaseBefore comp (Step.Release j p) = j < comp
IsReleaseBefore comp _ = ⊥

-- an end of an earlier computation
abbrev pub IsEndBefore : ℕ → Step → Type 0
IsEndBefore comp (Step.End j) = j < comp
IsEndBefore comp _ = ⊥

-- enabled releases of one computation were made, by rising microprotocol, and none is enabled below this one
pub record ReleasesOf (before after : Trace) (comp micro : ℕ) : Type 0 where
  pub steps : List Step
  pub made : after ≡ with_steps before steps
  pub due : AreDue before steps
  pub releases : All (IsReleaseOf comp micro) steps
  pub rising : AllPairs ReleasesFirst steps
  pub none : (p : ℕ) → p < micro → IsDue after (Step.Release comp p) → ⊥

-- enabled releases of the computations before this one were made, in rising order, and none of theirs is enabled
pub record ReleasesBefore (before after : Trace) (comp : ℕ) : Type 0 where
  pub steps : List Step
  pub made : after ≡ with_steps before steps
  pub due : AreDue before steps
  pub releases : All (IsReleaseBefore comp) steps
  pub rising : AllPairs ReleasesFirst steps
  pub none : (j p : ℕ) → j < comp → IsDue after (Step.Release j p) → ⊥

-- enabled ends of the computations before this one were made, in rising order, and none of theirs is enabled
pub record EndsBefore (before after : Trace) (comp : ℕ) : Type 0 where
  pub steps : List Step
  pub made : after ≡ with_steps before steps
  pub due : AreDue before steps
  pub ends : All (IsEndBefore comp) steps
  pub rising : AllPairs EndsFirst steps
  pub none : (j : ℕ) → j < comp → IsDue after (Step.End j) → ⊥
