-- What `enter` answers.
use Rattle.std.specs.Prelude.{◌≡◌, ℕ, false, length, Option, Some, None}
use Rattle.samoa_invariant.specs.Picking.{NoEnterIsDue}
use Rattle.samoa_invariant.specs.State.{AllEnded}
use Rattle.samoa_invariant.specs.Runs.{Trace, has_abandon, state}
use Rattle.samoa_control.specs.Turns.{Going}
use Rattle.samoa_kernel.specs.declared.board.Entered.{Entered}
use Rattle.samoa_kernel.specs.Boards.{BoardSeat, Finds, IsBusy, IsPicked, IsStopped, Shows, begun}

-- the answer is the one for this core; each excludes the others
abbrev pub IsAnswer : {B : Type 0} → Trace → Entered B → Type 0
IsAnswer t (Entered.Work turn) = IsPicked t turn
IsAnswer t (Entered.Busy out) = IsBusy t out
IsAnswer t Entered.AllEnded = AllEnded (state t)
IsAnswer t Entered.Stopped = IsStopped t

-- the answer comes exactly where it is due: what holds of the core decides it
pub record IsExact {B : Type 0} (t : Trace) (answer : Entered B) : Type 0 where
  pub all_ended : AllEnded (state t) → answer ≡ Entered.AllEnded
  pub stopped : IsStopped t → answer ≡ Entered.Stopped
  pub busy : (AllEnded (state t) → ⊥) → has_abandon t.journal ≡ false → NoEnterIsDue t
      → (count : ℕ) × (answer ≡ Entered.Busy count)

-- the core after this answer, and the hand: for Work there is one Enter more, and its place is in the hand
abbrev pub after : {B : Type 0} → Trace → Entered B → Trace
after t (Entered.Work turn) = begun t turn
after t _ = t

abbrev pub hand_after : {B : Type 0} → Trace → Entered B → Option ℕ
hand_after t (Entered.Work turn) = Some (length t.journal)
hand_after t _ = None

-- the call found a core, gave the answer for it, and made the steps of this answer
pub record HasEntered {B : Type 0} (old : BoardSeat) (answer : Entered B) (new : BoardSeat) : Type 0 where
  pub found : Trace
  pub finds : Finds old found
  pub right : IsAnswer found answer
  pub exact : IsExact found answer
  pub shows : Shows new (after found answer) (hand_after found answer)

abbrev pub IfWork : {B : Type 0} → Entered B → (Going → Type 0) → Type 0
IfWork (Entered.Work turn) P = P turn
IfWork _ P = Unit {0}
