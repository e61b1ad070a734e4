-- Every play that has room has a whole run.
use Rattle.std.proofs.Common.{arith, ◌≡◌, ℕ, zero, suc, ◌≤◌, refl, ap, ◌∙◌, false, Option, Some, None}
use Rattle.samoa_serial.specs.declared.call.Call.{Call}
use Rattle.samoa_model.specs.declared.handler.Moment.{Moment}
use Rattle.samoa_serial.specs.Alone.{next_step}
use Rattle.samoa_invariant.specs.Play.{Play}
use Rattle.samoa_invariant.specs.State.{AllEnded, Core, CanAdmit, Further, GoesOnTo, IsForward, Later, Opening, Reached, Step, There, WholeRun, admit, cells_to, empty, leave_next, made_by}
use Rattle.samoa_invariant.proofs.refinement.Ends.{reached_keeps}
use Rattle.samoa_invariant.proofs.measure.Lefts.{all_can_end}

-- the first n are admitted, and nothing else is done
record Admitted (P : Play) (n : ℕ) : Type 0 where
  core : Core
  reached : Reached P core
  count : core.count ≡ n
  cells : core.cells ≡ cells_to P n
  running : core.stopped ≡ false

admitted_to : (P : Play) (n : ℕ) → n ≤ P.most → cells_to P n ≤ P.most_cells → Admitted P n
admitted_to P zero le fits = record { core = empty P; reached = Opening; count = refl; cells = refl; running = refl }
admitted_to P (suc n) le fits = go (admitted_to P n (omega arith) (omega arith))
  where
    go : Admitted P n → Admitted P (suc n)
    go a =
        let same : P.cells a.core.count ≡ P.cells n = ap (λ (k : ℕ). P.cells k) a.count in
        let count : a.core.count ≡ n = a.count in
        let cells : a.core.cells ≡ cells_to P n = a.cells in
        let can : CanAdmit P a.core = record { room = omega arith; cells = omega arith } in
        record {
          core = admit P a.core;
          reached = Later a.core Step.Admit a.reached can;
          count = ap suc a.count;
          cells = omega arith;
          running = a.running;
        }

left_count : (P : Play) (core : Core) (k : ℕ) (x : Option (Call × Moment)) → (leave_next P core k x).count ≡ core.count
left_count P core k None = refl
left_count P core k (Some next) = refl

step_count : (P : Play) (core : Core) (step : Step) → IsForward step → (made_by P core step).count ≡ core.count
step_count P core Step.Admit f = absurd f
step_count P core (Step.Enter k p) f = refl
step_count P core (Step.Leave k) f = left_count P core k (next_step (core.comp k))
step_count P core (Step.Abandon k) f = absurd f
step_count P core (Step.Release k p) f = refl
step_count P core (Step.End k) f = refl
step_count P core Step.Clear f = refl

goes_reached : (P : Play) (core new : Core) → Reached P core → GoesOnTo P core new → Reached P new
goes_reached P core new r There = r
goes_reached P core new r (Further mid step f before can) = Later mid step (goes_reached P core mid r before) can

goes_count : (P : Play) (core new : Core) → GoesOnTo P core new → new.count ≡ core.count
goes_count P core new There = refl
goes_count P core new (Further mid step f before can) = step_count P mid step f ∙ goes_count P core mid before

pub whole_run : (P : Play) (n : ℕ) → n ≤ P.most → cells_to P n ≤ P.most_cells → WholeRun P n
whole_run P n le fits = go (admitted_to P n le fits)
  where
    go : Admitted P n → WholeRun P n
    go a =
        let end : (new : Core) × GoesOnTo P a.core new × AllEnded new = all_can_end P a.core (reached_keeps P a.core a.reached) a.running in
        record {
          core = end.0;
          reached = goes_reached P a.core end.0 a.reached end.1;
          count = goes_count P a.core end.0 end.1 ∙ a.count;
          all = end.2;
        }
