-- The whole core state, its steps, and when each is enabled.
use Rattle.std.specs.Prelude.{◌≡◌, ◌≢◌, ℕ, zero, suc, ◌+◌, ◌-◌, ◌*◌, ◌<◌, ◌≤◌, List, [], ◌∷◌, map, Bool, true, false, nat_lt, Option, Some, None, ◌==◌, if◌then◌else◌}
use Rattle.samoa_model.specs.declared.handler.Moment.{Moment}
use Rattle.samoa_model.specs.declared.handler.Outcome.{Outcome}
use Rattle.samoa_model.specs.declared.script.Decl.{Decl}
use Rattle.samoa_serial.specs.declared.call.Call.{Call}
use Rattle.samoa_serial.specs.State.{State}
use Rattle.samoa_serial.specs.Calls.{Computation, start, take_outcome}
use Rattle.samoa_serial.specs.Alone.{next_step}
use Rattle.samoa_model.specs.Scripts.{Table}
use Rattle.samoa_serial.specs.World.{attempts_of}
use Rattle.samoa_model.specs.Allowed.{weight}
use Rattle.samoa_model.specs.Paths.{MayRelease, handlers_by}
use Rattle.samoa_versions.specs.Counters.{IsTurn}
use Rattle.samoa_invariant.specs.Slots.{At, put_at}
use Rattle.samoa_invariant.specs.Play.{Play, turns, weight_at, is_bound, ends_call, IsIdle}

-- the core: how many were admitted; the present tables by node; by slot the global and local versions, the boxes and
-- to whom they are out; the cells held; whether a step was abandoned; and by computation its table, the interval of
-- versions that it holds at each slot, from one up to below the private one, its calls, how many of its handler steps
-- were made, and whether it has ended
pub record Core : Type 0 where
  pub count : ℕ
  pub present : ℕ → Table
  pub global : At ℕ
  pub local : At ℕ
  pub boxes : At State
  pub out : At (Option ℕ)
  pub cells : ℕ
  pub stopped : Bool
  pub table : ℕ → Table
  pub from : ℕ → At ℕ
  pub private : ℕ → At ℕ
  pub comp : ℕ → Computation
  pub made : ℕ → ℕ
  pub ended : ℕ → Bool

-- a function with another value at one place
abbrev pub put : {A : Type 0} → (ℕ → A) → ℕ → A → ℕ → A
put f k new j = if j == k then new else f j

-- the computation may be done with p, by the handlers of its active calls and those of its waiting calls in its own table
abbrev pub Quiet : Decl → Table → Computation → ℕ → Type 0
Quiet decl table comp p = MayRelease decl (map (λ a. a.call.handler) comp.active) (handlers_by table (map (λ w. w.event) comp.waiting)) p

-- the steps of the core, and the clear
pub data Step : Type 0 where
  Admit : Step
  Enter : ℕ → ℕ → Step
  Leave : ℕ → Step
  Abandon : ℕ → Step
  Release : ℕ → ℕ → Step
  End : ℕ → Step
  Clear : Step

-- the next computation is admitted: it changes the table, takes its versions and attempts its root call, all at once
abbrev pub admit : Play → Core → Core
admit P core =
    let k = core.count in
    let new = P.change k (core.present (P.node k)) in
    record core {
      count = suc k;
      present = put core.present (P.node k) new;
      table = put core.table k new;
      global = λ v p. core.global v p + weight_at P k v p;
      from = put core.from k core.global;
      private = put core.private k (λ v p. core.global v p + weight_at P k v p);
      comp = put core.comp k (start (attempts_of (P.decl k) new) (P.budget k) (P.root k) (P.args k));
      made = put core.made k zero;
      ended = put core.ended k false;
      cells = core.cells + P.cells k;
    }

-- a box goes out to a computation
abbrev pub enter : Play → Core → ℕ → ℕ → Core
enter P core k p = record core { out = put_at core.out (P.node k) p (Some k) }

-- a call that ends under a bound gives up a part of it at once
abbrev pub raise : Decl → Outcome → ℕ
raise d o = if is_bound d then ends_call o else zero

-- the box of a call comes back with its new state, and the outcome takes effect
abbrev pub leave_at : Play → Core → ℕ → Call → Moment → Core
leave_at P core k c m =
    let v = P.node k in
    let p = c.handler.micro.0 in
    let new = P.step k c.handler.micro (core.boxes v p) m in
    record core {
      boxes = put_at core.boxes v p new.0;
      out = put_at core.out v p None;
      local = put_at core.local v p (core.local v p + raise (P.decl k) new.1);
      comp = put core.comp k (take_outcome (attempts_of (P.decl k) (core.table k)) (core.comp k) new.1);
      made = put core.made k (suc (core.made k));
    }

-- the box of the next handler step comes back with its new state
abbrev pub leave_next : Play → Core → ℕ → Option (Call × Moment) → Core
leave_next P core k None = core
leave_next P core k (Some next) = leave_at P core k next.0 next.1

-- a box comes back as it went out, and the core is stopped
abbrev pub abandon : Play → Core → ℕ → ℕ → Core
abandon P core k p = record core { out = put_at core.out (P.node k) p None; stopped = true }

-- a box that is out is that of the next handler step
abbrev pub abandon_next : Play → Core → ℕ → Option (Call × Moment) → Core
abandon_next P core k None = record core { stopped = true }
abandon_next P core k (Some next) = abandon P core k next.0.handler.micro.0

-- the local version becomes the private one
abbrev pub release : Play → Core → ℕ → ℕ → Core
release P core k p = record core { local = put_at core.local (P.node k) p (core.private k (P.node k) p) }

-- a computation has ended
abbrev pub finish : Core → ℕ → Core
finish core k = record core { ended = put core.ended k true }

-- the core after a step
abbrev pub made_by : Play → Core → Step → Core
made_by P core Step.Admit = admit P core
made_by P core (Step.Enter k p) = enter P core k p
made_by P core (Step.Leave k) = leave_next P core k (next_step (core.comp k))
made_by P core (Step.Abandon k) = abandon_next P core k (next_step (core.comp k))
made_by P core (Step.Release k p) = release P core k p
made_by P core (Step.End k) = finish core k
made_by P core Step.Clear = record core { cells = zero }

-- computation k has its turn at p of its node: the local version is one of those that it holds there
pub record HasTurn (P : Play) (core : Core) (k p : ℕ) : Type 0 where
  pub admitted : k < core.count
  pub turn : IsTurn (core.local (P.node k) p) (core.from k (P.node k) p) (core.private k (P.node k) p)
  pub open turn use *

-- there is one more external event, and its cells fit
pub record CanAdmit (P : Play) (core : Core) : Type 0 where
  pub room : core.count < P.most
  pub cells : core.cells + P.cells core.count ≤ P.most_cells

-- computation k is at its next handler step, which is at p
pub record IsNextAt (comp : Computation) (p : ℕ) : Type 0 where
  pub call : Call
  pub moment : Moment
  pub next : next_step comp ≡ Some (call, moment)
  pub is_at : call.handler.micro.0 ≡ p

-- the computation isn't out, and its next handler step is at a microprotocol where it has its turn and the box is
-- home, in a core that isn't stopped
pub record CanEnter (P : Play) (core : Core) (k p : ℕ) : Type 0 where
  pub next : IsNextAt (core.comp k) p
  pub not_out : (v q : ℕ) → core.out v q ≢ Some k
  pub turn : HasTurn P core k p
  pub home : core.out (P.node k) p ≡ None
  pub running : core.stopped ≡ false

-- the box is out to the computation
pub record IsOut (P : Play) (core : Core) (k p : ℕ) : Type 0 where
  pub admitted : k < core.count
  pub out : core.out (P.node k) p ≡ Some k

-- the computation is out somewhere
pub record CanLeave (P : Play) (core : Core) (k : ℕ) : Type 0 where
  pub slot : ℕ
  pub out : IsOut P core k slot

-- the computation has its turn and may be done with p
pub record CanRelease (P : Play) (core : Core) (k p : ℕ) : Type 0 where
  pub turn : HasTurn P core k p
  pub quiet : Quiet (P.decl k) (core.table k) (core.comp k) p

-- the computation hasn't ended, nothing is left, and it is past each microprotocol that it declares
pub record CanEnd (P : Play) (core : Core) (k : ℕ) : Type 0 where
  pub admitted : k < core.count
  pub not_ended : core.ended k ≡ false
  pub idle : IsIdle (core.comp k)
  pub past : (p : ℕ) → 0 < weight (P.decl k) p → core.private k (P.node k) p ≤ core.local (P.node k) p

-- all have ended
pub record CanClear (core : Core) : Type 0 where
  pub all : (k : ℕ) → k < core.count → core.ended k ≡ true

-- a step is enabled
abbrev pub IsEnabled : Play → Core → Step → Type 0
IsEnabled P core Step.Admit = CanAdmit P core
IsEnabled P core (Step.Enter k p) = CanEnter P core k p
IsEnabled P core (Step.Leave k) = CanLeave P core k
IsEnabled P core (Step.Abandon k) = CanLeave P core k
IsEnabled P core (Step.Release k p) = CanRelease P core k p
IsEnabled P core (Step.End k) = CanEnd P core k
IsEnabled P core Step.Clear = CanClear core

-- the core before anything is admitted
abbrev pub empty : Play → Core
empty P = record {
  count = zero;
  present = P.first_tables;
  global = λ v p. zero;
  local = λ v p. zero;
  boxes = P.first_states;
  out = λ v p. None;
  cells = zero;
  stopped = false;
  table = λ k. [];
  from = λ k v p. zero;
  private = λ k v p. zero;
  comp = λ k. record { active = []; books = record { units = zero; waiting = []; entries = [] }; answer = None };
  made = λ k. zero;
  ended = λ k. false;
}

-- the cores that a run of enabled steps reaches
pub data Reached (P : Play) : Core → Type 0 where
  Opening : Reached P (empty P)
  Later : (core : Core) (step : Step) → Reached P core → IsEnabled P core step → Reached P (made_by P core step)

-- each computation that was admitted has ended
abbrev pub AllEnded : Core → Type 0
AllEnded core = (k : ℕ) → k < core.count → core.ended k ≡ true

-- no release and no end is due
pub record IsSettled (P : Play) (core : Core) : Type 0 where
  pub released : (k p : ℕ) → CanRelease P core k p → ⊥
  pub ended : (k : ℕ) → CanEnd P core k → ⊥

-- every box is home
abbrev pub NothingOut : Core → Type 0
NothingOut core = (v p : ℕ) → core.out v p ≡ None

-- no computation can enter a box
abbrev pub NoneEnters : Play → Core → Type 0
NoneEnters P core = (k p : ℕ) → CanEnter P core k p → ⊥

-- the least computation that has not ended
pub record IsLeastOpen (core : Core) (k : ℕ) : Type 0 where
  pub admitted : k < core.count
  pub here : core.ended k ≡ false
  pub before : (j : ℕ) → j < k → core.ended j ≡ true

-- a step that neither admits, nor abandons, nor clears
abbrev pub IsForward : Step → Type 0
IsForward Step.Admit = ⊥
IsForward (Step.Enter k p) = Unit {0}
IsForward (Step.Leave k) = Unit {0}
IsForward (Step.Abandon k) = ⊥
IsForward (Step.Release k p) = Unit {0}
IsForward (Step.End k) = Unit {0}
IsForward Step.Clear = ⊥

-- the microprotocols that a declaration names
abbrev pub named : Decl → List ℕ
named (Decl.Set micros) = micros
named (Decl.Bound bounds) = map (λ b. b.0) bounds
named (Decl.Route vertices roots edges) = map (λ v. v.micro.0) vertices

-- how many steps there may still be: twice the handler steps to come, one while the computation isn't out, one for each slot to release, one for the end
abbrev pub not_out_by : ℕ → Option ℕ → ℕ
not_out_by k None = suc zero
not_out_by k (Some j) = if j == k then zero else suc zero

-- 1 where a computation isn't out at its next handler step
abbrev pub home_of : Play → Core → ℕ → Option (Call × Moment) → ℕ
home_of P core k None = suc zero
home_of P core k (Some next) = not_out_by k (core.out (P.node k) next.0.handler.micro.0)

-- 1 where a local version is below a private one
abbrev pub short_at : Bool → ℕ
short_at true = suc zero
short_at false = zero

-- how many of these microprotocols a computation isn't past
abbrev pub shorts : (ℕ → ℕ) → (ℕ → ℕ) → List ℕ → ℕ
shorts private local [] = zero
shorts private local (q ∷ qs) = short_at (nat_lt (local q) (private q)) + shorts private local qs

-- 1 where a computation hasn't ended
abbrev pub to_end : Bool → ℕ
to_end true = zero
to_end false = suc zero

-- the steps of a computation that may still come
abbrev pub left_of : Play → Core → ℕ → ℕ
left_of P core k =
    2 * (turns P k - core.made k)
    + (home_of P core k (next_step (core.comp k)) + (shorts (core.private k (P.node k)) (core.local (P.node k)) (named (P.decl k)) + to_end (core.ended k)))

-- the sum of the first n values
abbrev pub sum_to : (ℕ → ℕ) → ℕ → ℕ
sum_to f zero = zero
sum_to f (suc n) = sum_to f n + f n

-- the steps that may still come
abbrev pub left : Play → Core → ℕ
left P core = sum_to (left_of P core) core.count

-- the cores that enters, leaves, releases and ends lead to
pub data GoesOnTo (P : Play) (core : Core) : Core → Type 0 where
  There : GoesOnTo P core core
  Further : (mid : Core) (step : Step) → IsForward step → GoesOnTo P core mid → IsEnabled P mid step → GoesOnTo P core (made_by P mid step)

-- the cells of the first n external events
abbrev pub cells_to : Play → ℕ → ℕ
cells_to P zero = zero
cells_to P (suc n) = cells_to P n + P.cells n

-- a whole run: the first n are admitted, and all have ended
pub record WholeRun (P : Play) (n : ℕ) : Type 0 where
  pub core : Core
  pub reached : Reached P core
  pub count : core.count ≡ n
  pub all : AllEnded core
