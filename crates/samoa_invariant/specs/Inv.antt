-- The invariant of the core.
use Rattle.std.specs.Prelude.{◌≡◌, ℕ, suc, ◌+◌, ◌<◌, ◌≤◌, List, true, Some, take, slice_get}
use Rattle.samoa_model.specs.declared.record.Ext.{Ext}
use Rattle.samoa_serial.specs.SerialRun.{opening_states, ran_of, rules_of, serial}
use Rattle.samoa_model.specs.declared.script.Script.{Script}
use Rattle.samoa_model.specs.Scripts.{decl_of, root_of}
use Rattle.samoa_model.specs.declared.handler.Moment.{Moment}
use Rattle.samoa_serial.specs.declared.call.Call.{Call}
use Rattle.samoa_serial.specs.Alone.{next_step}
use Rattle.samoa_model.specs.Allowed.{weight}
use Rattle.samoa_versions.specs.Counters.{IsTurn}
use Rattle.samoa_invariant.specs.Play.{Play, is_bound, version, rules, point, stood, turns, table_at, table_of, attempts, whole_of, Never, NotYet, done, IsIdle}
use Rattle.samoa_invariant.specs.State.{Core, Quiet, IsNextAt}

-- what a declaration owes to the core, said of the serial run of computation k
pub record Meets (P : Play) (k : ℕ) : Type 0 where
  pub declared : (n : ℕ) (c : Call) (m : Moment) → next_step (point P k n).comp ≡ Some (c, m) → 0 < weight (P.decl k) c.handler.micro.0
  pub sound : (n p : ℕ) → Quiet (P.decl k) (table_of P k) (point P k n).comp p → Never (attempts P k) (point P k n).comp p
  pub rest : (n p : ℕ) → IsIdle (point P k n).comp → Quiet (P.decl k) (table_of P k) (point P k n).comp p
  pub counting : (n p : ℕ) → is_bound (P.decl k) ≡ true → 0 < weight (P.decl k) p → weight (P.decl k) p ≤ done (point P k n).turns p
      → Never (attempts P k) (point P k n).comp p

-- the slot's local version x is in the interval of k
abbrev pub Owns : Play → ℕ → ℕ → ℕ → ℕ → Type 0
Owns P x k v p = IsTurn x (version P k v p) (version P (suc k) v p)

-- what the core holds of tables and of the intervals of versions is that of what was admitted
pub record IsBooked (P : Play) (core : Core) : Type 0 where
  pub present : (v : ℕ) → core.present v ≡ table_at P core.count v
  pub table : (k : ℕ) → k < core.count → core.table k ≡ table_of P k
  pub from : (k v p : ℕ) → k < core.count → core.from k v p ≡ version P k v p
  pub private : (k v p : ℕ) → k < core.count → core.private k v p ≡ version P (suc k) v p

-- global versions are the sums of all weights, local ones are within them, and under a bound an owner's local version
-- has risen by its completed calls
pub record IsVersioned (P : Play) (core : Core) : Type 0 where
  pub global : (v p : ℕ) → core.global v p ≡ version P core.count v p
  pub local : (v p : ℕ) → core.local v p ≤ version P core.count v p
  pub counted : (k p : ℕ) → k < core.count → is_bound (P.decl k) ≡ true → Owns P (core.local (P.node k) p) k (P.node k) p
      → core.local (P.node k) p ≡ version P k (P.node k) p + done (point P k (core.made k)).turns p

-- before its interval a computation has made no handler step at a slot
abbrev pub NotYetThere : Play → Core → Type 0
NotYetThere P core =
    (k p : ℕ) → k < core.count → 0 < weight (P.decl k) p → core.local (P.node k) p < version P k (P.node k) p → NotYet P k (core.made k) p

-- past its interval a computation makes no handler step at a slot, whatever the handlers answer
abbrev pub NoMoreThere : Play → Core → Type 0
NoMoreThere P core =
    (k p : ℕ) → k < core.count → 0 < weight (P.decl k) p → version P (suc k) (P.node k) p ≤ core.local (P.node k) p
    → Never (attempts P k) (point P k (core.made k)).comp p

-- a box that is out is that of an admitted computation of its node, within its interval, at its next handler step
pub record IsOutRightly (P : Play) (core : Core) (v p k : ℕ) : Type 0 where
  pub admitted : k < core.count
  pub node : v ≡ P.node k
  pub owns : Owns P (core.local v p) k v p
  pub next : IsNextAt (point P k (core.made k)).comp p

-- each box that is out is out rightly
abbrev pub OutRightly : Play → Core → Type 0
OutRightly P core = (v p k : ℕ) → core.out v p ≡ Some k → IsOutRightly P core v p k

-- each box is at the serial point of the owner of its slot; where all are past, at the point after all
pub record BoxesAreSerial (P : Play) (core : Core) : Type 0 where
  pub owned : (k p : ℕ) → k < core.count → Owns P (core.local (P.node k) p) k (P.node k) p → core.boxes (P.node k) p ≡ (point P k (core.made k)).states p
  pub idle : (v p : ℕ) → core.local v p ≡ version P core.count v p → core.boxes v p ≡ stood P core.count v p

-- the calls of each computation are those of its serial run after as many handler steps
pub record CallsAreSerial (P : Play) (core : Core) : Type 0 where
  pub comp : (k : ℕ) → k < core.count → core.comp k ≡ (point P k (core.made k)).comp
  pub made : (k : ℕ) → k < core.count → core.made k ≤ turns P k

-- nothing is left of a computation, and it is past each slot that it declares
pub record IsDone (P : Play) (core : Core) (k : ℕ) : Type 0 where
  pub idle : IsIdle (point P k (core.made k)).comp
  pub past : (p : ℕ) → 0 < weight (P.decl k) p → version P (suc k) (P.node k) p ≤ core.local (P.node k) p

-- what has ended is done
abbrev pub EndedRightly : Play → Core → Type 0
EndedRightly P core = (k : ℕ) → k < core.count → core.ended k ≡ true → IsDone P core k

-- what every enabled step keeps
pub record Invariant (P : Play) (core : Core) : Type 0 where
  pub booked : IsBooked P core
  pub versions : IsVersioned P core
  pub not_yet : NotYetThere P core
  pub no_more : NoMoreThere P core
  pub out : OutRightly P core
  pub boxes : BoxesAreSerial P core
  pub calls : CallsAreSerial P core
  pub ended : EndedRightly P core

-- the entries and the ending of computation k are those of its event run whole, after the computations before it
pub record HasSerialAnswer (P : Play) (core : Core) (k : ℕ) : Type 0 where
  pub entries : (core.comp k).entries ≡ (whole_of P k).world.entries
  pub ending : (core.comp k).answer ≡ Some (whole_of P k).value

-- the play of a script and its external events, in order
pub record PlaysScript (P : Play) (s : Script) (X : List Ext) : Type 0 where
  pub first_states : P.first_states ≡ opening_states s
  pub node : (k : ℕ) (x : Ext) → slice_get X k ≡ Some x → P.node k ≡ x.node.0
  pub rules : (k : ℕ) (x : Ext) → slice_get X k ≡ Some x → rules P k ≡ rules_of s (take k X) x
  pub budget : (k : ℕ) (x : Ext) → slice_get X k ≡ Some x → P.budget k ≡ (decl_of s x).budget
  pub root : (k : ℕ) (x : Ext) → slice_get X k ≡ Some x → P.root k ≡ root_of s x.cause
  pub args : (k : ℕ) (x : Ext) → slice_get X k ≡ Some x → P.args k ≡ x.args

-- the entries and the ending of computation k are those of the script's serial run
pub record AnswersSerially (s : Script) (X : List Ext) (core : Core) (k : ℕ) (x : Ext) : Type 0 where
  pub entries : (core.comp k).entries ≡ (ran_of s (take k X) ((serial s (take k X)).states x.node.0) x).world.entries
  pub ending : (core.comp k).answer ≡ Some (ran_of s (take k X) ((serial s (take k X)).states x.node.0) x).value
