-- An index of a core: the queue of each slot, who may begin a handler step, and who may have a release or an end due.
-- Computations before a first one were cleared away: they have ended, and nothing is kept of them.
use Rattle.std.specs.Prelude.{◌≡◌, ◌↔◌, ℕ, ◌-◌, List, ◌<◌, ◌≤◌, Bool, true, false, ◌&&◌, ◌==◌, Option, Some, None, if◌then◌else◌}
use Rattle.samoa_model.specs.Allowed.{weight}
use Rattle.samoa_versions.specs.Ready.{is_member}
use Rattle.samoa_invariant.specs.Slots.{At, put_at}
use Rattle.samoa_invariant.specs.Play.{Play}
use Rattle.samoa_invariant.specs.State.{CanEnd, CanEnter, CanRelease, Core, put}

-- computation k is of node v and declares p
pub record Declares (P : Play) (v p k : ℕ) : Type 0 where
  pub node : v ≡ P.node k
  pub some : 0 < weight (P.decl k) p

-- the queue of a slot has those that declare it and that its local version isn't past, in the order of their admission.
-- k is the first of them
pub record IsHead (P : Play) (core : Core) (v p k : ℕ) : Type 0 where
  pub admitted : k < core.count
  pub declares : Declares P v p k
  pub short : core.local v p < core.private k v p
  pub before : (j : ℕ) → j < k → Declares P v p j → core.private j v p ≤ core.local v p

-- the queue is empty
abbrev pub IsFree : Play → Core → ℕ → ℕ → Type 0
IsFree P core v p = (j : ℕ) → j < core.count → Declares P v p j → core.private j v p ≤ core.local v p

abbrev pub IsHeadOf : Play → Core → ℕ → ℕ → Option ℕ → Type 0
IsHeadOf P core v p None = IsFree P core v p
IsHeadOf P core v p (Some k) = IsHead P core v p k

-- of the computations from the first one on, t is the last that declares the slot
pub record IsTail (P : Play) (first count v p t : ℕ) : Type 0 where
  pub from : first ≤ t
  pub admitted : t < count
  pub declares : Declares P v p t
  pub last : (j : ℕ) → t < j → j < count → Declares P v p j → ⊥

abbrev pub IsTailOf : Play → ℕ → ℕ → ℕ → ℕ → Option ℕ → Type 0
IsTailOf P first count v p None = (j : ℕ) → first ≤ j → j < count → Declares P v p j → ⊥
IsTailOf P first count v p (Some t) = IsTail P first count v p t

-- j comes next after k in the queue of p at k's node
pub record IsAfter (P : Play) (count k p j : ℕ) : Type 0 where
  pub admitted : j < count
  pub later : k < j
  pub declares : Declares P (P.node k) p j
  pub between : (i : ℕ) → k < i → i < j → Declares P (P.node k) p i → ⊥

-- none comes after k
abbrev pub IsLast : Play → ℕ → ℕ → ℕ → Type 0
IsLast P count k p = (i : ℕ) → k < i → i < count → Declares P (P.node k) p i → ⊥

abbrev pub IsNextOf : Play → ℕ → ℕ → ℕ → Option ℕ → Type 0
IsNextOf P count k p None = IsLast P count k p
IsNextOf P count k p (Some j) = IsAfter P count k p j

-- the core as if no handler step had been abandoned
abbrev pub running : Core → Core
running core = record core { stopped = false }

-- the computation's next handler step may begin, but for an abandoned one
abbrev pub MayEnter : Play → Core → ℕ → Type 0
MayEnter P core k = (p : ℕ) × CanEnter P (running core) k p

-- a test says whether the computation may enter
abbrev pub TellsEntry : Play → Core → ℕ → Bool → Type 0
TellsEntry P core k enters = (enters ≡ true) ↔ MayEnter P core k

-- what is noted of a computation: whether it may enter, and whether a release or the end of it may be due
pub record Notes : Type 0 where
  pub enters : Bool
  pub restless : Bool
  pub closing : Bool

-- the notes tell no less than is so
pub record TellsNotes (P : Play) (core : Core) (k : ℕ) (notes : Notes) : Type 0 where
  pub entry : TellsEntry P core k notes.enters
  pub release : (p : ℕ) → CanRelease P core k p → notes.restless ≡ true
  pub end : CanEnd P core k → notes.closing ≡ true

-- a test says whether who comes next may enter, if anyone does
abbrev pub TellsNext : Play → Core → Option ℕ → Bool → Type 0
TellsNext P core x enters = (j : ℕ) → x ≡ Some j → TellsEntry P core j enters

-- a test says which microprotocols computation k declares
abbrev pub TellsNamed : Play → ℕ → (ℕ → Bool) → Type 0
TellsNamed P k named = (p : ℕ) → (named p ≡ true) ↔ (0 < weight (P.decl k) p)

-- by slot the head and the tail of its queue; by computation and microprotocol who comes next in the queue; and by
-- computation whether it may enter, and whether a release or the end of it may be due
pub record Index : Type 0 where
  pub head : At (Option ℕ)
  pub tail : At (Option ℕ)
  pub next : ℕ → ℕ → Option ℕ
  pub ready : ℕ → Bool
  pub restless : ℕ → Bool
  pub closing : ℕ → Bool

-- a computation is a member of no set
pub record IsUnmarked (index : Index) (k : ℕ) : Type 0 where
  pub ready : index.ready k ≡ false
  pub restless : index.restless k ≡ false
  pub closing : index.closing k ≡ false

-- the index is that of the core: the sets of releases and of ends have at least those of which one is due
pub record IsIndexed (P : Play) (first : ℕ) (core : Core) (index : Index) : Type 0 where
  pub begun : first ≤ core.count
  pub cleared : (k : ℕ) → k < first → core.ended k ≡ true
  pub heads : (v p : ℕ) → IsHeadOf P core v p (index.head v p)
  pub tails : (v p : ℕ) → IsTailOf P first core.count v p (index.tail v p)
  pub nexts : (k p : ℕ) → first ≤ k → k < core.count → 0 < weight (P.decl k) p → IsNextOf P core.count k p (index.next k p)
  pub ready : (k : ℕ) → first ≤ k → k < core.count → TellsEntry P core k (index.ready k)
  pub restless : (k p : ℕ) → CanRelease P core k p → index.restless k ≡ true
  pub closing : (k : ℕ) → CanEnd P core k → index.closing k ≡ true
  pub unadmitted : (k : ℕ) → core.count ≤ k → IsUnmarked index k

-- the index of a core in which all were cleared away
abbrev pub none_indexed : Index
none_indexed = record {
  head = λ v p. None;
  tail = λ v p. None;
  next = λ k p. None;
  ready = λ k. false;
  restless = λ k. false;
  closing = λ k. false;
}

-- a set that is kept by place, from the first computation on
abbrev pub placed : ℕ → List Bool → ℕ → Bool
placed first members k = is_member members (k - first)

-- k's next handler step has begun
abbrev pub entered : Index → ℕ → Index
entered index k = record index { ready = put index.ready k false }

-- k's handler step came back, and this is noted of it
abbrev pub left : Index → ℕ → Notes → Index
left index k notes = record index {
  ready = put index.ready k notes.enters;
  restless = put index.restless k notes.restless;
  closing = put index.closing k notes.closing;
}

-- the queue of a slot goes on to who comes next, who may then enter or not
abbrev pub passed_on : Index → ℕ → ℕ → Option ℕ → Bool → Index
passed_on index v p None enters = record index { head = put_at index.head v p None }
passed_on index v p (Some j) enters = record index {
  head = put_at index.head v p (Some j);
  ready = put index.ready j enters;
  restless = put index.restless j true;
}

-- k's end may be due, and the queue of p at its node v goes on
abbrev pub released : Index → ℕ → ℕ → ℕ → Bool → Index
released index k v p enters = passed_on (record index { closing = put index.closing k true }) v p (index.next k p) enters

-- k's handler step was abandoned, and it may begin again or not
abbrev pub abandoned : Index → ℕ → Bool → Index
abandoned index k enters = record index { ready = put index.ready k enters }

-- no release of k is due
abbrev pub unrestless : Index → ℕ → Index
unrestless index k = record index { restless = put index.restless k false }

-- its end isn't due
abbrev pub unclosing : Index → ℕ → Index
unclosing index k = record index { closing = put index.closing k false }

-- the first of two, else the second
abbrev pub or_else : Option ℕ → ℕ → Option ℕ
or_else None k = Some k
or_else (Some j) k = Some j

-- a tail is this computation
abbrev pub is_tail : Option ℕ → ℕ → Bool
is_tail None j = false
is_tail (Some t) j = t == j

-- k was admitted at node v, comes last in the queue of each microprotocol that is named, and this is noted of it
abbrev pub admitted : Index → ℕ → ℕ → (ℕ → Bool) → Notes → Index
admitted index k v named notes = record {
  head = λ u p. if (u == v) && named p then or_else (index.head u p) k else index.head u p;
  tail = λ u p. if (u == v) && named p then Some k else index.tail u p;
  next = λ j p. if j == k then None else (if named p && is_tail (index.tail v p) j then Some k else index.next j p);
  ready = put index.ready k notes.enters;
  restless = put index.restless k notes.restless;
  closing = put index.closing k notes.closing;
}
