-- The invariant in the words of the private and local versions, the handler steps and the boxes.
use Rattle.std.specs.Prelude.{◌≡◌, ℕ, suc, ◌+◌, ◌<◌, ◌≤◌, true, Some}
use Rattle.samoa_model.specs.Allowed.{weight}
use Rattle.samoa_invariant.specs.Play.{IsIdle, NotAt, Play, done, is_bound, point, stood, version}
use Rattle.samoa_invariant.specs.State.{Core, HasTurn, IsNextAt}

-- the versions are sums of weights, and an owner's completed calls are what its local version has risen by
pub record VersionsAreSums (P : Play) (core : Core) : Type 0 where
  pub global : (v p : ℕ) → core.global v p ≡ version P core.count v p
  pub private : (k v p : ℕ) → k < core.count → core.private k v p ≡ version P (suc k) v p
  pub local : (v p : ℕ) → core.local v p ≤ core.global v p
  pub completed : (k p : ℕ) → is_bound (P.decl k) ≡ true → HasTurn P core k p
      → core.local (P.node k) p + weight (P.decl k) p ≡ core.private k (P.node k) p + done (point P k (core.made k)).turns p

-- before its turn a computation has made no step at a slot, and past it none comes
pub record StepsAreInTurn (P : Play) (core : Core) : Type 0 where
  pub not_yet : (k p : ℕ) → k < core.count → 0 < weight (P.decl k) p → core.local (P.node k) p + weight (P.decl k) p < core.private k (P.node k) p
      → (n : ℕ) → n < core.made k → NotAt (point P k n).comp p
  pub no_more : (k p : ℕ) → k < core.count → 0 < weight (P.decl k) p → core.private k (P.node k) p ≤ core.local (P.node k) p
      → (n : ℕ) → core.made k ≤ n → NotAt (point P k n).comp p

-- a box is out to a computation of its node that has its turn there, at the slot of its next step, and that is out nowhere else
pub record OutInTurn (P : Play) (core : Core) : Type 0 where
  pub node : (v p k : ℕ) → core.out v p ≡ Some k → v ≡ P.node k
  pub turn : (v p k : ℕ) → core.out v p ≡ Some k → HasTurn P core k p
  pub next : (v p k : ℕ) → core.out v p ≡ Some k → IsNextAt (core.comp k) p
  pub once : (v p u q k : ℕ) → core.out v p ≡ Some k → core.out u q ≡ Some k → (v ≡ u) × (p ≡ q)

-- each slot is at the serial point of its owner; where none has its turn, after all that were admitted
pub record StatesAreSerial (P : Play) (core : Core) : Type 0 where
  pub owned : (k p : ℕ) → HasTurn P core k p → core.boxes (P.node k) p ≡ (point P k (core.made k)).states p
  pub free : (v p : ℕ) → ((k : ℕ) → v ≡ P.node k → HasTurn P core k p → ⊥) → core.boxes v p ≡ stood P core.count v p

-- what has ended has nothing left, and is past each declared slot
pub record EndedIsPast (P : Play) (core : Core) (k : ℕ) : Type 0 where
  pub idle : IsIdle (core.comp k)
  pub past : (p : ℕ) → 0 < weight (P.decl k) p → core.private k (P.node k) p ≤ core.local (P.node k) p

-- all of it together, and the calls of each computation are those of its serial run
pub record StandsSerially (P : Play) (core : Core) : Type 0 where
  pub versions : VersionsAreSums P core
  pub steps : StepsAreInTurn P core
  pub out : OutInTurn P core
  pub states : StatesAreSerial P core
  pub calls : (k : ℕ) → k < core.count → core.comp k ≡ (point P k (core.made k)).comp
  pub ended : (k : ℕ) → k < core.count → core.ended k ≡ true → EndedIsPast P core k
