-- What a step leaves of a computation carries over who has the turn and what is due.
use Rattle.std.proofs.Common.{arith, ◌≡◌, ℕ, ◌≤◌, ◌<◌, refl, sym, ◌∙◌, subst, Option, Some, None}
use Rattle.samoa_model.specs.Allowed.{weight}
use Rattle.samoa_model.specs.Scripts.{Table}
use Rattle.samoa_serial.specs.Calls.{Computation}
use Rattle.samoa_invariant.specs.Play.{IsIdle, Play}
use Rattle.samoa_invariant.specs.State.{CanEnd, CanEnter, CanRelease, Core, HasTurn, IsNextAt, Quiet}
use Rattle.samoa_invariant.specs.Index.{IsHeadOf, running}

-- computation j is as it was, and where it is out now it was out before
pub record Carries (P : Play) (core new : Core) (j : ℕ) : Type 0 where
  pub admitted : j < core.count → j < new.count
  pub comp : new.comp j ≡ core.comp j
  pub table : new.table j ≡ core.table j
  pub from : (q : ℕ) → new.from j (P.node j) q ≡ core.from j (P.node j) q
  pub private : (q : ℕ) → new.private j (P.node j) q ≡ core.private j (P.node j) q
  pub ended : new.ended j ≡ core.ended j
  pub out : (v q : ℕ) → new.out v q ≡ Some j → core.out v q ≡ Some j

pub carried_turn : (P : Play) (core new : Core) (j q : ℕ) → Carries P core new j → new.local (P.node j) q ≡ core.local (P.node j) q
    → HasTurn P core j q → HasTurn P new j q
carried_turn P core new j q carries local turn = record {
  admitted = carries.admitted turn.admitted;
  turn = record { from = omega (arith, local, carries.from q, turn.from); below = omega (arith, local, carries.private q, turn.below) };
}

pub carried_enter : (P : Play) (core new : Core) (j q : ℕ) → Carries P core new j → new.local (P.node j) q ≡ core.local (P.node j) q
    → (core.out (P.node j) q ≡ None → new.out (P.node j) q ≡ None) → CanEnter P (running core) j q → CanEnter P (running new) j q
carried_enter P core new j q carries local home can =
    let old : HasTurn P core j q = record { admitted = can.turn.admitted; turn = record { from = can.turn.from; below = can.turn.below } } in
    let turn : HasTurn P new j q = carried_turn P core new j q carries local old in
    record {
      next = subst (λ (x : Computation). IsNextAt x q) (sym carries.comp) can.next;
      not_out = λ v r out. can.not_out v r (carries.out v r out);
      turn = record { admitted = turn.admitted; turn = record { from = turn.from; below = turn.below } };
      home = home can.home;
      running = refl;
    }

pub carried_release : (P : Play) (core new : Core) (j q : ℕ) → Carries P core new j → new.local (P.node j) q ≡ core.local (P.node j) q
    → CanRelease P core j q → CanRelease P new j q
carried_release P core new j q carries local can = record {
  turn = carried_turn P core new j q carries local can.turn;
  quiet = subst (λ (x : Computation). Quiet (P.decl j) (new.table j) x q) (sym carries.comp)
      (subst (λ (t : Table). Quiet (P.decl j) t (core.comp j) q) (sym carries.table) can.quiet);
}

pub carried_end : (P : Play) (core new : Core) (j : ℕ) → Carries P core new j
    → ((q : ℕ) → 0 < weight (P.decl j) q → core.private j (P.node j) q ≤ core.local (P.node j) q → core.private j (P.node j) q ≤ new.local (P.node j) q)
    → CanEnd P core j → CanEnd P new j
carried_end P core new j carries past can = record {
  admitted = carries.admitted can.admitted;
  not_ended = carries.ended ∙ can.not_ended;
  idle = subst (λ (x : Computation). IsIdle x) (sym carries.comp) can.idle;
  past = λ q some. omega (arith, carries.private q, past q some (can.past q some));
}

-- the turn in a running core is that in the core
pub running_turn : (P : Play) (core : Core) (j q : ℕ) → CanEnter P (running core) j q → HasTurn P core j q
running_turn P core j q can = record { admitted = can.turn.admitted; turn = record { from = can.turn.from; below = can.turn.below } }

-- the head of a slot stays where neither the local version nor the private ones change
pub carried_head : (P : Play) (core new : Core) (v q : ℕ) (x : Option ℕ) → core.count ≡ new.count → new.local v q ≡ core.local v q
    → ((j : ℕ) → new.private j v q ≡ core.private j v q) → IsHeadOf P core v q x → IsHeadOf P new v q x
carried_head P core new v q None count local private free = λ j lt d. omega (arith, local, private j, free j (omega arith) d)
carried_head P core new v q (Some k) count local private head = record {
  admitted = omega (arith, count, head.admitted);
  declares = head.declares;
  short = omega (arith, local, private k, head.short);
  before = λ j less d. omega (arith, local, private j, head.before j less d);
}
