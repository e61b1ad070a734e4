-- How little is to come where all have ended.
use Rattle.std.proofs.Common.{arith, ◌≡◌, inl, inr, ℕ, zero, suc, ◌*◌, ◌<◌, ◌≤◌, refl, sym, ap, ◌∙◌, List, [], ◌∷◌, length, take, Bool, true, false}
use Rattle.std.specs.Prelude.{nat_lt}
use Rattle.std.proofs.lemmas.Bool.{ltb-true}
use Rattle.std.proofs.lemmas.List.{length-take-le}
use Rattle.samoa_model.specs.Range.{IsDeclOf}
use Rattle.samoa_model.specs.declared.script.Script.{Script}
use Rattle.samoa_serial.specs.Alone.{Machine, next_step}
use Rattle.samoa_serial.specs.World.{Turn}
use Rattle.samoa_serial.proofs.Point.{turns-after}
use Rattle.samoa_invariant.specs.Inv.{Invariant, IsDone}
use Rattle.samoa_invariant.specs.Play.{Play, point, rules, stood, turns, whole_of}
use Rattle.samoa_invariant.specs.State.{AllEnded, Core, home_of, left, left_of, named, short_at, shorts, sum_to, to_end}
use Rattle.samoa_invariant.proofs.measure.Lefts.{home-most}
use Rattle.samoa_invariant.proofs.refinement.Points.{point_idle}
use Rattle.samoa_invariant.proofs.progress.Progress.{IsIn}
use Rattle.samoa_control.specs.Room.{spare_of, to_come}
use Rattle.samoa_control.proofs.Declares.{named_declared}
use Rattle.samoa_control.proofs.Toll.{spare-most, sum-le}

-- all its handler steps were made
all_made : (P : Play) (core : Core) (k : ℕ) → Invariant P core → k < core.count → core.ended k ≡ true → turns P k ≤ core.made k
all_made P core k i lt ended =
    let d : IsDone P core k = i.ended k lt ended in
    let n : ℕ = core.made k in
    let all : List Turn = (whole_of P k).world.turns in
    let within : n ≤ length all = i.calls.made k lt in
    let there : (point P k n).turns ≡ all = ap (λ (m : Machine). m.turns) (point_idle P k n d.idle.active) in
    let first : (point P k n).turns ≡ take n all = turns-after (rules P k) (P.budget k) (stood P k (P.node k)) (P.root k) (P.args k) n within in
    let long : length (take n all) ≡ length all = ap length (sym first ∙ there) in
    let short = length-take-le n all within in
    omega arith

no_shorts : (private local : ℕ → ℕ) (qs : List ℕ) → ((q : ℕ) → IsIn q qs → private q ≤ local q) → shorts private local qs ≡ zero
no_shorts private local [] past = refl
no_shorts private local (q ∷ qs) past =
    let rest : shorts private local qs ≡ zero = no_shorts private local qs (λ r is. past r (inr is)) in
    let le : private q ≤ local q = past q (inl refl) in
    let here : short_at (nat_lt (local q) (private q)) ≡ zero = go (nat_lt (local q) (private q)) refl le in
    omega (arith, rest, here)
  where
    go : (b : Bool) → nat_lt (local q) (private q) ≡ b → private q ≤ local q → short_at b ≡ zero
    go true e le = let lt : local q < private q = ltb-true (local q) (private q) e in absurd (omega arith)
    go false e le = refl

ended-left : (script : Script) (P : Play) (core : Core) (k : ℕ) → Invariant P core → k < core.count → IsDeclOf script (P.decl k) → core.ended k ≡ true → left_of P core k ≤ 1
ended-left script P core k i lt known ended =
    let d : IsDone P core k = i.ended k lt ended in
    let made : turns P k ≤ core.made k = all_made P core k i lt ended in
    let home : home_of P core k (next_step (core.comp k)) ≤ suc zero = home-most P core k (next_step (core.comp k)) in
    let short : shorts (core.private k (P.node k)) (core.local (P.node k)) (named (P.decl k)) ≡ zero =
    no_shorts (core.private k (P.node k)) (core.local (P.node k)) (named (P.decl k)) (λ q is.
    let private = i.booked.private k (P.node k) q lt in
    let past = d.past q (named_declared script (P.decl k) q known is) in
    omega (arith, private, past)) in
    let end : to_end (core.ended k) ≡ zero = ap to_end ended in
    omega (arith, made, home, short, end)

one : ℕ → ℕ
one j = 1

ones : (n : ℕ) → sum_to one n ≡ n
unfolding one
ones zero = refl
ones (suc n) = let rest : sum_to one n ≡ n = ones n in omega (arith, rest)

pub ended-come : (script : Script) (P : Play) (core : Core) → Invariant P core → ((k : ℕ) → k < core.count → IsDeclOf script (P.decl k)) → AllEnded core → to_come P core ≤ 3 * core.count
unfolding one
ended-come script P core i known all =
    let lefts : left P core ≤ sum_to one core.count = sum-le (left_of P core) one core.count (λ j lt. ended-left script P core j i lt (known j lt) (all j lt)) in
    let spares : sum_to (spare_of P core) core.count ≤ sum_to one core.count = sum-le (spare_of P core) one core.count (λ j lt. spare-most core.stopped _) in
    let count : sum_to one core.count ≡ core.count = ones core.count in
    omega (arith, lefts, spares, count)
