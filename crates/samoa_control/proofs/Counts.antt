-- Sums of which one term changes: how many haven't ended, and how many boxes are out.
use Rattle.std.proofs.Common.{arith, ◌≡◌, ◌≢◌, ◌⊎◌, inl, inr, ◌↔◌, ℕ, zero, suc, ◌+◌, ◌*◌, ◌<◌, ◌≤◌, ◌==◌, refl, sym, ap, subst, ◌∙◌, length, Bool, true, false, Option, Some, None}
use Rattle.std.proofs.lemmas.Bool.{eq-eqb, eqb-true}
use Rattle.samoa_model.specs.declared.script.Script.{Script}
use Rattle.samoa_invariant.specs.Slots.{At, put_at}
use Rattle.samoa_invariant.specs.State as model
use Rattle.samoa_invariant.specs.State.{put, sum_to, to_end}
use Rattle.samoa_invariant.proofs.preservation.Slots.{put-else, put-here, put_at-else, put_at-here}
use Rattle.std.proofs.lemmas.Bool.{cases_eq}
use Rattle.samoa_control.specs.Kept.{unended}
use Rattle.samoa_control.specs.Places.{away_in, out_at, out_one}

sum-same : (f g : ℕ → ℕ) (n : ℕ) → ((j : ℕ) → j < n → g j ≡ f j) → sum_to g n ≡ sum_to f n
sum-same f g zero same = refl
sum-same f g (suc n) same =
    let before : sum_to g n ≡ sum_to f n = sum-same f g n (λ j lt. same j (omega arith)) in
    let last : g n ≡ f n = same n (omega arith) in
    omega (arith, before, last)

sum-at : (f g : ℕ → ℕ) (n k a b : ℕ) → k < n → ((j : ℕ) → j < n → j ≢ k → g j ≡ f j) → g k + a ≡ f k + b → sum_to g n + a ≡ sum_to f n + b
sum-at f g zero k a b lt same here = absurd (omega arith)
sum-at f g (suc n) k a b lt same here = go (cases_eq k n) (λ below. sum-at f g n k a b below (λ j less ne. same j (omega arith) ne) here)
  where
    go : (k ≡ n) ⊎ (k ≢ n) → (k < n → sum_to g n + a ≡ sum_to f n + b) → sum_to g (suc n) + a ≡ sum_to f (suc n) + b
    go (inl e) before =
        let others : sum_to g n ≡ sum_to f n = sum-same f g n (λ j less. same j (omega arith) (λ is. omega arith)) in
        let mine : g n + a ≡ f n + b = subst (λ (j : ℕ). g j + a ≡ f j + b) e here in
        omega (arith, others, mine)
    go (inr ne) before =
        let rest : sum_to g n + a ≡ sum_to f n + b = before (omega arith) in
        let last : g n ≡ f n = same n (omega arith) (λ is. ne (sym is)) in
        omega (arith, rest, last)

sum-most : (f : ℕ → ℕ) (n most : ℕ) → ((j : ℕ) → f j ≤ most) → sum_to f n ≤ n * most
sum-most f zero most h = omega arith
sum-most f (suc n) most h =
    let before : sum_to f n ≤ n * most = sum-most f n most h in
    let last : f n ≤ most = h n in
    let more : suc n * most ≡ n * most + most = grind arith in
    omega (arith, before, last, more)

-- one more is open
pub unended-admit : (core after : model.Core) → after.count ≡ suc core.count → after.ended ≡ put core.ended core.count false → unended after ≡ unended core + 1
unended-admit core after count ended =
    let before : sum_to (λ k. to_end (after.ended k)) core.count ≡ sum_to (λ k. to_end (core.ended k)) core.count =
    sum-same (λ k. to_end (core.ended k)) (λ k. to_end (after.ended k)) core.count
    (λ j lt. ap to_end (ap (λ (f : ℕ → Bool). f j) ended ∙ put-else {A = Bool} core.ended core.count j false (λ e. omega arith))) in
    let last : to_end (after.ended core.count) ≡ 1 = ap to_end (ap (λ (f : ℕ → Bool). f core.count) ended ∙ put-here {A = Bool} core.ended core.count core.count false refl) in
    let all : unended after ≡ sum_to (λ k. to_end (after.ended k)) (suc core.count) = ap (λ (n : ℕ). sum_to (λ k. to_end (after.ended k)) n) count in
    omega (arith, before, last, all)

-- and one less
pub unended-end : (core : model.Core) (k : ℕ) → k < core.count → core.ended k ≡ false → unended (model.finish core k) + 1 ≡ unended core
unended-end core k lt running =
    let at : sum_to (λ j. to_end (put core.ended k true j)) core.count + 1 ≡ sum_to (λ j. to_end (core.ended j)) core.count + 0 =
    sum-at (λ j. to_end (core.ended j)) (λ j. to_end (put core.ended k true j)) core.count k 1 0 lt
    (λ j less ne. ap to_end (put-else {A = Bool} core.ended k j true ne))
    (let mine : to_end (put core.ended k true k) ≡ 0 = ap to_end (put-here {A = Bool} core.ended k k true refl) in
    let was : to_end (core.ended k) ≡ 1 = ap to_end running in
    omega (arith, mine, was)) in
    omega (arith, at)

-- none is open exactly where all have ended
ended_is : (b : Bool) → to_end b ≡ 0 → b ≡ true
ended_is true e = refl
ended_is false e = absurd (omega (arith, e))

all-zero : (f : ℕ → ℕ) (n k : ℕ) → sum_to f n ≡ 0 → k < n → f k ≡ 0
all-zero f zero k e lt = absurd (omega (arith, lt))
all-zero f (suc n) k e lt = go (cases_eq k n) (λ below. all-zero f n k (omega (arith, e)) below)
  where
    go : (k ≡ n) ⊎ (k ≢ n) → (k < n → f k ≡ 0) → f k ≡ 0
    go (inl is) before = let last : f n ≡ 0 = omega (arith, e) in ap f is ∙ last
    go (inr ne) before = before (omega (arith, lt, ne))

pub none-unended : (core : model.Core) → (unended core ≡ 0) ↔ model.AllEnded core
none-unended core = (
  (λ e k lt. ended_is (core.ended k) (all-zero (λ j. to_end (core.ended j)) core.count k e lt)),
  (λ all. sum-same (λ j. 0) (λ j. to_end (core.ended j)) core.count (λ j lt. ap to_end (all j lt)) ∙ zeros core.count),
)
  where
    zeros : (n : ℕ) → sum_to (λ j. 0) n ≡ 0
    zeros zero = refl
    zeros (suc n) = let before : sum_to (λ j. 0) n ≡ 0 = zeros n in omega (arith, before)

pub ended-test : (core : model.Core) (n : ℕ) → n ≡ unended core → ((n == 0) ≡ true) ↔ model.AllEnded core
ended-test core n e = (
  (λ yes. let none : n ≡ 0 = eqb-true n 0 yes in (none-unended core).0 (sym e ∙ none)),
  (λ all. eq-eqb n 0 (e ∙ (none-unended core).1 all)),
)

pub unended-most : (core : model.Core) → unended core ≤ core.count
unended-most core =
    let most : unended core ≤ core.count * 1 = sum-most (λ k. to_end (core.ended k)) core.count 1 (λ j. one (core.ended j)) in
    omega (arith, most)
  where
    one : (b : Bool) → to_end b ≤ 1
    one true = omega arith
    one false = omega arith

-- a box goes out, or comes home
away-put : (script : Script) (core after : model.Core) (v p a b : ℕ) (x : Option ℕ) → v < script.nodes → p < length script.micros → after.out ≡ put_at core.out v p x
    → out_one x + a ≡ out_one (core.out v p) + b → away_in script after + a ≡ away_in script core + b
away-put script core after v p a b x node micro out here =
    sum-at (out_at script core) (out_at script after) script.nodes v a b node
    (λ u lt ne. sum-same (λ q. out_one (core.out u q)) (λ q. out_one (after.out u q)) (length script.micros) (λ q less. ap out_one (is u q ∙ put_at-else {A = Option ℕ} core.out v p u q x (inl ne))))
    (sum-at (λ q. out_one (core.out v q)) (λ q. out_one (after.out v q)) (length script.micros) p a b micro
    (λ q lt ne. ap out_one (is v q ∙ put_at-else {A = Option ℕ} core.out v p v q x (inr ne)))
    (let mine : out_one (after.out v p) ≡ out_one x = ap out_one (is v p ∙ put_at-here {A = Option ℕ} core.out v p v p x refl refl) in omega (arith, mine, here)))
  where
    is : (u q : ℕ) → after.out u q ≡ put_at core.out v p x u q
    is u q = ap (λ (f : At (Option ℕ)). f u q) out

pub away-out : (script : Script) (core after : model.Core) (v p k : ℕ) → v < script.nodes → p < length script.micros → after.out ≡ put_at core.out v p (Some k)
    → core.out v p ≡ None → away_in script after ≡ away_in script core + 1
away-out script core after v p k node micro out home =
    let was : out_one (core.out v p) ≡ 0 = ap out_one home in
    let all : away_in script after + 0 ≡ away_in script core + 1 = away-put script core after v p 0 1 (Some k) node micro out (omega (arith, was)) in
    omega (arith, all)

pub away-back : (script : Script) (core after : model.Core) (v p k : ℕ) → v < script.nodes → p < length script.micros → after.out ≡ put_at core.out v p None
    → core.out v p ≡ Some k → away_in script after + 1 ≡ away_in script core
away-back script core after v p k node micro out there =
    let was : out_one (core.out v p) ≡ 1 = ap out_one there in
    let all : away_in script after + 1 ≡ away_in script core + 0 = away-put script core after v p 1 0 None node micro out (omega (arith, was)) in
    omega (arith, all)

pub away-most : (script : Script) (core : model.Core) → away_in script core ≤ script.nodes * (length script.micros * 1)
away-most script core = sum-most (out_at script core) script.nodes (length script.micros * 1) (λ v. sum-most (λ p. out_one (core.out v p)) (length script.micros) 1 (λ p. one (core.out v p)))
  where
    one : (x : Option ℕ) → out_one x ≤ 1
    one None = omega arith
    one (Some k) = omega arith

pub away-none : (script : Script) (core : model.Core) → ((v p : ℕ) → core.out v p ≡ None) → away_in script core ≡ 0
away-none script core home = zeros (out_at script core) script.nodes (λ v. zeros (λ p. out_one (core.out v p)) (length script.micros) (λ p. ap out_one (home v p)))
  where
    zeros : (f : ℕ → ℕ) (n : ℕ) → ((j : ℕ) → f j ≡ 0) → sum_to f n ≡ 0
    zeros f zero none = refl
    zeros f (suc n) none = let before : sum_to f n ≡ 0 = zeros f n none in let last : f n ≡ 0 = none n in omega (arith, before, last)
