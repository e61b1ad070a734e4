-- So many of each kind are enough.
use Rattle.std.proofs.Common.{◌≡◌, ℕ, zero, suc, ◌+◌, ◌≤◌, List, [], ◌++◌, refl, arith, cond}
use Rattle.std.proofs.lemmas.List.Sums.{sum_by-append}
use Rattle.samoa_model.specs.declared.setup.Kind.{Kind}
use Rattle.samoa_model.specs.declared.setup.Kind.TheVariants.{Prog, Link, Fd, Rbcast, Cons, Abcast, Seqcast, Repl, Views}
use Rattle.samoa_model.specs.contracts.setup.KindPartialEq.TheImpl.{ghosts}
use Rattle.samoa_model.specs.declared.script.Script.{Script}
use Rattle.samoa_model.specs.Valid.{IsValid}
use Rattle.samoa_micro.specs.Covers.{Covers, count_of, wanted}
use Rattle.samoa_micro.specs.Stocks.{HasEnough, all_kinds, rounds}

one_of_each : (kind : Kind) → count_of all_kinds kind ≡ 1
one_of_each Prog = refl
one_of_each Link = refl
one_of_each Fd = refl
one_of_each Rbcast = refl
one_of_each Cons = refl
one_of_each Abcast = refl
one_of_each Seqcast = refl
one_of_each Repl = refl
one_of_each Views = refl

count-rounds : (n : ℕ) (kind : Kind) → count_of (rounds n) kind ≡ n
count-rounds zero kind = refl
count-rounds (suc n) kind =
    let more = sum_by-append (λ (k : Kind). cond (ghosts.eq k kind) 1 0) (rounds n) all_kinds in
    let before : count_of (rounds n) kind ≡ n = count-rounds n kind in
    let one : count_of all_kinds kind ≡ 1 = one_of_each kind in
    omega (arith, more, before, one)

-- what has enough of every kind covers every valid script
pub covers-valid : (script : Script) (kinds : List Kind) → IsValid script → HasEnough kinds → Covers script kinds
covers-valid script kinds valid enough kind =
    let few : wanted script kind ≤ 32 = valid.few_of_each kind in
    let have : 32 ≤ count_of kinds kind = enough kind in
    omega (arith, few, have)
