use Rattle.std.proofs.Common.{◌≡◌, ◌-◌, leb, leb-true, arith, rules, ℕ, List, true, false, Some, None, length, ap, subst, sym}
use Rattle.std.specs.List.Sorted.{IsPartitionPoint, IsPartitionedBy}
use Rattle.std.proofs.lemmas.Bool.{leb-false}
use Rattle.std.proofs.lemmas.List.Sorted.{IsPartitionPoint-from_clause, IsPartitionedBy-leb}
use Rattle.samoa_bind.specs.declared.history.Binding.{Binding}
use Rattle.samoa_bind.specs.Histories.{Past, found_after}
use Rattle.samoa_bind.proofs.Histories.{found-none, found-some}
use Rattle.samoa_bind.proofs.history.History.find.Goals as goal

pub returns-then-count-eq0 : goal.returns-then-count-eq0
returns-then-count-eq0 c =
    let xs = c.self.inside.bindings.items in
    let is : c.deref.result.now ≡ xs = c.deref.ensures.value in
    let parted = IsPartitionedBy-leb (λ (b : Binding). b.epoch) xs c.args.epoch c.self.invariant in
    let found = IsPartitionPoint-from_clause (λ (b : Binding). leb b.epoch c.args.epoch) _ _ c.partition_point-count.ensures.partitioned
    (subst (λ (l : List Binding). IsPartitionedBy (λ (b : Binding). leb b.epoch c.args.epoch) l) (sym is) parted) (λ a r q k. search rules) in
    let point = subst (λ (l : List Binding). IsPartitionPoint (λ (b : Binding). leb b.epoch c.args.epoch ≡ true) (λ (b : Binding). leb b.epoch c.args.epoch ≡ false) l c.partition_point-count.result) is found in
    let none : None ≡ found_after c.args.epoch None xs =
    found-none c.args.epoch xs (λ i d lt. leb-false _ _ (point.1 i d (let zero = c.if-count-eq0.true in omega (arith, zero)) lt)) in
    subst (λ (p : Past). None ≡ found_after c.args.epoch None p.bindings) c.self.view_is none

pub returns : goal.returns
returns c =
    let xs = c.self.inside.bindings.items in
    let is : c.deref.result.now ≡ xs = c.deref.ensures.value in
    let parted = IsPartitionedBy-leb (λ (b : Binding). b.epoch) xs c.args.epoch c.self.invariant in
    let found = IsPartitionPoint-from_clause (λ (b : Binding). leb b.epoch c.args.epoch) _ _ c.partition_point-count.ensures.partitioned
    (subst (λ (l : List Binding). IsPartitionedBy (λ (b : Binding). leb b.epoch c.args.epoch) l) (sym is) parted) (λ a r q k. search rules) in
    let point = subst (λ (l : List Binding). IsPartitionPoint (λ (b : Binding). leb b.epoch c.args.epoch ≡ true) (λ (b : Binding). leb b.epoch c.args.epoch ≡ false) l c.partition_point-count.result) is found in
    let some = c.if-count-eq0.false in
    let bound = c.partition_point-count.ensures.bound in
    let long : length c.deref.result.now ≡ length xs = ap length is in
    let count : ℕ = c.partition_point-count.result in
    let last : Some c.index.result.now ≡ found_after c.args.epoch None xs =
    found-some c.args.epoch (count - 1) xs c.index.result.now (omega (arith, some, bound, long)) c.index.ensures
    (λ i d le. leb-true _ _ (point.0 i d (omega arith) (omega (arith, le, some))))
    (λ i d lt below. leb-false _ _ (point.1 i d (omega (arith, lt)) below)) in
    subst (λ (p : Past). Some c.index.result.now ≡ found_after c.args.epoch None p.bindings) c.self.view_is last
