-- A chain of tests without a fault: each of them has none.
use Rattle.std.proofs.Common.{◌≡◌, Option, Some, None, refl}
use Rattle.samoa_grammar.specs.declared.fault.WalkFault.{WalkFault}
use Rattle.samoa_grammar.specs.Walks.{◌then◌}

pub then_none : (a b : Option WalkFault) → (a then b) ≡ None → (a ≡ None) × (b ≡ None)
then_none None b h = (refl, h)
then_none (Some f) b h = cc

pub then_three : (a b c : Option WalkFault) → (a then b then c) ≡ None → (a ≡ None) × (b ≡ None) × (c ≡ None)
then_three a b c h =
    let first = then_none a (b then c) h in
    let rest = then_none b c first.1 in
    (first.0, rest.0, rest.1)

pub then_four : (a b c d : Option WalkFault) → (a then b then c then d) ≡ None → (a ≡ None) × (b ≡ None) × (c ≡ None) × (d ≡ None)
then_four a b c d h =
    let first = then_none a (b then c then d) h in
    let rest = then_three b c d first.1 in
    (first.0, rest.0, rest.1, rest.2)

pub then_five : (a b c d e : Option WalkFault) → (a then b then c then d then e) ≡ None → (a ≡ None) × (b ≡ None) × (c ≡ None) × (d ≡ None) × (e ≡ None)
then_five a b c d e h =
    let first = then_none a (b then c then d then e) h in
    let rest = then_four b c d e first.1 in
    (first.0, rest.0, rest.1, rest.2, rest.3)
