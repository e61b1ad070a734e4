-- When a stock has enough for a script, told by the kinds that stand in the script.
use Rattle.std.proofs.Common.{◌≡◌, ◌≤◌, ◌⊎◌, inl, inr, Bool, true, false, ◌&&◌, List, [], ◌∷◌, refl, ◌∙◌, arith, rules, nat_le}
use Rattle.std.specs.List.{count_by, list_all}
use Rattle.std.proofs.lemmas.Bool.{and_parts, leb-true, le-leb}
use Rattle.samoa_model.specs.declared.setup.Kind.{Kind}
use Rattle.samoa_model.specs.declared.script.MicroDef.{MicroDef}
use Rattle.samoa_model.specs.declared.script.Script.{Script}
use Rattle.samoa_model.specs.contracts.setup.KindPartialEq.TheImpl.{ghosts}
use Rattle.samoa_micro.specs.Covers.{Covers, count_of, wanted}
use Rattle.samoa_micro.proofs.SeenLists.{count_by-cons}

-- whether there are enough of the kind of a microprotocol
abbrev pub has_enough : Script → List Kind → MicroDef → Bool
has_enough script kinds micro = nat_le (wanted script micro.kind) (count_of kinds micro.kind)

same_kind : (a b : Kind) → ghosts.eq a b ≡ true → a ≡ b
same_kind a b same = search rules

-- in a list whose items all pass the one test, none passes the other, or some passes both
abbrev NoneOrBoth : {X : Type 0} (p q : X → Bool) → List X → Type 0
NoneOrBoth {X} p q xs = (count_by p xs ≡ 0) ⊎ ((x : X) × (p x ≡ true) × (q x ≡ true))

one_more : {X : Type 0} (p q : X → Bool) → (x : X) (xs : List X) (b : Bool) → p x ≡ b → q x ≡ true → NoneOrBoth p q xs → NoneOrBoth p q (x ∷ xs)
one_more p q x xs true passes holds rest = inr (x, passes, holds)
one_more p q x xs false passes holds (inl none) = inl (count_by-cons p x xs ∙ rw (passes, none) refl)
one_more p q x xs false passes holds (inr some) = inr some

none_or_both : {X : Type 0} (p q : X → Bool) → (xs : List X) → list_all q xs ≡ true → NoneOrBoth p q xs
none_or_both p q [] all = inl refl
none_or_both p q (x ∷ xs) all =
    let parts = and_parts (q x) (list_all q xs) all in
    one_more p q x xs (p x) refl parts.0 (none_or_both p q xs parts.1)

-- a kind of which the script takes none, or of which there are enough
enough : (script : Script) (kinds : List Kind) (kind : Kind)
    → NoneOrBoth (λ (micro : MicroDef). ghosts.eq micro.kind kind) (has_enough script kinds) script.micros
    → wanted script kind ≤ count_of kinds kind
enough script kinds kind (inl none) = rw none (omega arith)
enough script kinds kind (inr some) =
    let here : some.0.kind ≡ kind = same_kind some.0.kind kind some.1 in
    rw (← here) (leb-true (wanted script some.0.kind) (count_of kinds some.0.kind) some.2)

-- where there are enough of the kind of each microprotocol, the script is covered
pub Covers-from_all : (script : Script) (kinds : List Kind) → list_all (has_enough script kinds) script.micros ≡ true → Covers script kinds
Covers-from_all script kinds all = λ kind.
    enough script kinds kind (none_or_both (λ (micro : MicroDef). ghosts.eq micro.kind kind) (has_enough script kinds) script.micros all)

-- and the other way round
all_from_Covers : (script : Script) (kinds : List Kind) (micros : List MicroDef) → Covers script kinds
    → list_all (has_enough script kinds) micros ≡ true
all_from_Covers script kinds [] covers = refl
all_from_Covers script kinds (m ∷ ms) covers = rw (all_from_Covers script kinds ms covers, le-leb (wanted script m.kind) (count_of kinds m.kind) (covers m.kind)) refl

pub all-from_Covers : (script : Script) (kinds : List Kind) → Covers script kinds → list_all (has_enough script kinds) script.micros ≡ true
all-from_Covers script kinds covers = all_from_Covers script kinds script.micros covers
