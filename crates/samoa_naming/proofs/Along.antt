-- The first fault along a list, item by item.
use Rattle.std.proofs.Common.{◌≡◌, ℕ, zero, suc, ◌+◌, ◌<◌, List, [], ◌∷◌, length, get_or, take, Option, Some, None, sym, ap, ◌∙◌, arith, add-one, subst}
use Rattle.std.proofs.lemmas.List.{get_or_default}
use Rattle.samoa_grammar.specs.declared.fault.WalkFault.{WalkFault}
use Rattle.samoa_form.specs.declared.stop.Stop.{Stop}
use Rattle.samoa_form.specs.declared.stop.Stop.TheVariants as stops
use Rattle.samoa_form.specs.Reads.{Stops}
use Rattle.samoa_grammar.specs.Walks.{◌then◌, first_along}
use Rattle.samoa_grammar.proofs.Chains.{then_none}

-- an item that fails after items that pass
pub refused_item : {X : Type 0} (fault : X → Option WalkFault) (xs : List X) (i : ℕ) (x : X) (e : WalkFault) → i < length xs → x ≡ get_or xs i x
    → first_along fault (take i xs) ≡ None → fault x ≡ Some e → first_along fault xs ≡ Some e
refused_item fault [] i x e below here before fails = absurd (omega arith)
refused_item fault (y ∷ ys) zero x e below here before fails = ap (λ o. o then first_along fault ys) (ap fault (sym here) ∙ fails)
refused_item fault (y ∷ ys) (suc i) x e below here before fails =
    let h = then_none (fault y) (first_along fault (take i ys)) before in
    ap (λ o. o then first_along fault ys) h.0 ∙ refused_item fault ys i x e (omega arith) here h.1 fails

passed_item_suc : {X : Type 0} (fault : X → Option WalkFault) (xs : List X) (i : ℕ) (x : X) → i < length xs → x ≡ get_or xs i x
    → first_along fault (take i xs) ≡ None → fault x ≡ None → first_along fault (take (suc i) xs) ≡ None
passed_item_suc fault [] i x below here before passes = absurd (omega arith)
passed_item_suc fault (y ∷ ys) zero x below here before passes = ap (λ o. o then None) (ap fault (sym here) ∙ passes)
passed_item_suc fault (y ∷ ys) (suc i) x below here before passes =
    let h = then_none (fault y) (first_along fault (take i ys)) before in
    ap (λ o. o then first_along fault (take (suc i) ys)) h.0 ∙ passed_item_suc fault ys i x (omega arith) here h.1 passes

-- one more item that passes
pub passed_item : {X : Type 0} (fault : X → Option WalkFault) (xs : List X) (i : ℕ) (x : X) → i < length xs → x ≡ get_or xs i x
    → first_along fault (take i xs) ≡ None → fault x ≡ None → first_along fault (take (i + 1) xs) ≡ None
passed_item fault xs i x below here before passes = rw add-one (passed_item_suc fault xs i x below here before passes)

-- the same of items that are copied out of the list, which is read through another name

pub passed_at : {X : Type 0} (fault : X → Option WalkFault) (items xs : List X) (i : ℕ) (d : X) → items ≡ xs → i < length items
    → first_along fault (take i xs) ≡ None → fault (get_or items i d) ≡ None → first_along fault (take (i + 1) xs) ≡ None
passed_at fault items xs i d same below before passes =
    subst (λ l. first_along fault (take (i + 1) l) ≡ None) same
    (passed_item fault items i (get_or items i d) below (get_or_default items i d (get_or items i d) below) (ap (λ l. first_along fault (take i l)) same ∙ before) passes)

pub stopped_at : {X : Type 0} (fault : X → Option WalkFault) (items xs : List X) (i : ℕ) (d : X) (e : Stop) → items ≡ xs → i < length items
    → first_along fault (take i xs) ≡ None → Stops e (fault (get_or items i d)) → Stops e (first_along fault xs)
stopped_at fault items xs i d (stops.Fault f) same below before fails =
    ap (first_along fault) (sym same)
    ∙ refused_item fault items i (get_or items i d) f below (get_or_default items i d (get_or items i d) below) (ap (λ l. first_along fault (take i l)) same ∙ before) fails
stopped_at fault items xs i d stops.Memory same below before fails = tt {0}

pub ruleset along_items = (refused_item, passed_item)
