-- Lists in which no item stands twice.
use Rattle.std.proofs.Common.{◌≡◌, ℕ, suc, ◌<◌, ◌≤◌, Bool, true, false, cond, List, [], ◌∷◌, ◌++◌, length, get_or, map, bytes_eq, Option, Some, None, refl, sym, ap, ◌∙◌, subst, arith, inl, inr}
use Rattle.std.specs.Prelude.{◌⊎◌, ◌||◌}
use Rattle.std.specs.List.{All, list_any, position, position_or_len}
use Rattle.std.proofs.lemmas.Bool.{cases_lt}
use Rattle.std.proofs.lemmas.List.{length-map, get_or-map}
use Rattle.std.proofs.lemmas.List.Elements.{All-nil, All-cons, All-head, All-tail}
use Rattle.std.proofs.lemmas.List.Folds.{list_any-append, list_any_at}
use Rattle.std.proofs.lemmas.List.Kept.{AllPairs-cons}
use Rattle.std.proofs.lemmas.List.Quantifiers.{position-Some}
use Rattle.samoa_model.specs.Valid.{AreApart}
use Rattle.samoa_grammar.specs.declared.fault.WalkFault.{WalkFault}
use Rattle.samoa_grammar.specs.declared.fault.WalkFault.TheVariants.{Twice}
use Rattle.samoa_grammar.specs.Passes.{twice_after, twice}
use Rattle.samoa_grammar.proofs.Dedup.{IsSame, same_bytes, position_found, dedup}

-- equal items stand at one place
pub apart_index : {X : Type 0} (xs : List X) (i j : ℕ) (d : X) → AreApart xs → i < length xs → j < length xs → get_or xs i d ≡ get_or xs j d → i ≡ j
apart_index xs i j d apart i_in j_in same = before (cases_lt i j)
  where
    after : j ≤ i → (j < i) ⊎ (i ≤ j) → i ≡ j
    after le (inl lt) = absurd (apart j i d lt i_in (sym same))
    after le (inr ge) = omega arith

    before : (i < j) ⊎ (j ≤ i) → i ≡ j
    before (inl lt) = absurd (apart i j d lt j_in same)
    before (inr le) = after le (cases_lt j i)

pub stands_at : {X : Type 0} (same : X → X → Bool) → IsSame same → (xs : List X) (i : ℕ) (d : X) → i < length xs → list_any (same (get_or xs i d)) xs ≡ true
stands_at same laws xs i d below = list_any_at (same (get_or xs i d)) xs i d below (laws.itself (get_or xs i d))

-- an item is found where it stands
pub place_at : {X : Type 0} (same : X → X → Bool) → IsSame same → (xs : List X) (i : ℕ) (d : X) → AreApart xs → i < length xs → position (same (get_or xs i d)) xs ≡ Some i
place_at same laws xs i d apart below =
    let x = get_or xs i d in
    let place = position_or_len (same x) xs in
    let found : position (same x) xs ≡ Some place = position_found (same x) xs (stands_at same laws xs i d below) in
    let first = position-Some (same x) xs place d found in
    found ∙ ap Some (sym (apart_index xs i place d apart below first.0 (laws.equal x (get_or xs place d) first.1)))

-- what can be taken back keeps items apart
pub apart_map : {X Y : Type 0} (f : X → Y) (g : Y → X) (xs : List X) → All (λ x. g (f x) ≡ x) xs → AreApart xs → AreApart (map f xs)
apart_map f g xs back apart i j d first below =
    let many = length-map xs f in
    let j_in : j < length xs = omega arith in
    let i_in : i < length xs = omega arith in
    λ same. apart i j (g d) first j_in (
    sym (back i (g d) i_in)
    ∙ ap g (sym (get_or-map f xs i (g d) d i_in) ∙ same ∙ get_or-map f xs j (g d) d j_in)
    ∙ back j (g d) j_in)

apart_head : {X : Type 0} (x : X) (xs : List X) → AreApart (x ∷ xs) → All (λ y. x ≡ y → ⊥) xs
apart_head x xs apart k d below = apart 0 (suc k) d (omega arith) (omega arith)

pub apart_tail : {X : Type 0} (x : X) (xs : List X) → AreApart (x ∷ xs) → AreApart xs
apart_tail x xs apart i j d first below = apart (suc i) (suc j) d (omega arith) (omega arith)

-- ---- tests that find nothing twice

no_test : (b : Bool) → (b ≡ true → ⊥) → b ≡ false
no_test true h = absurd (h refl)
no_test false h = refl

or_none : (a b : Bool) → a ≡ false → b ≡ false → (a || (b || false)) ≡ false
or_none true b p q = absurd (cc)
or_none false true p q = absurd (cc)
or_none false false p q = refl

or_parts : (a b : Bool) → (a || (b || false)) ≡ false → (a ≡ false) × (b ≡ false)
or_parts true b h = absurd (cc)
or_parts false true h = absurd (cc)
or_parts false false h = (refl, refl)

-- none of these stands before
abbrev AreFresh : {X : Type 0} → (X → X → Bool) → List X → List X → Type 0
AreFresh same before xs = All (λ x. list_any (same x) before ≡ false) xs

fresh_more : {X : Type 0} (same : X → X → Bool) → IsSame same → (before : List X) (x : X) (xs : List X) → AreApart (x ∷ xs) → AreFresh same before (x ∷ xs) → AreFresh same (before ++ x ∷ []) xs
fresh_more same laws before x xs apart fresh k d below =
    let y = get_or xs k d in
    list_any-append (same y) before (x ∷ [])
    ∙ or_none (list_any (same y) before) (same y x) (All-tail (λ z. list_any (same z) before ≡ false) x xs fresh k d below)
    (no_test (same y x) (λ e. apart_head x xs apart k d below (sym (laws.equal y x e))))

nothing_before : {X : Type 0} (same : X → X → Bool) (xs : List X) → AreFresh same [] xs
nothing_before same xs k d below = refl

twice_after_none : (ns before : List (List ℕ)) → AreApart ns → AreFresh bytes_eq before ns → twice_after before ns ≡ None
twice_after_none [] before apart fresh = refl
twice_after_none (n ∷ ns) before apart fresh =
    ap (λ b. cond b (Some (Twice n)) (twice_after (before ++ n ∷ []) ns)) (All-head (λ m. list_any (bytes_eq m) before ≡ false) n ns fresh)
    ∙ twice_after_none ns (before ++ n ∷ []) (apart_tail n ns apart) (fresh_more bytes_eq same_bytes before n ns apart fresh)

pub twice_none : (ns : List (List ℕ)) → AreApart ns → twice ns ≡ None
twice_none ns apart = twice_after_none ns [] apart (nothing_before bytes_eq ns)

later_passes : (b : Bool) (f : WalkFault) (later : Option WalkFault) → cond b (Some f) later ≡ None → (b ≡ false) × (later ≡ None)
later_passes true f later h = absurd (cc)
later_passes false f later h = (refl, h)

fresh_names : (ns before : List (List ℕ)) → twice_after before ns ≡ None → AreFresh bytes_eq before ns
fresh_names [] before h = All-nil (λ n. list_any (bytes_eq n) before ≡ false)
fresh_names (n ∷ ns) before h =
    let parts = later_passes (list_any (bytes_eq n) before) (Twice n) (twice_after (before ++ n ∷ []) ns) h in
    let more = fresh_names ns (before ++ n ∷ []) parts.1 in
    All-cons (λ m. list_any (bytes_eq m) before ≡ false) n ns parts.0
    (λ k d below. (or_parts (list_any (bytes_eq (get_or ns k d)) before) (bytes_eq (get_or ns k d) n) (sym (list_any-append (bytes_eq (get_or ns k d)) before (n ∷ [])) ∙ more k d below)).0)

-- an item that is fresh after another differs from it
fresh_apart : {X : Type 0} (same : X → X → Bool) → IsSame same → (before : List X) (x : X) (ys : List X) → AreFresh same (before ++ x ∷ []) ys → All (λ y. x ≡ y → ⊥) ys
fresh_apart same laws before x ys fresh k d below =
    let y = get_or ys k d in
    let parts = or_parts (list_any (same y) before) (same y x) (sym (list_any-append (same y) before (x ∷ [])) ∙ fresh k d below) in
    λ e. true_false (sym (subst (λ z. same z x ≡ true) e (laws.itself x)) ∙ parts.1)
  where
    true_false : true ≡ false → ⊥
    true_false h = cc

apart_names : (ns before : List (List ℕ)) → twice_after before ns ≡ None → AreApart ns
apart_names [] before h = λ i j d first below. absurd (omega arith)
apart_names (n ∷ ns) before h =
    let parts = later_passes (list_any (bytes_eq n) before) (Twice n) (twice_after (before ++ n ∷ []) ns) h in
    AllPairs-cons (λ a b. a ≡ b → ⊥) n ns (fresh_apart bytes_eq same_bytes before n ns (fresh_names ns (before ++ n ∷ []) parts.1)) (apart_names ns (before ++ n ∷ []) parts.1)

pub twice_apart : (ns : List (List ℕ)) → twice ns ≡ None → AreApart ns
twice_apart ns h = apart_names ns [] h

-- ---- lists that have lost their repeats

dedup_fresh : {X : Type 0} (same : X → X → Bool) → IsSame same → (xs before : List X) → AreApart xs → AreFresh same before xs → dedup same before xs ≡ xs
dedup_fresh same laws [] before apart fresh = refl
dedup_fresh same laws (x ∷ xs) before apart fresh =
    ap (λ b. cond b (dedup same before xs) (x ∷ dedup same (before ++ x ∷ []) xs)) (All-head (λ y. list_any (same y) before ≡ false) x xs fresh)
    ∙ ap (λ ys. x ∷ ys) (dedup_fresh same laws xs (before ++ x ∷ []) (apart_tail x xs apart) (fresh_more same laws before x xs apart fresh))

-- a list without repeats stays as it is
pub dedup_itself : {X : Type 0} (same : X → X → Bool) → IsSame same → (xs : List X) → AreApart xs → dedup same [] xs ≡ xs
dedup_itself same laws xs apart = dedup_fresh same laws xs [] apart (nothing_before same xs)

record IsFreshly {X : Type 0} (same : X → X → Bool) (before xs : List X) : Type 0 where
  fresh : AreFresh same before xs
  apart : AreApart xs

freshly_step : {X : Type 0} (same : X → X → Bool) → IsSame same → (before : List X) (x : X) (skipped kept : List X) (k : Bool) → list_any (same x) before ≡ k
    → IsFreshly same before skipped → IsFreshly same (before ++ x ∷ []) kept → IsFreshly same before (cond k skipped (x ∷ kept))
freshly_step same laws before x skipped kept true e one two = one
freshly_step same laws before x skipped kept false e one two = record {
  fresh = All-cons (λ y. list_any (same y) before ≡ false) x kept e
      (λ k d below. (or_parts (list_any (same (get_or kept k d)) before) (same (get_or kept k d) x) (sym (list_any-append (same (get_or kept k d)) before (x ∷ [])) ∙ two.fresh k d below)).0);
  apart = AllPairs-cons (λ a b. a ≡ b → ⊥) x kept (fresh_apart same laws before x kept two.fresh) two.apart;
}

dedup_freshly : {X : Type 0} (same : X → X → Bool) → IsSame same → (xs before : List X) → IsFreshly same before (dedup same before xs)
dedup_freshly same laws [] before = record { fresh = All-nil (λ y. list_any (same y) before ≡ false); apart = λ i j d first below. absurd (omega arith) }
dedup_freshly same laws (x ∷ xs) before =
    freshly_step same laws before x (dedup same before xs) (dedup same (before ++ x ∷ []) xs) (list_any (same x) before) refl (dedup_freshly same laws xs before) (dedup_freshly same laws xs (before ++ x ∷ []))

pub dedup_apart : {X : Type 0} (same : X → X → Bool) → IsSame same → (xs : List X) → AreApart (dedup same [] xs)
dedup_apart same laws xs = (dedup_freshly same laws xs []).apart
