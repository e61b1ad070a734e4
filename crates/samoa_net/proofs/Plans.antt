-- The script's items, tick by tick.
use Rattle.std.proofs.Common.{◌≡◌, ◌≢◌, ℕ, ◌+◌, ◌-◌, ◌<◌, ◌≤◌, ◌==◌, Bool, true, false, not, ◌&&◌, cond, List, [], ◌∷◌, ◌++◌, length, map, filter, take, drop, get_or, Option, Some, refl, sym, ap, ◌∙◌, subst, arith, slice_get, append-nil, take-append-drop, length-drop}
use Rattle.std.specs.Prelude.{nat_lt}
use Rattle.std.specs.Fn.{Called, ComputesKey}
use Rattle.std.specs.List.{All}
use Rattle.std.specs.List.Sorted.{IsNonDecreasingBy, IsPermutation, IsSortedByKey, IsStableByKey}
use Rattle.std.specs.Option.{IfSome}
use Rattle.std.specs.Ordering.{is_lt, nat_cmp}
use Rattle.std.proofs.lemmas.Bool.{eq-eqb, ne_eqb}
use Rattle.std.proofs.lemmas.Bool.Decides.{nat_tests}
use Rattle.std.proofs.lemmas.Fn.{always_returns_same}
use Rattle.std.proofs.lemmas.List.{get_or-drop, take_all}
use Rattle.std.proofs.lemmas.List.Elements.{All-head, All-tail, All-from_get_or, All-get_or, All-weaker, filter-append, filter_agree, filter_passes}
use Rattle.std.proofs.lemmas.List.Sorted.{IsNonDecreasingBy-drop, IsNonDecreasingBy-from_sort, All-permutation}
use Rattle.std.proofs.lemmas.Option.{slice_get-get_or}
use denote.Ref.{Bor}
use denote.Param.Members.{Mut}
use Rattle.samoa_model.specs.declared.record.Cause.TheVariants.{Event}
use Rattle.samoa_model.specs.declared.record.Ext.{Ext}
use Rattle.samoa_model.specs.declared.script.DoDef.{DoDef}
use Rattle.samoa_model.specs.declared.script.Script.{Script}
use Rattle.samoa_serial.specs.History.{batch, ext_of}
use Rattle.samoa_net.specs.Gathered.{IsPlan, of_tick}

nat_cmp-is_lt : (a b : ℕ) → is_lt (nat_cmp a b) ≡ nat_lt a b
nat_cmp-is_lt a b = grind (arith, nat_tests)

neither_is_less : (a b : ℕ) → not (nat_lt a b) && not (nat_lt b a) ≡ (b == a)
neither_is_less a b = grind (arith, nat_tests)

-- neither key is less exactly where they are equal
tie_is_equal : (a b : ℕ) → not (is_lt (nat_cmp a b)) && not (is_lt (nat_cmp b a)) ≡ (b == a)
tie_is_equal a b =
    ap (λ t. not t && not (is_lt (nat_cmp b a))) (nat_cmp-is_lt a b) ∙ ap (λ t. not (nat_lt a b) && not t) (nat_cmp-is_lt b a) ∙ neither_is_less a b

-- an item of this tick
abbrev item_of : ℕ → Ext
item_of tick = record { tick = tick; node = record { 0 = 0 }; cause = Event (record { 0 = 0 }); args = [] }

filter_yes : (b : Bool) (item : Ext) (rest : List Ext) → b ≡ true → cond b (item ∷ rest) rest ≡ item ∷ rest
filter_yes b item rest e = ap (λ t. cond t (item ∷ rest) rest) e

filter_no : (b : Bool) (item : Ext) (rest : List Ext) → b ≡ false → cond b (item ∷ rest) rest ≡ rest
filter_no b item rest e = ap (λ t. cond t (item ∷ rest) rest) e

-- a test of what a later test passes
tested_before : (p q : Ext → Bool) → ((x : Ext) → q x ≡ true → p x ≡ true) → (xs : List Ext) → filter q (filter p xs) ≡ filter q xs
tested_before p q implied [] = refl
tested_before p q implied (x ∷ xs) = go (p x) (q x) refl refl (tested_before p q implied xs)
  where
    go : (b c : Bool) → p x ≡ b → q x ≡ c → filter q (filter p xs) ≡ filter q xs → filter q (cond (p x) (x ∷ filter p xs) (filter p xs)) ≡ cond (q x) (x ∷ filter q xs) (filter q xs)
    go true c e f rest = ap (λ t. filter q (cond t (x ∷ filter p xs) (filter p xs))) e ∙ ap (λ (l : List Ext). cond (q x) (x ∷ l) l) rest
    go false true e f rest = absurd (let passed : p x ≡ true = implied x f in cc)
    go false false e f rest = ap (λ t. filter q (cond t (x ∷ filter p xs) (filter p xs))) e ∙ rest ∙ sym (filter_no (q x) x (filter q xs) f)

after_is_later : (before tick n : ℕ) → before < tick → (n == tick) ≡ true → nat_lt before n ≡ true
after_is_later before tick n lt e = grind (arith, nat_tests)

passes_later : (before n : ℕ) → nat_lt before n ≡ true → before < n
passes_later before n e = grind (arith, nat_tests)

-- a test before or after they are made admissions
one_ext : (b : Bool) (x : DoDef) (exts : List Ext) (items : List DoDef) → exts ≡ map ext_of items → cond b (ext_of x ∷ exts) exts ≡ map ext_of (cond b (x ∷ items) items)
one_ext true x exts items e = ap (λ (l : List Ext). ext_of x ∷ l) e
one_ext false x exts items e = e

filter_ext : (tick : ℕ) (items : List DoDef) → of_tick tick (map ext_of items) ≡ map ext_of (filter (λ (item : DoDef). item.tick == tick) items)
filter_ext tick [] = refl
filter_ext tick (x ∷ xs) =
    one_ext (x.tick == tick) x (of_tick tick (map ext_of xs)) (filter (λ (item : DoDef). item.tick == tick) xs) (filter_ext tick xs)

batch-is : (script : Script) (tick : ℕ) → of_tick tick (map ext_of script.does) ≡ batch script tick
unfolding batch
batch-is script tick = filter_ext tick script.does

abbrev is_after : ℕ → Ext → Bool
is_after before ext = nat_lt before ext.tick

-- what a stable sort by the tick makes of the later items
pub sorted_is_plan : {F : Type 0} {g : Mut F (Bor Ext × Unit {0}) ℕ} {f : F} (script : Script) (before : ℕ) (items sorted : List Ext)
    → items ≡ filter (λ (ext : Ext). nat_lt before ext.tick) (map ext_of script.does) → IsPermutation items sorted
    → ((key : Ext → ℕ) → ComputesKey g key f → IsSortedByKey key nat_cmp sorted)
    → ((key : Ext → ℕ) → ComputesKey g key f → IsStableByKey key nat_cmp items sorted)
    → ((a : Bor Ext × Unit {0}) (r : ℕ) (f' : F) → Called g f a r f' → (r ≡ a.0.now.tick) × (f' ≡ f))
    → IsPlan script before sorted
sorted_is_plan {g = g} {f = f} script before items sorted are moved up stable h =
    let key : Ext → ℕ = λ (item : Ext). item.tick in
    let computes : ComputesKey g key f = always_returns_same g (λ a r. r ≡ key a.0.now) f h in
    let own : List Ext = map ext_of script.does in
    let P : List Ext → Type 0 = All (λ (ext : Ext). before < ext.tick) in
    record {
      rises = IsNonDecreasingBy-from_sort key sorted (up key computes);
      later =
          All-permutation (λ (ext : Ext). before < ext.tick) items sorted moved
          (subst P (sym are)
          (All-weaker (λ (ext : Ext). nat_lt before ext.tick ≡ true) (λ (ext : Ext). before < ext.tick) (λ ext e. passes_later before ext.tick e)
          (filter (is_after before) own) (filter_passes (is_after before) own)));
      same = λ tick lt.
          let test : Ext → Bool = λ (item : Ext). item.tick == tick in
          let tied : Ext → Bool = λ (item : Ext). not (is_lt (nat_cmp tick item.tick)) && not (is_lt (nat_cmp item.tick tick)) in
          let alike : (item : Ext) → test item ≡ tied item = λ (item : Ext). sym (tie_is_equal tick item.tick) in
          filter_agree test tied alike sorted ∙ stable key computes (item_of tick) ∙ filter_agree tied test (λ (item : Ext). sym (alike item)) items
          ∙ ap (filter test) are ∙ tested_before (is_after before) test (λ ext e. after_is_later before tick ext.tick lt e) own ∙ batch-is script tick;
    }

all_of_tick : (tick : ℕ) (items : List Ext) → All (λ (item : Ext). item.tick ≡ tick) items → of_tick tick items ≡ items
all_of_tick tick [] all = refl
all_of_tick tick (x ∷ xs) all =
    let here = All-head (λ (item : Ext). item.tick ≡ tick) x xs all in
    filter_yes (x.tick == tick) x (of_tick tick xs) (eq-eqb x.tick tick here)
    ∙ ap (λ (l : List Ext). x ∷ l) (all_of_tick tick xs (All-tail (λ (item : Ext). item.tick ≡ tick) x xs all))

none_of_tick : (tick : ℕ) (items : List Ext) → All (λ (item : Ext). item.tick ≢ tick) items → of_tick tick items ≡ []
none_of_tick tick [] all = refl
none_of_tick tick (x ∷ xs) all =
    let here = All-head (λ (item : Ext). item.tick ≢ tick) x xs all in
    filter_no (x.tick == tick) x (of_tick tick xs) (ne_eqb x.tick tick here)
    ∙ none_of_tick tick xs (All-tail (λ (item : Ext). item.tick ≢ tick) x xs all)

-- what `slice_get` finds
if_some : {X : Type 0} (P : X → Type 0) (o : Option X) (x : X) → o ≡ Some x → IfSome o P → P x
if_some P o x e h = let F : Option _ → Type 0 = λ q. IfSome q P in subst F e h

-- what stands from the first item of another tick on comes later
later_than : (before n : ℕ) (rest : List Ext) → IsNonDecreasingBy (λ (item : Ext). item.tick) rest → All (λ (item : Ext). before < item.tick) rest
    → IfSome (slice_get rest n) (λ (item : Ext). item.tick ≢ before + 1) → All (λ (item : Ext). before + 1 < item.tick) (drop n rest)
later_than before n rest rises after other =
    All-from_get_or (λ (item : Ext). before + 1 < item.tick) (drop n rest) (item_of 0) (λ i lt.
    let within : n + i < length rest = omega (arith, length-drop n rest) in
    let first : Ext = get_or rest n (item_of 0) in
    let late : before < first.tick = All-get_or (λ (item : Ext). before < item.tick) rest n (item_of 0) (omega arith) after in
    let not_next : first.tick ≢ before + 1 = if_some (λ (item : Ext). item.tick ≢ before + 1) (slice_get rest n) first (slice_get-get_or rest n (item_of 0) (omega arith)) other in
    let up : first.tick ≤ (get_or rest (n + i) (item_of 0)).tick = rises n (n + i) (item_of 0) (omega arith) within in
    let P : Ext → Type 0 = λ item. before + 1 < item.tick in
    subst P (sym (get_or-drop n rest i (item_of 0))) (omega arith))

parts : (tick n : ℕ) (rest : List Ext) → of_tick tick rest ≡ of_tick tick (take n rest) ++ of_tick tick (drop n rest)
parts tick n rest =
    let test : Ext → Bool = λ (item : Ext). item.tick == tick in
    ap (λ (l : List Ext). of_tick tick l) (sym (take-append-drop n rest)) ∙ filter-append test (take n rest) (drop n rest)

-- the first of the plan are those of the next tick
pub first_of_plan : (script : Script) (rest : List Ext) (before n : ℕ) → IsPlan script before rest → All (λ (item : Ext). item.tick ≡ before + 1) (take n rest)
    → IfSome (slice_get rest n) (λ (item : Ext). item.tick ≢ before + 1) → take n rest ≡ batch script (before + 1)
first_of_plan script rest before n plan first other =
    let tick = before + 1 in
    let late = later_than before n rest plan.rises plan.later other in
    let none = none_of_tick tick (drop n rest) (All-weaker (λ (item : Ext). tick < item.tick) (λ (item : Ext). item.tick ≢ tick) (λ item lt e. omega arith) (drop n rest) late) in
    sym (append-nil (take n rest)) ∙ ap (λ (l : List Ext). take n rest ++ l) (sym none)
    ∙ ap (λ (l : List Ext). l ++ of_tick tick (drop n rest)) (sym (all_of_tick tick (take n rest) first))
    ∙ sym (parts tick n rest) ∙ plan.same tick (omega arith)

-- the others are the plan after it
pub rest_of_plan : (script : Script) (rest : List Ext) (before n : ℕ) → IsPlan script before rest → All (λ (item : Ext). item.tick ≡ before + 1) (take n rest)
    → IfSome (slice_get rest n) (λ (item : Ext). item.tick ≢ before + 1) → IsPlan script (before + 1) (drop n rest)
rest_of_plan script rest before n plan first other =
    record {
      rises = IsNonDecreasingBy-drop (λ (item : Ext). item.tick) n rest plan.rises;
      later = later_than before n rest plan.rises plan.later other;
      same = λ tick lt.
          let none = none_of_tick tick (take n rest) (All-weaker (λ (item : Ext). item.tick ≡ before + 1) (λ (item : Ext). item.tick ≢ tick) (λ item e f. omega arith) (take n rest) first) in
          ap (λ (l : List Ext). l ++ of_tick tick (drop n rest)) (sym none) ∙ sym (parts tick n rest) ∙ plan.same tick (omega arith);
    }

-- both, of a list and of a tick that are known to be these
pub next_of_plan : (script : Script) (rest given : List Ext) (before tick n : ℕ) → tick ≡ before + 1 → given ≡ rest → IsPlan script before rest
    → All (λ (item : Ext). item.tick ≡ tick) (take n given) → IfSome (slice_get given n) (λ (item : Ext). item.tick ≢ tick)
    → (take n given ≡ batch script tick) × IsPlan script tick (drop n rest)
next_of_plan script rest given before tick n e same plan =
    let F : ℕ → List Ext → Type 0 = λ t xs.
    All (λ (item : Ext). item.tick ≡ t) (take n xs) → IfSome (slice_get xs n) (λ (item : Ext). item.tick ≢ t)
    → (take n xs ≡ batch script t) × IsPlan script t (drop n rest) in
    let here : F (before + 1) rest = λ first other. (first_of_plan script rest before n plan first other, rest_of_plan script rest before n plan first other) in
    let now : F tick rest = subst (λ t. F t rest) (sym e) here in
    subst (F tick) (sym same) now

-- what a slice from a place on is
pub slice_is_rest : (n : ℕ) (xs items rest : List Ext) → xs ≡ items → drop n items ≡ rest → take (length xs - n) (drop n xs) ≡ rest
slice_is_rest n xs items rest e r = take_all (length xs - n) (drop n xs) (omega (arith, length-drop n xs)) ∙ ap (λ (l : List Ext). drop n l) e ∙ r
