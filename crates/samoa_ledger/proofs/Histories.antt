-- What a script admits, tick by tick.
use Rattle.std.proofs.Common.{append-nil, ◌≡◌, ℕ, ◌+◌, ◌-◌, ◌<◌, ◌≤◌, true, false, min, filter, List, [], ◌∷◌, ◌++◌, length, take, sym, ap, ◌∙◌, subst, arith, length-append, nat_lt}
use Rattle.std.specs.List.{All}
use Rattle.std.proofs.lemmas.List.{take_min}
use Rattle.std.proofs.lemmas.List.Elements.{All-cons, All-nil}
use Rattle.samoa_model.specs.declared.record.Ext.{Ext}
use Rattle.samoa_model.specs.declared.script.Script.{Script}
use Rattle.samoa_model.specs.Range.{IsInRange, IsExtOf}
use Rattle.samoa_serial.specs.Batch.{is_up}
use Rattle.samoa_serial.specs.History.{batch}
use Rattle.samoa_serial.specs.Lists.{Each}
use Rattle.samoa_serial.specs.Ticks.{IsBatch, admitted, admitted_by, is_limited, is_limited_by, most_admitted}
use Rattle.samoa_serial.proofs.LimitLaws.{admitted_by-few, admitted_by-known, admitted_to-is, is_limited_to-is, passed_admits, passed_limits, tick_admits, tick_passes, tick_ticks}
use Rattle.samoa_net.specs.Gathered.{Gathered}
use Rattle.samoa_ledger.specs.Gathering.{HasGathered}
use Rattle.samoa_ledger.specs.Left.{IsLeft}
use Rattle.samoa_ledger.proofs.Gathering.{batch_is}
use Rattle.std.proofs.lemmas.List.Elements.{All-head}
use Rattle.std.proofs.Common.{Some, slice_get}

-- what holds of each by recursion holds of all
all_of : {A : Type 0} (P : A → Type 0) (xs : List A) → Each P xs → All P xs
all_of P [] each = All-nil P
all_of P (x ∷ xs) each = All-cons P x xs each.0 (all_of P xs each.1)

pub each_after : {A : Type 0} (P : A → Type 0) (xs ys : List A) → Each P (xs ++ ys) → Each P ys
each_after P [] ys all = all
each_after P (x ∷ xs) ys all = each_after P xs ys all.1

-- it takes as many of its batch as there is room for
pub part_is : (script : Script) (past : List Ext) (before tick room count : ℕ) (items : List Ext) → past ≡ admitted_by most_admitted script before → tick ≡ before + 1
    → room ≡ 100000 - length past → count ≡ min room (length items) → is_limited_by most_admitted script before ≡ false → IsBatch most_admitted script before items
    → IsLeft script past tick (take count items)
part_is script past before tick room count items is next left some free batch =
    subst (λ (k : ℕ). IsLeft script past k (take count items)) (sym next)
    (subst (λ (xs : List Ext). IsLeft script past (before + 1) xs) (sym first)
    (subst (λ (xs : List Ext). IsLeft script xs (before + 1) (take (100000 - length (admitted_by most_admitted script before)) items)) (sym is) (record {
      adds = tick_admits most_admitted script before items free batch;
      of_tick = all_of (λ (ext : Ext). ext.tick ≡ before + 1) (take (100000 - length (admitted_by most_admitted script before)) items)
          (tick_ticks most_admitted script before items batch);
    })))
  where
    first : take count items ≡ take (100000 - length (admitted_by most_admitted script before)) items
    first =
        ap (λ (k : ℕ). take k items) some
        ∙ (take_min room items ∙ (ap (λ (k : ℕ). take k items) left ∙ ap (λ (xs : List Ext). take (100000 - length xs) items) is))

-- and would admit more where its batch has more
pub passes_if : (script : Script) (past : List Ext) (before tick room : ℕ) (items : List Ext) → past ≡ admitted_by most_admitted script before → tick ≡ before + 1
    → room ≡ 100000 - length past → is_limited_by most_admitted script before ≡ false → IsBatch most_admitted script before items
    → nat_lt room (length items) ≡ is_limited_by most_admitted script tick
passes_if script past before tick room items is next left free batch =
    ap (λ (k : ℕ). nat_lt k (length items)) (left ∙ ap (λ (xs : List Ext). 100000 - length xs) is)
    ∙ (sym (tick_passes most_admitted script before items free batch) ∙ ap (λ (k : ℕ). is_limited_by most_admitted script k) (sym next))

-- the same, of what was gathered
pub tick_part : (script : Script) (past : List Ext) (net : Gathered) (tick count admitted len : ℕ) (items shown : List Ext)
    → past ≡ admitted_by most_admitted script net.tick → HasGathered script past net → tick ≡ net.tick + 1 → is_limited_by most_admitted script net.tick ≡ false
    → items ≡ net.asked ++ filter (is_up script tick) (batch script tick) ++ net.sent → shown ≡ items → admitted ≡ length past → len ≡ length items
    → count ≡ min (100000 - admitted) len → IsLeft script past tick (take count shown)
tick_part script past net tick count admitted len items shown is has next free made same as_many long some =
    let B : ℕ → Type 0 = λ t. items ≡ net.asked ++ filter (is_up script t) (batch script t) ++ net.sent in
    let room : 100000 - admitted ≡ 100000 - length past = ap (λ (n : ℕ). 100000 - n) as_many in
    subst (λ (xs : List Ext). IsLeft script past tick (take count xs)) (sym same)
    (part_is script past net.tick tick (100000 - admitted) count items is next room (some ∙ ap (λ (n : ℕ). min (100000 - admitted) n) long) free
    (batch_is script past net items has is (subst B next made)))

pub tick_passes_if : (script : Script) (past : List Ext) (net : Gathered) (tick admitted len : ℕ) (items : List Ext)
    → past ≡ admitted_by most_admitted script net.tick → HasGathered script past net → tick ≡ net.tick + 1 → is_limited_by most_admitted script net.tick ≡ false
    → items ≡ net.asked ++ filter (is_up script tick) (batch script tick) ++ net.sent → admitted ≡ length past → len ≡ length items
    → nat_lt (100000 - admitted) len ≡ is_limited_by most_admitted script tick
tick_passes_if script past net tick admitted len items is has next free made as_many long =
    let B : ℕ → Type 0 = λ t. items ≡ net.asked ++ filter (is_up script t) (batch script t) ++ net.sent in
    let room : 100000 - admitted ≡ 100000 - length past = ap (λ (n : ℕ). 100000 - n) as_many in
    ap (λ (n : ℕ). nat_lt (100000 - admitted) n) long
    ∙ passes_if script past net.tick tick (100000 - admitted) items is next room free (batch_is script past net items has is (subst B next made))

pub past_few : (script : Script) (past : List Ext) (tick : ℕ) → past ≡ admitted_by most_admitted script tick → length past ≤ 100000
past_few script past tick is =
    let whole : length past ≡ length (admitted_by most_admitted script tick) = ap (λ (xs : List Ext). length xs) is in
    omega (arith, admitted_by-few most_admitted script tick, whole)

pub part_few : (script : Script) (past : List Ext) (tick : ℕ) (part : List Ext) → IsLeft script past tick part → length past + length part ≤ 100000
part_few script past tick part is =
    let whole : length (admitted_by most_admitted script tick) ≡ length (past ++ part) = ap (λ (xs : List Ext). length xs) is.adds in
    omega (arith, admitted_by-few most_admitted script tick, whole, length-append past part)

pub part_named : (script : Script) (past : List Ext) (tick : ℕ) (part : List Ext) → IsInRange script → IsLeft script past tick part → All (IsExtOf script) part
part_named script past tick part range is =
    all_of (IsExtOf script) part (each_after (IsExtOf script) past part
    (subst (λ (xs : List Ext). Each (IsExtOf script) xs) is.adds (admitted_by-known most_admitted script tick range)))

-- after the last tick all is admitted
pub last_admits : (script : Script) (n : ℕ) → n ≡ script.ticks → admitted_by most_admitted script n ≡ admitted script
last_admits script n e = ap (λ (k : ℕ). admitted_by most_admitted script k) e ∙ sym (admitted_to-is most_admitted script)

pub last_limits : (script : Script) (n : ℕ) → n ≡ script.ticks → is_limited_by most_admitted script n ≡ false → false ≡ is_limited script
last_limits script n e free =
    sym free ∙ (ap (λ (k : ℕ). is_limited_by most_admitted script k) e ∙ sym (is_limited_to-is most_admitted script))

-- and so it is after the tick that passes the limit
pub limit_admits : (script : Script) (before : ℕ) → before < script.ticks → is_limited_by most_admitted script (before + 1) ≡ true
    → admitted_by most_admitted script (before + 1) ≡ admitted script
limit_admits script before within passed = sym (passed_admits most_admitted script (before + 1) (omega (arith, within)) passed)

pub limit_limits : (script : Script) (before : ℕ) → before < script.ticks → is_limited_by most_admitted script (before + 1) ≡ true → true ≡ is_limited script
limit_limits script before within passed = sym (passed_limits most_admitted script (before + 1) (omega (arith, within)) passed)

-- nothing is left of a tick
pub past_is : (script : Script) (past : List Ext) (tick : ℕ) (rest : List Ext) → IsLeft script past tick rest → rest ≡ [] → past ≡ admitted_by most_admitted script tick
past_is script past tick rest left none = sym (left.adds ∙ (ap (λ (xs : List Ext). past ++ xs) none ∙ append-nil past))

-- the next one of a list
pub first_of : (P : Ext → Type 0) (xs : List Ext) (ext : Ext) → All P xs → slice_get xs 0 ≡ Some ext → P ext
first_of P [] ext all is = absurd (cc is)
first_of P (x ∷ xs) ext all is = subst P (same x ext is) (All-head P x xs all)
  where
    same : (a b : Ext) → Some a ≡ Some b → a ≡ b
    same a b e = cc e
