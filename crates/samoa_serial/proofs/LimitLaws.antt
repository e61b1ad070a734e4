-- What the first ticks admit under the limit, tick by tick.
use Rattle.std.proofs.Common.{◌≡◌, refl, sym, ap, subst, ◌∙◌, arith, ℕ, zero, suc, ◌+◌, ◌-◌, ◌<◌, ◌≤◌, true, false, List, [], ◌∷◌, ◌++◌, length, take, append-nil, length-append}
use Rattle.std.specs.Prelude.{nat_lt}
use Rattle.std.specs.List.{flat_map}
use Rattle.std.proofs.Math.Seq.{take-append-add}
use Rattle.std.proofs.lemmas.Grind.{common_steps}
use Rattle.std.proofs.lemmas.Bool.Decides.{leb_tells}
use Rattle.std.proofs.lemmas.List.{take_all}
use Rattle.samoa_model.specs.declared.record.Entry.{Entry}
use Rattle.samoa_model.specs.declared.record.Ext.{Ext}
use Rattle.samoa_model.specs.declared.script.Script.{Script}
use Rattle.samoa_model.specs.Range.{IsInRange, IsExtOf}
use Rattle.samoa_serial.specs.Whole.{Ran}
use Rattle.samoa_serial.specs.SerialRun.{ran_of, serial}
use Rattle.samoa_serial.specs.Lists.{Each, Begins}
use Rattle.samoa_serial.specs.Batch.{by_each}
use Rattle.samoa_serial.specs.Ticks.{IsBatch, history_within, is_limited_by, admitted_by, is_limited_to, admitted_to}
use Rattle.samoa_serial.proofs.CodeLaws.{entries_are_known}
use Rattle.samoa_serial.proofs.KeptLaws.{agree_less, kept_after, past_stays, pass_both, take_take, tick_adds}
use Rattle.samoa_serial.proofs.ListLaws.{begins-take, length-take-most}
use Rattle.samoa_serial.proofs.RangeLaws.{each_begins, endless_known}
use Rattle.samoa_serial.proofs.RebindingLaws.{by_each-append}
use Rattle.samoa_serial.proofs.SerialLaws.{comps-append, length-comps}
use Rattle.samoa_serial.proofs.TicksLaws.{next_batch, endless, within_is, within_begins, history_within-none, batch_ticks, endless_ticks}

admitted_by-is : (most : ℕ) (script : Script) (n : ℕ) → admitted_by most script n ≡ take most (history_within most script n)
unfolding admitted_by
admitted_by-is most script n = refl

is_limited_by-is : (most : ℕ) (script : Script) (n : ℕ) → is_limited_by most script n ≡ nat_lt most (length (history_within most script n))
unfolding is_limited_by
is_limited_by-is most script n = refl

-- before the first tick nothing is admitted
pub admitted_by-none : (most : ℕ) (script : Script) → admitted_by most script 0 ≡ []
unfolding admitted_by
admitted_by-none most script = ap (λ (h : List Ext). take most h) (history_within-none most script) ∙ take_all most [] (omega arith)

pub is_limited_by-none : (most : ℕ) (script : Script) → is_limited_by most script 0 ≡ false
unfolding is_limited_by
is_limited_by-none most script =
    let none : length (history_within most script 0) ≡ 0 = ap (λ (h : List Ext). length h) (history_within-none most script) in
    grind (arith, common_steps, leb_tells, none)

few_of : (most n : ℕ) → nat_lt most n ≡ false → n ≤ most
few_of most n e = grind (arith, common_steps, leb_tells, e)

many_of : (most n : ℕ) → nat_lt most n ≡ true → most < n
many_of most n e = grind (arith, common_steps, leb_tells, e)

-- no more than the limit
pub admitted_by-few : (most : ℕ) (script : Script) (n : ℕ) → length (admitted_by most script n) ≤ most
unfolding admitted_by
admitted_by-few most script n = length-take-most most (history_within most script n)

-- as long as the limit isn't passed, all are admitted
pub admitted_by-all : (most : ℕ) (script : Script) (n : ℕ) → is_limited_by most script n ≡ false → admitted_by most script n ≡ history_within most script n
unfolding admitted_by is_limited_by
admitted_by-all most script n free = take_all most (history_within most script n) (few_of most (length (history_within most script n)) free)

within_few : (most : ℕ) (script : Script) (n : ℕ) → is_limited_by most script n ≡ false → length (history_within most script n) ≤ most
unfolding is_limited_by
within_few most script n free = few_of most (length (history_within most script n)) free

first_places : (most room : ℕ) (xs ys : List Ext) → room ≤ most → take (suc most) xs ≡ take (suc most) ys → take (suc room) xs ≡ take (suc room) ys
first_places most room xs ys le e =
    sym (take_take (suc room) (suc most) xs (omega (arith, le)))
    ∙ (ap (λ (zs : List Ext). take (suc room) zs) e ∙ take_take (suc room) (suc most) ys (omega (arith, le)))

history_more : (most : ℕ) (script : Script) (n : ℕ) → is_limited_by most script n ≡ false
    → history_within most script (n + 1) ≡ admitted_by most script n ++ next_batch script (n + 1) (admitted_by most script n)
history_more most script n free =
    tick_adds most script n (within_few most script n free)
    ∙ ap (λ (h : List Ext). h ++ next_batch script (n + 1) h) (sym (admitted_by-all most script n free))

-- a tick adds the first of its batch, as many as the limit leaves room for
pub tick_admits : (most : ℕ) (script : Script) (n : ℕ) (batch : List Ext) → is_limited_by most script n ≡ false → IsBatch most script n batch
    → admitted_by most script (n + 1) ≡ admitted_by most script n ++ take (most - length (admitted_by most script n)) batch
tick_admits most script n batch free is =
    admitted_by-is most script (n + 1) ∙ (ap (λ (h : List Ext). take most h) (history_more most script n free)
    ∙ (kept_after most before next batch (sym (agree_less most batch next is)) ∙ first_of before (admitted_by-few most script n)))
  where
    before : List Ext
    before = admitted_by most script n

    next : List Ext
    next = next_batch script (n + 1) before

    first_of : (h : List Ext) → length h ≤ most → take most (h ++ batch) ≡ h ++ take (most - length h) batch
    first_of h le =
        let same : most ≡ length h + (most - length h) = omega (arith, le) in
        ap (λ (k : ℕ). take k (h ++ batch)) same ∙ take-append-add h batch (most - length h)

-- and passes the limit where its batch has more
pub tick_passes : (most : ℕ) (script : Script) (n : ℕ) (batch : List Ext) → is_limited_by most script n ≡ false → IsBatch most script n batch
    → is_limited_by most script (n + 1) ≡ nat_lt (most - length (admitted_by most script n)) (length batch)
tick_passes most script n batch free is =
    is_limited_by-is most script (n + 1) ∙ (ap (λ (h : List Ext). nat_lt most (length h)) (history_more most script n free)
    ∙ (room_of before next (admitted_by-few most script n) ∙ sym (pass_both room batch next (first_places most room batch next (omega arith) is))))
  where
    before : List Ext
    before = admitted_by most script n

    next : List Ext
    next = next_batch script (n + 1) before

    room : ℕ
    room = most - length before

    room_of : (h xs : List Ext) → length h ≤ most → nat_lt most (length (h ++ xs)) ≡ nat_lt (most - length h) (length xs)
    room_of h xs le = let both = length-append h xs in grind (arith, common_steps, leb_tells, le, both)

-- each of what it adds is of the tick
pub tick_ticks : (most : ℕ) (script : Script) (n : ℕ) (batch : List Ext) → IsBatch most script n batch
    → Each (λ (x : Ext). x.tick ≡ n + 1) (take (most - length (admitted_by most script n)) batch)
tick_ticks most script n batch is =
    subst (λ (xs : List Ext). Each (λ (x : Ext). x.tick ≡ n + 1) xs) (sym same)
    (each_take (λ (x : Ext). x.tick ≡ n + 1) room next (batch_ticks script (n + 1) (admitted_by most script n)))
  where
    next : List Ext
    next = next_batch script (n + 1) (admitted_by most script n)

    room : ℕ
    room = most - length (admitted_by most script n)

    same : take room batch ≡ take room next
    same = agree_less room batch next (first_places most room batch next (omega arith) is)

    each_take : {A : Type 0} (P : A → Type 0) (k : ℕ) (xs : List A) → Each P xs → Each P (take k xs)
    each_take P zero xs all = tt
    each_take P (suc k) [] all = tt
    each_take P (suc k) (x ∷ xs) all = (all.0, each_take P k xs all.1)

-- fewer ticks admit the first of what more ticks do
take_begins : (n : ℕ) (xs ys : List Ext) → Begins xs ys → Begins (take n xs) (take n ys)
take_begins n xs ys b = subst (λ (zs : List Ext). Begins (take n xs) (take n zs)) (sym b.is) (go n xs b.rest)
  where
    go : (n : ℕ) (xs rest : List Ext) → Begins (take n xs) (take n (xs ++ rest))
    go zero xs rest = record { rest = []; is = refl }
    go (suc n) [] rest = record { rest = take (suc n) rest; is = refl }
    go (suc n) (x ∷ xs) rest = let later = go n xs rest in record { rest = later.rest; is = ap (λ (zs : List Ext). x ∷ zs) later.is }

pub admitted_by-begins : (most : ℕ) (script : Script) (n k : ℕ) → Begins (admitted_by most script n) (admitted_by most script (k + n))
unfolding admitted_by
admitted_by-begins most script n k =
    take_begins most (history_within most script n) (history_within most script (k + n)) (within_begins most script n k)

pub admitted_to-begins : (most : ℕ) (script : Script) (n : ℕ) → n ≤ script.ticks → Begins (admitted_by most script n) (admitted_to most script)
unfolding admitted_to
admitted_to-begins most script n le =
    let all : (script.ticks - n) + n ≡ script.ticks = omega (arith, le) in
    subst (λ (k : ℕ). Begins (admitted_by most script n) (admitted_by most script k)) all (admitted_by-begins most script n (script.ticks - n))

-- the last tick has been
pub admitted_to-is : (most : ℕ) (script : Script) → admitted_to most script ≡ admitted_by most script script.ticks
unfolding admitted_to
admitted_to-is most script = refl

pub is_limited_to-is : (most : ℕ) (script : Script) → is_limited_to most script ≡ is_limited_by most script script.ticks
unfolding is_limited_to
is_limited_to-is most script = refl

-- once the limit is passed nothing more is admitted
stays : (most : ℕ) (script : Script) (n : ℕ) → n ≤ script.ticks → is_limited_by most script n ≡ true
    → history_within most script script.ticks ≡ history_within most script n
unfolding is_limited_by
stays most script n le passed =
    let all : script.ticks ≡ (script.ticks - n) + n = omega (arith, le) in
    ap (λ (k : ℕ). history_within most script k) all
    ∙ past_stays most script n (script.ticks - n) (many_of most (length (history_within most script n)) passed)

pub passed_admits : (most : ℕ) (script : Script) (n : ℕ) → n ≤ script.ticks → is_limited_by most script n ≡ true
    → admitted_to most script ≡ admitted_by most script n
unfolding admitted_to admitted_by
passed_admits most script n le passed = ap (λ (h : List Ext). take most h) (stays most script n le passed)

pub passed_limits : (most : ℕ) (script : Script) (n : ℕ) → n ≤ script.ticks → is_limited_by most script n ≡ true → is_limited_to most script ≡ true
unfolding is_limited_to is_limited_by
passed_limits most script n le passed = ap (λ (h : List Ext). nat_lt most (length h)) (stays most script n le passed) ∙ passed

-- what the first ticks admit is of them, and of the script
of_endless : (P : Ext → Type 0) (most : ℕ) (script : Script) (n : ℕ) → ((k : ℕ) → k ≤ n → Each P (endless script k)) → Each P (admitted_by most script n)
unfolding admitted_by
of_endless P most script n all =
    let o = within_is most script n in
    let h : List Ext = history_within most script n in
    let whole : Each P h = subst (λ (xs : List Ext). Each P xs) (sym o.is) (all o.ticks o.fewer) in
    let first = begins-take most h in
    each_begins P (take most h) first.rest (subst (λ (xs : List Ext). Each P xs) first.is whole)

pub admitted_by-ticks : (most : ℕ) (script : Script) (n : ℕ) → Each (λ (x : Ext). x.tick ≤ n) (admitted_by most script n)
admitted_by-ticks most script n = of_endless (λ (x : Ext). x.tick ≤ n) most script n (λ k le. weaker k le (endless script k) (endless_ticks script k))
  where
    weaker : (k : ℕ) → k ≤ n → (xs : List Ext) → Each (λ (x : Ext). x.tick ≤ k) xs → Each (λ (x : Ext). x.tick ≤ n) xs
    weaker k le [] all = tt
    weaker k le (x ∷ xs) all = (omega (arith, le, all.0), weaker k le xs all.1)

pub admitted_by-known : (most : ℕ) (script : Script) (n : ℕ) → IsInRange script → Each (IsExtOf script) (admitted_by most script n)
admitted_by-known most script n range =
    of_endless (IsExtOf script) most script n (λ k le. endless_known script range (entries_are_known script range) k)

-- what one computation more brings
pub by_each-one_more : (by : Ext → Entry → List Ext) (script : Script) (past : List Ext) (ext : Ext)
    → by_each by (past ++ ext ∷ []) (serial script (past ++ ext ∷ [])).comps
    ≡ by_each by past (serial script past).comps
    ++ flat_map (by ext) (ran_of script past ((serial script past).states ext.node.0) ext).world.entries
by_each-one_more by script past ext =
    let ran : Ran = ran_of script past ((serial script past).states ext.node.0) ext in
    ap (λ (rans : List Ran). by_each by (past ++ ext ∷ []) rans) (comps-append script past ext)
    ∙ (by_each-append by past (ext ∷ []) (serial script past).comps (ran ∷ []) (length-comps script past)
    ∙ ap (λ (xs : List Ext). by_each by past (serial script past).comps ++ xs) (append-nil (flat_map (by ext) ran.world.entries)))
