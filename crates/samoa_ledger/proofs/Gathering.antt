-- What is gathered, entry by entry, computation by computation and tick by tick.
use Rattle.std.proofs.Common.{◌≡◌, ℕ, zero, suc, ◌+◌, ◌≤◌, ◌<◌, List, [], ◌∷◌, ◌++◌, length, take, filter, Option, Some, sym, ap, ◌∙◌, subst, arith, append_assoc, append-nil, length-append, slice_get, get_or}
use Rattle.std.specs.List.{flat_map}
use Rattle.std.proofs.lemmas.Grind.{flat_map-append}
use Rattle.std.proofs.lemmas.List.Elements.{filter-append}
use Rattle.samoa_model.specs.declared.record.Entry.{Entry}
use Rattle.samoa_model.specs.declared.record.Ext.{Ext}
use Rattle.samoa_model.specs.declared.script.Script.{Script}
use Rattle.samoa_model.specs.Range.{IsInRange}
use Rattle.samoa_serial.specs.Batch.{asked_by, batch_after, by_each, is_up, sent_by}
use Rattle.samoa_serial.specs.History.{batch}
use Rattle.samoa_serial.specs.Known.{EachEntry, IsKnown}
use Rattle.samoa_serial.specs.Lists.{Each}
use Rattle.samoa_serial.specs.SerialRun.{serial}
use Rattle.samoa_serial.specs.Ticks.{IsBatch, admitted_by, most_admitted}
use Rattle.samoa_serial.specs.Whole.{Ran}
use Rattle.samoa_serial.proofs.CodeLaws.{entries_are_known}
use Rattle.samoa_serial.proofs.EntryLaws.{serial_entries}
use Rattle.samoa_serial.proofs.KeptLaws.{batch_after-parts, kept_is, sent_by_none, take_first}
use Rattle.samoa_serial.proofs.LimitLaws.{by_each-one_more}
use Rattle.samoa_serial.proofs.ListLaws.{each_append, each_weaker}
use Rattle.samoa_serial.proofs.RebindingLaws.{asked_by_none}
use Rattle.samoa_net.specs.Gathered.{Gathered, IsPlanFor, IsPlanIfAny, most_kept}
use Rattle.samoa_ledger.specs.Gathering.{Gathers, HasGathered, KeepsAfter, kept_for}
use Rattle.samoa_ledger.specs.Written.{next_ran}

keeps_more : (before mid after xs ys : List Ext) → KeepsAfter before xs mid → after ≡ take most_kept (mid ++ ys) → KeepsAfter before (xs ++ ys) after
keeps_more before mid after xs ys first next all e =
    next ∙ (ap (λ (l : List Ext). take most_kept (l ++ ys)) (first all e)
    ∙ (take_first most_kept most_kept (all ++ xs) ys (omega arith) ∙ ap (λ (l : List Ext). take most_kept l) (append_assoc all xs ys)))

-- one entry more, in two lists
one_entry : (script : Script) (tick : ℕ) (by : Entry → List Ext) (es : List Entry) (e : Entry)
    → filter (is_up script tick) (flat_map by es) ++ filter (is_up script tick) (by e) ≡ filter (is_up script tick) (flat_map by (es ++ e ∷ []))
one_entry script tick by es e =
    sym (filter-append (is_up script tick) (flat_map by es) (by e))
    ∙ ap (λ (l : List Ext). filter (is_up script tick) l)
    (ap (λ (l : List Ext). flat_map by es ++ l) (sym (append-nil (by e))) ∙ sym (flat_map-append by es (e ∷ [])))

pub gathers_more : (script : Script) (ext : Ext) (es : List Entry) (e : Entry) (start before after : Gathered) → Gathers script ext es start before
    → after.tick ≡ before.tick → after.own ≡ before.own
    → after.asked ≡ take most_kept (before.asked ++ filter (is_up script (before.tick + 1)) (asked_by (before.tick + 1) ext e))
    → after.sent ≡ take most_kept (before.sent ++ filter (is_up script (before.tick + 1)) (sent_by script (before.tick + 1) ext e))
    → Gathers script ext (es ++ e ∷ []) start after
gathers_more script ext es e start before after g tick own asked sent =
    let A : ℕ → Type 0 = λ t. after.asked ≡ take most_kept (before.asked ++ filter (is_up script (t + 1)) (asked_by (t + 1) ext e)) in
    let S : ℕ → Type 0 = λ t. after.sent ≡ take most_kept (before.sent ++ filter (is_up script (t + 1)) (sent_by script (t + 1) ext e)) in
    let t : ℕ = start.tick + 1 in
    record {
      tick = tick ∙ g.tick;
      own = own ∙ g.own;
      asked = subst (λ (more : List Ext). KeepsAfter start.asked more after.asked) (one_entry script t (asked_by t ext) es e)
          (keeps_more start.asked before.asked after.asked (filter (is_up script t) (flat_map (asked_by t ext) es)) (filter (is_up script t) (asked_by t ext e))
          g.asked (subst A g.tick asked));
      sent = subst (λ (more : List Ext). KeepsAfter start.sent more after.sent) (one_entry script t (sent_by script t ext) es e)
          (keeps_more start.sent before.sent after.sent (filter (is_up script t) (flat_map (sent_by script t ext) es)) (filter (is_up script t) (sent_by script t ext e))
          g.sent (subst S g.tick sent));
    }

-- the plan is as it was
plan_stays : (script : Script) (before after : Gathered) → after.tick ≡ before.tick → after.own ≡ before.own → IsPlanFor script before → IsPlanFor script after
plan_stays script before after tick own plan =
    subst (λ (t : ℕ). IsPlanIfAny script t after.own) (sym tick)
    (subst (λ (own : Option (List Ext)). IsPlanIfAny script before.tick own) (sym own) plan)

-- one computation more, in two lists
one_comp : (script : Script) (tick : ℕ) (by : Ext → Entry → List Ext) (past : List Ext) (ext : Ext)
    → filter (is_up script tick) (by_each by past (serial script past).comps) ++ filter (is_up script tick) (flat_map (by ext) (next_ran script past ext).world.entries)
    ≡ filter (is_up script tick) (by_each by (past ++ ext ∷ []) (serial script (past ++ ext ∷ [])).comps)
one_comp script tick by past ext =
    sym (filter-append (is_up script tick) (by_each by past (serial script past).comps) (flat_map (by ext) (next_ran script past ext).world.entries))
    ∙ ap (λ (l : List Ext). filter (is_up script tick) l) (sym (by_each-one_more by script past ext))

-- one computation more was gathered
pub gathered_more : (script : Script) (past : List Ext) (ext : Ext) (before after : Gathered) → HasGathered script past before → ext.tick ≡ before.tick
    → Gathers script ext (next_ran script past ext).world.entries before after → after.comp ≤ length past + 1 → HasGathered script (past ++ ext ∷ []) after
gathered_more script past ext before after has same g comp =
    let more : List Ext = past ++ ext ∷ [] in
    let t : ℕ = before.tick + 1 in
    let A : ℕ → Type 0 = λ n. after.asked ≡ kept_for script (n + 1) (by_each (asked_by (n + 1)) more (serial script more).comps) in
    let S : ℕ → Type 0 = λ n. after.sent ≡ kept_for script (n + 1) (by_each (sent_by script (n + 1)) more (serial script more).comps) in
    let T : ℕ → Type 0 = λ n. Each (λ (x : Ext). x.tick ≤ n) more in
    record {
      plan = plan_stays script before after g.tick g.own has.plan;
      within = omega (arith, has.within, g.tick);
      comp = omega (arith, comp, length-append past (ext ∷ []));
      ticks = subst T (sym g.tick) (each_append (λ (x : Ext). x.tick ≤ before.tick) past (ext ∷ []) has.ticks (omega (arith, same), tt));
      asked = subst A (sym g.tick) (g.asked (filter (is_up script t) (by_each (asked_by t) past (serial script past).comps)) has.asked
          ∙ ap (λ (l : List Ext). take most_kept l) (one_comp script t (asked_by t) past ext));
      sent = subst S (sym g.tick) (g.sent (filter (is_up script t) (by_each (sent_by script t) past (serial script past).comps)) has.sent
          ∙ ap (λ (l : List Ext). take most_kept l) (one_comp script t (sent_by script t) past ext));
    }

-- a new tick begins: nothing of it is gathered yet
pub gathered_next : (script : Script) (past : List Ext) (before after : Gathered) → HasGathered script past before → after.tick ≡ before.tick + 1 → before.tick + 1 ≤ script.ticks
    → after.asked ≡ [] → after.sent ≡ [] → after.comp ≡ before.comp → IsPlanFor script after → HasGathered script past after
gathered_next script past before after has tick within asked sent comp plan =
    let t : ℕ = after.tick + 1 in
    let earlier : Each (λ (x : Ext). x.tick + 1 < t) past
    = each_weaker (λ (x : Ext). x.tick ≤ before.tick) (λ (x : Ext). x.tick + 1 < t) (λ x le. omega (arith, le, tick)) past has.ticks in
    record {
      plan = plan;
      within = omega (arith, tick, within);
      comp = omega (arith, comp, has.comp);
      ticks = each_weaker (λ (x : Ext). x.tick ≤ before.tick) (λ (x : Ext). x.tick ≤ after.tick) (λ x le. omega (arith, le, tick)) past has.ticks;
      asked = asked ∙ ap (λ (l : List Ext). kept_for script t l) (sym (asked_by_none t past (serial script past).comps earlier));
      sent = sent ∙ ap (λ (l : List Ext). kept_for script t l) (sym (sent_by_none script t past (serial script past).comps earlier));
    }

-- what was gathered and the script's own items are the batch of the next tick, as far as it can be admitted
pub batch_is : (script : Script) (past : List Ext) (net : Gathered) (items : List Ext) → HasGathered script past net → past ≡ admitted_by most_admitted script net.tick
    → items ≡ net.asked ++ filter (is_up script (net.tick + 1)) (batch script (net.tick + 1)) ++ net.sent → IsBatch most_admitted script net.tick items
batch_is script past net items has is made =
    let t : ℕ = net.tick + 1 in
    let own : List Ext = filter (is_up script t) (batch script t) in
    let asked : List Ext = filter (is_up script t) (by_each (asked_by t) past (serial script past).comps) in
    let sent : List Ext = filter (is_up script t) (by_each (sent_by script t) past (serial script past).comps) in
    let B : List Ext → Type 0 = λ l. take most_kept items ≡ take most_kept (batch_after script t l (serial script l).comps) in
    subst B is
    (ap (λ (l : List Ext). take most_kept l)
    (made ∙ (ap (λ (l : List Ext). l ++ own ++ net.sent) has.asked ∙ ap (λ (l : List Ext). take most_kept asked ++ own ++ l) has.sent))
    ∙ (kept_is most_kept asked own sent
    ∙ ap (λ (l : List Ext). take most_kept l) (sym (batch_after-parts script t past (serial script past).comps))))

-- each entry of a computation is of the script
each_at : {A : Type 0} (P : A → Type 0) (xs : List A) (k : ℕ) (x : A) → Each P xs → slice_get xs k ≡ Some x → P x
each_at P [] k x all e = absurd (cc)
each_at P (y ∷ ys) zero x all e = let same : y ≡ x = cc in subst P same all.0
each_at P (y ∷ ys) (suc k) x all e = each_at P ys k x all.1 e

pub entry_known : (script : Script) (exts : List Ext) (k at : ℕ) (d : Ran) (entry : Entry) → IsInRange script → k < length (serial script exts).comps
    → slice_get (get_or (serial script exts).comps k d).world.entries at ≡ Some entry → IsKnown script entry
entry_known script exts k at d entry range within found =
    let rans : List Ran = (serial script exts).comps in
    let each : Each (EachEntry (IsKnown script)) rans = serial_entries (IsKnown script) script (entries_are_known script range) exts in
    each_at (IsKnown script) (get_or rans k d).world.entries at entry (each_get (EachEntry (IsKnown script)) rans k d each within) found
  where
    each_get : {A : Type 0} (P : A → Type 0) (xs : List A) (k : ℕ) (d : A) → Each P xs → k < length xs → P (get_or xs k d)
    each_get P [] k d all lt = absurd (omega (arith, lt))
    each_get P (y ∷ ys) zero d all lt = all.0
    each_get P (y ∷ ys) (suc k) d all lt = each_get P ys k d all.1 (omega (arith, lt))
