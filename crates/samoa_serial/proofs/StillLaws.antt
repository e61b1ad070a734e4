-- A script without messages and changes asked for, and without crashes, admits its own items and nothing else.
use Rattle.std.proofs.Common.{◌≡◌, ◌⊎◌, inl, inr, refl, sym, ap, ◌∙◌, arith, ℕ, zero, suc, ◌<◌, ◌≤◌, Bool, true, false, not, ◌==◌, List, [], ◌∷◌, ◌++◌, length, take, append_assoc, append-nil}
use Rattle.std.specs.Prelude.{filter, nat_le, ◌&&◌}
use Rattle.std.specs.List.{flat_map, list_any}
use Rattle.std.proofs.lemmas.Grind.{common_steps}
use Rattle.std.proofs.lemmas.Bool.Decides.{leb_tells}
use Rattle.std.proofs.lemmas.List.{take_all}
use Rattle.std.proofs.lemmas.List.Sums.{length-filter, count_by-le-length}
use Rattle.samoa_model.specs.declared.record.Entry.{Entry}
use Rattle.samoa_model.specs.declared.record.Ext.{Ext}
use Rattle.samoa_model.specs.declared.script.CrashDef.{CrashDef}
use Rattle.samoa_model.specs.declared.script.Script.{Script}
use Rattle.samoa_serial.specs.Whole.{Ran}
use Rattle.samoa_serial.specs.SerialRun.{Served, serial}
use Rattle.samoa_serial.specs.History.{batch, history_to, history}
use Rattle.samoa_serial.specs.Lines.{total_text}
use Rattle.samoa_serial.specs.Report.{comps_text, states_text, is_delivery, is_refusal, entries_of_sort, report_of, report}
use Rattle.samoa_serial.specs.Lists.{Each}
use Rattle.samoa_serial.specs.Batch.{sent_by, asked_by, by_each, is_up, would_admit, batch_after}
use Rattle.samoa_serial.specs.Ticks.{history_within, is_limited_by, is_limited_to, admitted_by, admitted_to}
use Rattle.samoa_serial.specs.LimitedReport.{report_with, report_to}
use Rattle.samoa_serial.proofs.HistoryLaws.{in_first, length-history_to}
use Rattle.samoa_serial.specs.Known.{EachEntry, IsQuiet, IsStill}
use Rattle.samoa_serial.proofs.ReportLaws.{report_of-parts}
use Rattle.samoa_serial.proofs.TicksLaws.{next_batch, endless, IsOf, within_is}

sent_none : (script : Script) (tick : ℕ) (x : Ext) (es : List Entry) → Each IsQuiet es → flat_map (sent_by script tick x) es ≡ []
sent_none script tick x [] all = refl
sent_none script tick x (Entry.Sent call to event arg ∷ es) all = absurd all.0
sent_none script tick x (Entry.Asked call change arg ∷ es) all = absurd all.0
sent_none script tick x (Entry.Accepted call caller handler arg ∷ es) all = sent_none script tick x es all.1
sent_none script tick x (Entry.Finished call words ∷ es) all = sent_none script tick x es all.1
sent_none script tick x (Entry.Refused caller event refusal ∷ es) all = sent_none script tick x es all.1
sent_none script tick x (Entry.Waiting call event arg ∷ es) all = sent_none script tick x es all.1
sent_none script tick x (Entry.Delivered call micro arg ∷ es) all = sent_none script tick x es all.1

asked_none : (tick : ℕ) (x : Ext) (es : List Entry) → Each IsQuiet es → flat_map (asked_by tick x) es ≡ []
asked_none tick x [] all = refl
asked_none tick x (Entry.Sent call to event arg ∷ es) all = absurd all.0
asked_none tick x (Entry.Asked call change arg ∷ es) all = absurd all.0
asked_none tick x (Entry.Accepted call caller handler arg ∷ es) all = asked_none tick x es all.1
asked_none tick x (Entry.Finished call words ∷ es) all = asked_none tick x es all.1
asked_none tick x (Entry.Refused caller event refusal ∷ es) all = asked_none tick x es all.1
asked_none tick x (Entry.Waiting call event arg ∷ es) all = asked_none tick x es all.1
asked_none tick x (Entry.Delivered call micro arg ∷ es) all = asked_none tick x es all.1

by_each-none : (by : Ext → Entry → List Ext) → ((x : Ext) (es : List Entry) → Each IsQuiet es → flat_map (by x) es ≡ [])
    → (xs : List Ext) (rs : List Ran) → Each (EachEntry IsQuiet) rs → by_each by xs rs ≡ []
by_each-none by none [] rs all = refl
by_each-none by none (x ∷ xs) [] all = refl
by_each-none by none (x ∷ xs) (r ∷ rs) all =
    ap (λ (ys : List Ext). ys ++ by_each by xs rs) (none x r.world.entries all.0) ∙ by_each-none by none xs rs all.1

all_up : (script : Script) (tick : ℕ) → script.crashes ≡ [] → (xs : List Ext) → filter (is_up script tick) xs ≡ xs
all_up script tick up [] = refl
all_up script tick up (x ∷ xs) =
    let is : is_up script tick x ≡ true
    = ap (λ (crashes : List CrashDef). not (list_any (λ (crash : CrashDef). crash.node.0 == x.node.0 && nat_le crash.tick tick) crashes)) up in
    rw is (ap (λ (ys : List Ext). x ∷ ys) (all_up script tick up xs))

still_batch : (script : Script) → IsStill script → (tick : ℕ) (h : List Ext) → next_batch script tick h ≡ batch script tick
unfolding batch_after
still_batch script still tick h =
    all_up script tick still.up (would_admit script tick h rans)
    ∙ (ap (λ (asked : List Ext). asked ++ batch script tick ++ by_each (sent_by script tick) h rans)
    (by_each-none (asked_by tick) (λ x es all. asked_none tick x es all) h rans (still.quiet h))
    ∙ (ap (λ (sent : List Ext). batch script tick ++ sent) (by_each-none (sent_by script tick) (λ x es all. sent_none script tick x es all) h rans (still.quiet h))
    ∙ append-nil (batch script tick)))
  where
    rans : List Ran
    rans = (serial script h).comps

pub still_endless : (script : Script) → IsStill script → (n : ℕ) → endless script n ≡ history_to script n
unfolding history_to
still_endless script still zero = refl
still_endless script still (suc n) =
    ap (λ (own : List Ext). endless script n ++ own) (still_batch script still (suc n) (endless script n))
    ∙ ap (λ (h : List Ext). h ++ batch script (suc n)) (still_endless script still n)

length-few : (script : Script) (n : ℕ) → length (history_to script n) ≤ length script.does
length-few script n = omega (arith, length-history_to script n, length-filter (in_first n) script.does, count_by-le-length (in_first n) script.does)

-- its history is what it is known to be, whatever the limit
pub still_within : (most : ℕ) (script : Script) → IsStill script → length script.does ≤ most → (n : ℕ) → history_within most script n ≡ history_to script n
still_within most script still few n = go (within_is most script n)
  where
    go : IsOf most script n (history_within most script n) → history_within most script n ≡ history_to script n
    go o = of o.stopped
      where
        is : history_within most script n ≡ history_to script o.ticks
        is = o.is ∙ still_endless script still o.ticks

        of : o.ticks ≡ n ⊎ most < length (history_within most script n) → history_within most script n ≡ history_to script n
        of (inl same) = is ∙ ap (λ k. history_to script k) same
        of (inr past) =
            let short = length-few script o.ticks in
            let same : length (history_within most script n) ≡ length (history_to script o.ticks) = ap (λ (xs : List Ext). length xs) is in
            absurd (omega (arith, past, short, same, few))

pub still_admitted : (most : ℕ) (script : Script) → IsStill script → length script.does ≤ most → admitted_to most script ≡ history script
unfolding admitted_to admitted_by history
still_admitted most script still few =
    ap (λ (xs : List Ext). take most xs) (still_within most script still few script.ticks)
    ∙ take_all most (history_to script script.ticks) (omega (arith, length-few script script.ticks, few))

pub still_unlimited : (most : ℕ) (script : Script) → IsStill script → length script.does ≤ most → is_limited_to most script ≡ false
unfolding is_limited_to is_limited_by
still_unlimited most script still few =
    let same : length (history_within most script script.ticks) ≡ length (history_to script script.ticks)
    = ap (λ (xs : List Ext). length xs) (still_within most script still few script.ticks) in
    let short = length-few script script.ticks in
    grind (arith, common_steps, leb_tells, same, short, few)

-- and so is its report
pub still_report : (most : ℕ) (script : Script) → IsStill script → length script.does ≤ most → (calls : Bool) → report_to most script calls ≡ report script calls
unfolding report_to report
still_report most script still few calls =
    ap (λ (limited : Bool). report_with most script calls limited (admitted_to most script) (serial script (admitted_to most script))) (still_unlimited most script still few)
    ∙ (ap (λ (exts : List Ext). report_with most script calls false exts (serial script exts)) (still_admitted most script still few)
    ∙ plain (history script))
  where
    plain : (exts : List Ext) → report_with most script calls false exts (serial script exts) ≡ report_of script calls exts
    plain exts =
        let served : Served = serial script exts in
        sym
        (append_assoc (comps_text script calls 1 exts served.comps) (states_text script served.states script.nodes)
        (total_text (length exts) (entries_of_sort is_delivery served.comps) (entries_of_sort is_refusal served.comps)))
        ∙ sym (report_of-parts script calls exts)
