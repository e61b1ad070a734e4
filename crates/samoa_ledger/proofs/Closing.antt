-- The report: what its computations write, and its end.
use Rattle.std.proofs.Common.{◌≡◌, ℕ, Bool, false, if◌then◌else◌, ◌++◌, List, [], length, sym, ap, ◌∙◌, append_assoc}
use Rattle.samoa_model.specs.declared.record.Ext.{Ext}
use Rattle.samoa_model.specs.declared.script.Script.{Script}
use Rattle.samoa_serial.specs.World.{States}
use Rattle.samoa_serial.specs.SerialRun.{serial}
use Rattle.samoa_serial.specs.LimitedReport.{limit_text, report_in_full, report_to}
use Rattle.samoa_serial.specs.Lines.{total_text}
use Rattle.samoa_serial.specs.Report.{states_text, is_delivery, is_refusal, entries_of_sort}
use Rattle.samoa_serial.specs.Ticks.{admitted, is_limited, most_admitted}
use Rattle.samoa_invariant.specs.Runs.{Trace}
use Rattle.samoa_ledger.specs.declared.totals.Totals.{Totals}
use Rattle.samoa_ledger.specs.Written.{AreTotals, closing_text, later_text, states_of}
use Rattle.samoa_ledger.proofs.LaterText.{comps_text-all}

-- the shown states of a core, and its totals
pub closing_text-built : (script : Script) (core : Trace) (totals : Totals) (old states all : List ℕ) → core.script ≡ script → AreTotals script core.exts totals
    → states ≡ old ++ states_text script (states_of core) script.nodes → all ≡ states ++ total_text totals.comps totals.deliveries totals.refusals
    → all ≡ old ++ closing_text script core.exts
unfolding closing_text
closing_text-built script core totals old states all of_script counted f h =
    let past : List Ext = core.exts in
    let last : List ℕ = total_text (length past) (entries_of_sort is_delivery (serial script past).comps) (entries_of_sort is_refusal (serial script past).comps) in
    let total : total_text totals.comps totals.deliveries totals.refusals ≡ last
    = ap (λ (n : ℕ). total_text n totals.deliveries totals.refusals) counted.comps
    ∙ ap (λ (n : ℕ). total_text (length past) n totals.refusals) counted.deliveries
    ∙ ap (λ (n : ℕ). total_text (length past) (entries_of_sort is_delivery (serial script past).comps) n) counted.refusals in
    let left : states_of core ≡ (serial script past).states = ap (λ (s : Script). (serial s past).states) of_script in
    h ∙ ap (λ (t : List ℕ). states ++ t) total
    ∙ ap (λ (t : List ℕ). t ++ last) (f ∙ ap (λ (f : ℕ → States). old ++ states_text script f script.nodes) left)
    ∙ append_assoc old (states_text script (serial script past).states script.nodes) last

-- the report is what the computations write, and then its end
pub report-is : (script : Script) (calls : Bool)
    → report_in_full script calls
    ≡ later_text script calls [] (admitted script) ++ (if is_limited script then limit_text most_admitted else closing_text script (admitted script))
unfolding report_to closing_text
report-is script calls =
    let exts : List Ext = admitted script in
    ap (λ (t : List ℕ). t ++ (if is_limited script then limit_text most_admitted else closing_text script exts)) (comps_text-all script calls exts)

-- else the states that stand and the totals
pub report-whole : (script : Script) (calls : Bool) → false ≡ is_limited script
    → report_in_full script calls ≡ later_text script calls [] (admitted script) ++ closing_text script (admitted script)
report-whole script calls e =
    report-is script calls
    ∙ ap (λ (b : Bool). later_text script calls [] (admitted script) ++ (if b then limit_text most_admitted else closing_text script (admitted script))) (sym e)
