-- The line of a generated script.
use Rattle.std.proofs.Common.{◌≡◌, ◌∙◌, ℕ, ap, length}
use Rattle.samoa_model.specs.declared.script.Script.{Script}
use Rattle.samoa_serial.specs.Report.{entries_of_sort, is_delivery}
use Rattle.samoa_serial.specs.SerialRun.{serial}
use Rattle.samoa_serial.specs.Ticks.{admitted}
use Rattle.samoa_ledger.specs.declared.totals.Totals.{Totals}
use Rattle.samoa_ledger.specs.Written.{AreTotals}
use Rattle.samoa_generate.specs.Generated.{generated_script}
use Rattle.samoa_run.specs.Made.{counts_line, line_for, made_line}

counts : (n : ℕ) (script : Script) (totals : Totals) → AreTotals script (admitted script) totals → counts_line n totals.comps totals.deliveries totals.refusals ≡ line_for n script
unfolding line_for
counts n script totals counted =
    let comps = (serial script (admitted script)).comps in
    ap (λ (k : ℕ). counts_line n k totals.deliveries totals.refusals) counted.comps
    ∙ ap (λ (k : ℕ). counts_line n (length (admitted script)) k totals.refusals) counted.deliveries
    ∙ ap (λ (k : ℕ). counts_line n (length (admitted script)) (entries_of_sort is_delivery comps) k) counted.refusals

-- the totals of the generated script make its line
pub counts_made : (n : ℕ) (script : Script) (totals : Totals) → script ≡ generated_script n → AreTotals script (admitted script) totals
    → counts_line n totals.comps totals.deliveries totals.refusals ≡ made_line n
counts_made n script totals is counted = counts n script totals counted ∙ ap (λ (s : Script). line_for n s) is
