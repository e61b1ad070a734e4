-- What is written of computations that have ended.
use Rattle.std.specs.Prelude.{◌≡◌, ℕ, ◌+◌, Bool, List, [], ◌∷◌, ◌++◌, length, count_by}
use Rattle.samoa_model.specs.declared.record.Entry.{Entry}
use Rattle.samoa_model.specs.declared.record.Ext.{Ext}
use Rattle.samoa_model.specs.declared.script.Script.{Script}
use Rattle.samoa_serial.specs.Whole.{Ran}
use Rattle.samoa_serial.specs.World.{States}
use Rattle.samoa_serial.specs.SerialRun.{ran_of, serial}
use Rattle.samoa_serial.specs.Lines.{total_text}
use Rattle.samoa_serial.specs.Report.{comp_text, states_text, is_delivery, is_refusal, entries_of_sort}
use Rattle.samoa_invariant.specs.Runs.{Trace}
use Rattle.samoa_ledger.specs.declared.totals.Totals.{Totals}

-- the states that the serial run of what was admitted leaves
abbrev pub states_of : Trace → ℕ → States
states_of core = (serial core.script core.exts).states

-- the computation that is admitted after these
abbrev pub next_ran : Script → List Ext → Ext → Ran
next_ran script past ext = ran_of script past ((serial script past).states ext.node.0) ext

-- its part of the report
abbrev pub next_text : Script → Bool → List Ext → Ext → List ℕ
next_text script calls past ext = comp_text script calls (length past + 1) ext (next_ran script past ext)

-- the part of computations that are admitted after these, one after another
unfoldable pub later_text : Script → Bool → List Ext → List Ext → List ℕ
later_text script calls past [] = []
later_text script calls past (ext ∷ exts) = next_text script calls past ext ++ later_text script calls (past ++ ext ∷ []) exts

-- the entries were counted
pub record Counts (entries : List Entry) (before after : Totals) : Type 0 where
  pub comps : after.comps ≡ before.comps
  pub deliveries : after.deliveries ≡ before.deliveries + count_by is_delivery entries
  pub refusals : after.refusals ≡ before.refusals + count_by is_refusal entries

-- these are the totals of these computations
pub record AreTotals (script : Script) (exts : List Ext) (totals : Totals) : Type 0 where
  pub comps : totals.comps ≡ length exts
  pub deliveries : totals.deliveries ≡ entries_of_sort is_delivery (serial script exts).comps
  pub refusals : totals.refusals ≡ entries_of_sort is_refusal (serial script exts).comps

-- the last part of the report, after these computations: the states that stand, and the totals
unfoldable pub closing_text : Script → List Ext → List ℕ
closing_text script past =
    states_text script (serial script past).states script.nodes
    ++ total_text (length past) (entries_of_sort is_delivery (serial script past).comps) (entries_of_sort is_refusal (serial script past).comps)
