-- The parts of a report, as they are written.
use Rattle.std.proofs.Common.{ℕ, Bool, List, [], sym, subst}
use Rattle.std.specs.declared.option.Option.{Option}
use Rattle.samoa_model.specs.declared.script.Script.{Script}
use Rattle.samoa_serial.specs.LimitedReport.{report_in_full}
use Rattle.samoa_serial.specs.Ticks.{admitted}
use Rattle.samoa_ends.specs.Pieces.{AppendsPrefix}
use Rattle.samoa_ledger.specs.Written.{later_text}
use Rattle.samoa_ledger.proofs.Closing.{report-is}
use Rattle.samoa_ticks.proofs.Parts.{part_more}

-- a part of the computations was written
pub report_begun : (script : Script) (calls : Bool) (old new : Option (List ℕ)) → AppendsPrefix old new (later_text script calls [] (admitted script))
    → AppendsPrefix old new (report_in_full script calls)
report_begun script calls old new first =
    let P : List ℕ → Type 0 = AppendsPrefix old new in subst P (sym (report-is script calls)) (part_more old new _ _ first)
