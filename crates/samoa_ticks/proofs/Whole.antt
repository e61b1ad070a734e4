-- The journal of a run that came to its end.
use Rattle.std.proofs.Common.{◌≡◌, ap, sym, subst, ◌∙◌, ◌≤◌, length}
use Rattle.samoa_model.specs.declared.script.Script.{Script}
use Rattle.samoa_serial.specs.Ticks.{admitted}
use Rattle.samoa_invariant.specs.Runs.{IsRun, Trace, state}
use Rattle.samoa_journal.specs.Finished.{IsFinished, most_cells}
use Rattle.samoa_journal.proofs.Opens.{parts_open}
use Rattle.samoa_journal.proofs.Roomier.{finished_run}
use Rattle.samoa_ticks.specs.declared.report.Report.{Report}
use Rattle.samoa_ticks.specs.Stands.{Stands, rest_of}

pub whole_run : (script : Script) (core : Trace) (report : Report) → Stands script core report → core.exts ≡ admitted script → IsRun core → (state core).count ≡ length core.exts
    → core.cells ≤ most_cells → IsFinished script core.journal
whole_run script core report stands all run count few =
    let of_script : core.script ≡ script = stands.has_run.of_script in
    subst (λ (s : Script). IsFinished s core.journal) of_script
    (finished_run core run few (all ∙ ap admitted (sym of_script)) (parts_open report.alone core (rest_of report) run stands.packed) count stands.has_run.all)
