-- The journal of a run is accepted.
use Rattle.std.proofs.Common.{◌≢◌, ◌≤◌, refl, sym, subst, ℕ, All, List, ◌∷◌, ◌++◌, false, length}
use Rattle.samoa_model.specs.declared.record.Step.{Step}
use Rattle.samoa_model.specs.declared.script.Script.{Script}
use Rattle.samoa_grammar.specs.Held.{Holds}
use Rattle.samoa_script.proofs.Held.{held_valid}
use Rattle.samoa_journal.specs.Finished.{IsComplete}
use Rattle.samoa_report.specs.Steps.{steps_text}
use Rattle.samoa_serial.specs.LimitedReport.{report_in_full}
use Rattle.samoa_replay.proofs.Numbers.{finished_fit}
use Rattle.samoa_run.specs.Replays.{IsDueFor, IsDueForJournal, complete, held, in_lines}
use Rattle.samoa_run.specs.declared.reading.TheConstants.{REPLAY_LIMIT}
use Rattle.samoa_run.proofs.Splitting.{AreParts, of_line}

pub accepted : (line : List ℕ) (script : Script) (steps : List Step) → All (λ (c : ℕ). c ≢ 10) line → Holds line script → IsComplete script steps
    → length (line ++ 10 ∷ steps_text steps) ≤ REPLAY_LIMIT → IsDueFor (line ++ 10 ∷ steps_text steps) 0 (report_in_full script false)
accepted line script steps lacks holds whole within =
    let parts : AreParts (line ++ 10 ∷ steps_text steps) line (steps_text steps) = of_line line (steps_text steps) lacks in
    let fit = finished_fit script steps (held_valid line script holds).in_range whole.finished in
    let due : IsDueForJournal script (steps_text steps) 0 (report_in_full script false) = in_lines steps (record { fit = fit; is = refl }) (complete whole refl refl) in
    held script within (subst (λ (t : List ℕ). Holds t script) (sym parts.line) holds)
    (subst (λ (t : List ℕ). IsDueForJournal script t 0 (report_in_full script false)) (sym parts.rest) due)
