-- The numbers of a run's steps have 32 bits.
use Rattle.std.proofs.Common.{arith, refl, ◌≡◌, ℕ, suc, ◌-◌, ◌<◌, ◌≤◌, ◌^◌, List, [], ◌∷◌, length, Bool, true, false, if◌then◌else◌, min}
use Rattle.std.proofs.lemmas.List.Elements.{All-cons, All-nil}
use Rattle.std.specs.List.{All}
use Rattle.samoa_model.specs.Range.{IsInRange}
use Rattle.samoa_model.specs.declared.record.Ext.{Ext}
use Rattle.samoa_model.specs.declared.record.Step.{Step}
use Rattle.samoa_model.specs.declared.script.Script.{Script}
use Rattle.samoa_report.specs.StepFields.{FitsStep}
use Rattle.samoa_serial.specs.Ticks.{admitted}
use Rattle.samoa_invariant.specs.Play.{Play}
use Rattle.samoa_invariant.specs.State as model
use Rattle.samoa_invariant.specs.Runs.{CanMake, IsRunFrom, after_step, clear_at, cleared, ext_at, is_clear, model_step, play_of}
use Rattle.samoa_invariant.proofs.preservation.Slots.{turn_declares}
use Rattle.samoa_invariant.proofs.refinement.Ends.{reached_keeps}
use Rattle.samoa_invariant.proofs.representation.Extended.{reached_most}
use Rattle.samoa_control.specs.Known.{decl_number}
use Rattle.samoa_control.proofs.Declares.{declares_known}
use Rattle.samoa_journal.specs.Finished.{IsFinished, most_cells}

module _ (script : Script) (in_range : IsInRange script) (exts : List Ext) (cells : ℕ) where
  abbrev P : Play
  P = play_of script cells exts

  few : (core : model.Core) → model.Reached P core → core.count ≤ 100000
  few core reached = let most : core.count ≤ min (length exts) 100000 = reached_most P core reached in omega (arith, most)

  numbered : (core : model.Core) (comp : ℕ) → model.Reached P core → 0 < comp → comp - 1 < core.count → comp < 2 ^ 32
  numbered core comp reached first there = omega (arith, first, there, few core reached)

  known : (core : model.Core) (k p : ℕ) → model.Reached P core → model.HasTurn P core k p → p < 2 ^ 32
  known core k p reached turn =
      let within : p < length script.micros = declares_known script in_range (decl_number script (ext_at exts k)) p (turn_declares P core k p (reached_keeps P core reached) turn) in
      omega (arith, within, in_range.few_micros)

  made_fits : (core : model.Core) (step : Step) → model.Reached P core → CanMake P core step → FitsStep step
  made_fits core (Step.Admit comp) reached can =
      let room : core.count < min (length exts) 100000 = can.enabled.room in
      omega (arith, room, can.number)
  made_fits core (Step.Enter comp micro) reached can =
      let turn : model.HasTurn P core (comp - 1) micro = can.enabled.turn in
      (numbered core comp reached can.number turn.admitted, known core (comp - 1) micro reached turn)
  made_fits core (Step.Leave comp) reached can = numbered core comp reached can.number can.enabled.out.admitted
  made_fits core (Step.Abandon comp) reached can = numbered core comp reached can.number can.enabled.out.admitted
  made_fits core (Step.Release comp micro) reached can =
      let turn : model.HasTurn P core (comp - 1) micro = can.enabled.turn in
      (numbered core comp reached can.number turn.admitted, known core (comp - 1) micro reached turn)
  made_fits core (Step.End comp) reached can = numbered core comp reached can.number can.enabled.admitted

  clear_reached : (core : model.Core) (b : Bool) → (b ≡ true → model.AllEnded core) → model.Reached P core → model.Reached P (if b then cleared core else core)
  clear_reached core true all reached = model.Reached.Later core model.Step.Clear reached (record { all = all refl })
  clear_reached core false all reached = reached

  all_fit : (clears : List ℕ) (made : ℕ) (core : model.Core) (steps : List Step) → model.Reached P core → IsRunFrom P clears made core steps → All FitsStep steps
  all_fit clears made core [] reached run = All-nil FitsStep
  all_fit clears made core (step ∷ steps) reached run =
      let here : model.Reached P (clear_at clears made core) = clear_reached core (is_clear clears made) run.0 reached in
      let next : model.Reached P (after_step P (clear_at clears made core) step) = model.Reached.Later (clear_at clears made core) (model_step step) here run.1.enabled in
      All-cons FitsStep step steps (made_fits (clear_at clears made core) step here run.1)
      (all_fit clears (suc made) (after_step P (clear_at clears made core) step) steps next run.2)

-- of a finished journal
pub finished_fit : (script : Script) (steps : List Step) → IsInRange script → IsFinished script steps → All FitsStep steps
finished_fit script steps in_range finished =
    all_fit script in_range (admitted script) most_cells finished.clears 0 (model.empty (play_of script most_cells (admitted script))) steps model.Reached.Opening finished.run.steps
