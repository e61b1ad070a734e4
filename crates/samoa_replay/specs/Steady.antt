-- A core that is cleared wherever all have ended.
use Rattle.std.specs.Prelude.{◌≡◌, ℕ, List, [], ◌∷◌, take, slice_get, Some, if◌then◌else◌}
use Rattle.samoa_model.specs.declared.record.Step.{Step}
use Rattle.samoa_model.specs.declared.script.Script.{Script}
use Rattle.samoa_serial.specs.Ticks.{admitted}
use Rattle.samoa_invariant.specs.Play.{Play}
use Rattle.samoa_invariant.specs.State as model
use Rattle.samoa_invariant.specs.State.{AllEnded, Core}
use Rattle.samoa_invariant.specs.Runs.{CanMake, after_step, cleared, play_of}
use Rattle.samoa_journal.specs.Ended.{all_ended}
use Rattle.samoa_journal.specs.Finished.{IsFirstOfTick, most_cells}

-- a core that is cleared if all have ended
abbrev pub swept : Core → Core
swept core = if all_ended core then cleared core else core

-- the core after these steps
abbrev pub steady_from : Play → Core → List Step → Core
steady_from P core [] = swept core
steady_from P core (step ∷ later) = steady_from P (after_step P (swept core) step) later

-- each of these steps is enabled where it is made
abbrev pub AreMade : Play → Core → List Step → Type 0
AreMade P core [] = Unit {0}
AreMade P core (step ∷ later) = CanMake P (swept core) step × AreMade P (after_step P (swept core) step) later

-- what the core plays that has the most cells and admits all that a script admits
unfoldable pub whole_play : Script → Play
whole_play script = play_of script most_cells (admitted script)

-- the core of a script after these steps
unfoldable pub steady : Script → List Step → Core
steady script steps = steady_from (whole_play script) (model.empty (whole_play script)) steps

-- the steps are enabled there, and each tick is opened only where all have ended
pub record IsSteady (script : Script) (steps : List Step) : Type 0 where
  pub made : AreMade (whole_play script) (model.empty (whole_play script)) steps
  pub ticks : (n comp : ℕ) → slice_get steps n ≡ Some (Step.Admit comp) → IsFirstOfTick (admitted script) comp → AllEnded (steady script (take n steps))
