-- What is left of the tick at hand.
use Rattle.std.specs.Prelude.{◌≡◌, ℕ, List, ◌++◌}
use Rattle.std.specs.List.{All}
use Rattle.samoa_model.specs.declared.record.Ext.{Ext}
use Rattle.samoa_model.specs.declared.script.Script.{Script}
use Rattle.samoa_serial.specs.Ticks.{admitted_by, most_admitted}

-- the ticks so far admit these computations and then the rest, which is of the last of them
pub record IsLeft (script : Script) (past : List Ext) (tick : ℕ) (rest : List Ext) : Type 0 where
  pub adds : admitted_by most_admitted script tick ≡ past ++ rest
  pub of_tick : All (λ (ext : Ext). ext.tick ≡ tick) rest
