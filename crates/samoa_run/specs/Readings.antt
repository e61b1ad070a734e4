-- What reading a list of bytes gives: the script that they hold, or their one fault.
use Rattle.std.specs.Prelude.{◌≢◌, ℕ, List, Result, Ok, Err}
use Rattle.samoa_model.specs.declared.script.Script.{Script}
use Rattle.samoa_grammar.specs.Held.{Holds}
use Rattle.samoa_script.specs.declared.fault.ScriptFault.{ScriptFault}
use Rattle.samoa_script.specs.declared.fault.ScriptFault.TheVariants.{Memory}
use Rattle.samoa_script.specs.Fails.{Fails}

-- this is the bytes' fault; want of memory is none of theirs
abbrev pub IsFaultOf : List ℕ → ScriptFault → Type 0
IsFaultOf bytes fault = Fails bytes fault × (fault ≢ Memory)

-- the bytes hold this script, or this is their fault
abbrev pub IsReading : List ℕ → Result Script ScriptFault → Type 0
IsReading bytes (Ok script) = Holds bytes script
IsReading bytes (Err fault) = IsFaultOf bytes fault
