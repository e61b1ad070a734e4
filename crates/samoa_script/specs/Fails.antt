-- The one fault of bytes that hold no script.
use Rattle.std.specs.Prelude.{◌≡◌, ℕ, List}
use Rattle.samoa_model.specs.declared.script.Script.{Script}
use Rattle.samoa_grammar.specs.declared.fault.WalkFault.TheVariants as walks
use Rattle.samoa_grammar.specs.Held.{Holds, IsTooLong, IsNoJson, WalkFails}
use Rattle.samoa_form.specs.declared.stop.Stop.{Stop}
use Rattle.samoa_form.specs.declared.stop.Stop.TheVariants as stops
use Rattle.samoa_script.specs.declared.fault.ScriptFault.{ScriptFault}
use Rattle.samoa_script.specs.declared.fault.ScriptFault.TheVariants.{TooLong, NotJson, Missing, WrongForm, Unknown, Twice, Over, Memory}

-- This is the fault of the bytes. Want of memory says nothing of them.
abbrev pub Fails : List ℕ → ScriptFault → Type 0
Fails bytes TooLong = IsTooLong bytes
Fails bytes NotJson = IsNoJson bytes
Fails bytes (Missing key) = WalkFails bytes (walks.Missing key)
Fails bytes (WrongForm key) = WalkFails bytes (walks.WrongForm key)
Fails bytes (Unknown name) = WalkFails bytes (walks.Unknown name)
Fails bytes (Twice name) = WalkFails bytes (walks.Twice name)
Fails bytes (Over name limit) = WalkFails bytes (walks.Over name limit)
Fails bytes Memory = Unit {0}

-- the fault of a walk that stopped
abbrev pub fault_of : Stop → ScriptFault
fault_of (stops.Fault (walks.Missing key)) = Missing key
fault_of (stops.Fault (walks.WrongForm key)) = WrongForm key
fault_of (stops.Fault (walks.Unknown name)) = Unknown name
fault_of (stops.Fault (walks.Twice name)) = Twice name
fault_of (stops.Fault (walks.Over name limit)) = Over name limit
fault_of stops.Memory = Memory

pub record HasScript (bytes : List ℕ) : Type 0 where
  pub script : Script
  pub holds : Holds bytes script

-- the bytes have a fault of their own
pub record HasFault (bytes : List ℕ) : Type 0 where
  pub fault : ScriptFault
  pub fails : Fails bytes fault
  pub own : fault ≡ Memory → ⊥
