-- What is asked of a declaration for a release.
use Rattle.std.proofs.Common.{◌≡◌, ap, refl, List, [], ◌∷◌, ◌++◌, map}
use Rattle.samoa_model.specs.Paths.{handlers_by}
use Rattle.samoa_model.specs.Range.{IsDeclOf}
use Rattle.samoa_model.specs.Scripts.{Table, resolve}
use Rattle.samoa_model.specs.declared.ids.HandlerId.{HandlerId}
use Rattle.samoa_model.specs.declared.script.Decl.{Decl}
use Rattle.samoa_model.specs.declared.script.Script.{Script}
use Rattle.samoa_calls.specs.Held.{handlers_of}
use Rattle.samoa_serial.specs.declared.call.Waiting.{Waiting}
use Rattle.samoa_control.specs.Forms.{IsTestable}

-- a declaration of a script can be tested
pub testable : (script : Script) (d : Decl) → IsDeclOf script d → IsTestable d
testable script (Decl.Set micros) has = tt
testable script (Decl.Bound bounds) has = tt
testable script (Decl.Route vertices roots edges) has = record { few = has.few; ends = has.ends }

-- the handlers of the waiting calls are those of their events
pub handlers-by : (table : Table) (ws : List Waiting) → handlers_of table ws ≡ handlers_by table (map (λ w. w.event) ws)
handlers-by table [] = refl
handlers-by table (w ∷ ws) = ap (λ (hs : List HandlerId). resolve table w.event ++ hs) (handlers-by table ws)
