-- Which microprotocol of the group stack called a handler.
use Rattle.std.specs.Prelude.{◌≡◌, ◌==◌, ℕ, true, if◌then◌else◌, List, [], ◌∷◌, ◌++◌, length}
use Rattle.samoa_model.specs.declared.handler.Outcome.{Outcome}
use Rattle.samoa_model.specs.declared.ids.HandlerId.{HandlerId}
use Rattle.samoa_model.specs.declared.record.Ext.{Ext}
use Rattle.samoa_model.specs.declared.script.Script.{Script}
use Rattle.samoa_serial.specs.Lists.{In}
use Rattle.samoa_laws.specs.trace.Trace.{HandlerStep, micro_of}
use Rattle.samoa_laws.specs.trace.Causes.{setting_of}
use Rattle.samoa_laws.specs.trace.Group.{event, event_for}

-- the microprotocols that call an event, by its number
abbrev pub callers : ℕ → List ℕ
callers e =
    if e == 1 then 1 ∷ 2 ∷ 3 ∷ 5 ∷ [] else
    if e == 6 then 1 ∷ [] else
    if e == 7 then 2 ∷ [] else
    if e == 8 then 3 ∷ 4 ∷ [] else
    if e == 9 then 3 ∷ [] else
    if e == 10 then 4 ∷ [] else
    if e == 11 then 4 ∷ 5 ∷ [] else
    if e == 12 then 6 ∷ [] else
    if e == 13 then 6 ∷ [] else
    if e == 14 then 7 ∷ [] else
    0 ∷ []

-- an earlier step at this node called the handler's event with these words: one of a microprotocol that calls it, in a
-- computation in whose table the event is bound to the handler
pub record WasCalled (script : Script) (exts : List Ext) (past : List HandlerStep) (node : ℕ) (h : HandlerId) (arg : List ℕ) : Type 0 where
  pub caller : HandlerStep
  pub there : In caller past
  pub at : caller.node ≡ node
  pub effective : caller.effective ≡ true
  pub frame : List ℕ
  pub outcome : caller.outcome ≡ Outcome.Call (event (event_for h)) arg frame
  pub by : In (micro_of caller) (callers (event_for h))
  pub before : List Ext
  pub ext : Ext
  pub later : List Ext
  pub admitted : exts ≡ before ++ ext ∷ later
  pub comp : caller.comp ≡ length before
  pub bound : In h ((setting_of script before ext).handlers (event (event_for h)))
