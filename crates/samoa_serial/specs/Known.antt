-- Outcomes and entries that name what is of the script, and those by which nothing is sent or asked for.
use Rattle.std.specs.Prelude.{◌≡◌, ◌<◌, List, [], ⊤}
use Rattle.samoa_model.specs.declared.handler.Dest.{Dest}
use Rattle.samoa_model.specs.declared.handler.Outcome.{Outcome}
use Rattle.samoa_model.specs.declared.record.Entry.{Entry}
use Rattle.samoa_model.specs.declared.record.Ext.{Ext}
use Rattle.samoa_model.specs.declared.setup.Instr.{Instr}
use Rattle.samoa_model.specs.declared.setup.Kind.{Kind}
use Rattle.samoa_model.specs.declared.script.CodeDef.{CodeDef}
use Rattle.samoa_model.specs.declared.script.MicroDef.{MicroDef}
use Rattle.samoa_model.specs.declared.script.Script.{Script}
use Rattle.samoa_model.specs.Range.{IsEventOf, IsChangeOf}
use Rattle.samoa_serial.specs.Lists.{Each}
use Rattle.samoa_serial.specs.SerialRun.{serial}
use Rattle.samoa_serial.specs.Whole.{Ran}

abbrev pub IsDestOf : Script → Dest → Type 0
IsDestOf script (Dest.One node) = node.0 < script.nodes
IsDestOf script Dest.All = ⊤

-- what is called or sent is an event of the script, a message goes to a node of it or to all, and what is asked for is a change of it
abbrev pub IsOutcomeOf : Script → Outcome → Type 0
IsOutcomeOf script (Outcome.Call event arg frame) = IsEventOf script event
IsOutcomeOf script (Outcome.Later event arg frame) = IsEventOf script event
IsOutcomeOf script (Outcome.Send to event arg frame) = IsDestOf script to × IsEventOf script event
IsOutcomeOf script (Outcome.Deliver arg frame) = ⊤
IsOutcomeOf script (Outcome.Change change arg frame) = IsChangeOf script change
IsOutcomeOf script (Outcome.Done reply) = ⊤

-- the same of an entry
abbrev pub IsKnown : Script → Entry → Type 0
IsKnown script (Entry.Sent call to event arg) = IsDestOf script to × IsEventOf script event
IsKnown script (Entry.Asked call change arg) = IsChangeOf script change
IsKnown script _ = ⊤

-- an entry by which nothing is sent or asked for
abbrev pub IsQuiet : Entry → Type 0
IsQuiet (Entry.Sent call to event arg) = ⊥
IsQuiet (Entry.Asked call change arg) = ⊥
IsQuiet _ = ⊤

-- something holds of each entry of a computation
abbrev pub EachEntry : (Entry → Type 0) → Ran → Type 0
EachEntry P ran = Each P ran.world.entries

-- no node crashes, and no computation sends or asks
pub record IsStill (script : Script) : Type 0 where
  pub up : script.crashes ≡ []
  pub quiet : (exts : List Ext) → Each (EachEntry IsQuiet) (serial script exts).comps

-- an instruction by which nothing is sent or asked for
abbrev pub IsSilent : Instr → Type 0
IsSilent (Instr.Send to port count) = ⊥
IsSilent (Instr.Change change count) = ⊥
IsSilent _ = ⊤

-- only the link sends, only the replacement asks for changes, and a scripted kind does what its code says
abbrev pub IsSilentKind : Kind → Type 0
IsSilentKind Kind.Prog = ⊤
IsSilentKind Kind.Link = ⊥
IsSilentKind Kind.Fd = ⊤
IsSilentKind Kind.Rbcast = ⊤
IsSilentKind Kind.Cons = ⊤
IsSilentKind Kind.Abcast = ⊤
IsSilentKind Kind.Seqcast = ⊤
IsSilentKind Kind.Repl = ⊥
IsSilentKind Kind.Views = ⊤

abbrev pub IsSilentMicro : MicroDef → Type 0
IsSilentMicro micro = IsSilentKind micro.kind × Each (λ (code : CodeDef). Each IsSilent code.code) micro.handlers

abbrev pub HasSilentCode : Script → Type 0
HasSilentCode script = Each IsSilentMicro script.micros
