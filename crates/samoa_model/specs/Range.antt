-- Scripts whose numbers name what is there, and whose lists keep to their limits.
use Rattle.std.specs.Prelude.{◌≡◌, ◌<◌, ◌≤◌, ℕ, List, [], length, map}
use Rattle.std.specs.List.{All, AllPairs}
use Rattle.samoa_model.specs.declared.ids.EventId.{EventId}
use Rattle.samoa_model.specs.declared.ids.ChangeId.{ChangeId}
use Rattle.samoa_model.specs.declared.ids.HandlerId.{HandlerId}
use Rattle.samoa_model.specs.declared.record.Cause.{Cause}
use Rattle.samoa_model.specs.declared.record.Cause.TheVariants.{Event, Change}
use Rattle.samoa_model.specs.declared.record.Ext.{Ext}
use Rattle.samoa_model.specs.declared.setup.Kind.{Kind}
use Rattle.samoa_model.specs.declared.setup.Kind.TheVariants.{Prog, Link, Fd, Rbcast, Cons, Abcast, Seqcast, Repl, Views}
use Rattle.samoa_model.specs.declared.setup.Place.{Place}
use Rattle.samoa_model.specs.declared.setup.Place.TheVariants.{Reg, Local}
use Rattle.samoa_model.specs.declared.setup.Instr.{Instr}
use Rattle.samoa_model.specs.declared.setup.Instr.TheVariants as instr
use Rattle.samoa_model.specs.declared.script.CodeDef.{CodeDef}
use Rattle.samoa_model.specs.declared.script.Decl.{Decl}
use Rattle.samoa_model.specs.declared.script.MicroDef.{MicroDef}
use Rattle.samoa_model.specs.declared.script.DeclDef.{DeclDef}
use Rattle.samoa_model.specs.declared.script.EventDef.{EventDef}
use Rattle.samoa_model.specs.declared.script.TableDef.{TableDef}
use Rattle.samoa_model.specs.declared.script.ChangeDef.{ChangeDef}
use Rattle.samoa_model.specs.declared.script.DoDef.{DoDef}
use Rattle.samoa_model.specs.declared.script.LossDef.{LossDef}
use Rattle.samoa_model.specs.declared.script.CrashDef.{CrashDef}
use Rattle.samoa_model.specs.declared.script.Script.{Script}
use Rattle.samoa_model.specs.Handlers.{IsHandlerOf}

-- a list of handlers that may be bound to an event: at most four, each at a microprotocol of the script that has it
pub record IsBindable (script : Script) (handlers : List HandlerId) : Type 0 where
  pub few : length handlers ≤ 4
  pub known : All (λ (h : HandlerId). h.micro.0 < length script.micros) handlers
  pub there : All (IsHandlerOf script) handlers

abbrev pub IsEventOf : Script → EventId → Type 0
IsEventOf script event = event.0 < length script.events

abbrev pub IsChangeOf : Script → ChangeId → Type 0
IsChangeOf script change = change.0 < length script.changes

abbrev pub IsCauseOf : Script → Cause → Type 0
IsCauseOf script (Event event) = IsEventOf script event
IsCauseOf script (Change change) = IsChangeOf script change

-- ---- scripted handlers

-- a register or a local: there are four of each
abbrev pub IsPlace : Place → Type 0
IsPlace (Reg n) = n < 4
IsPlace (Local n) = n < 4

-- the numbers of an instruction that don't depend on its microprotocol: places, up to 4 words sent, 1 to 31 instructions skipped
abbrev pub IsInstr : Instr → Type 0
IsInstr (instr.Set d n) = IsPlace d
IsInstr (instr.Copy d s) = IsPlace d × IsPlace s
IsInstr (instr.Add d s) = IsPlace d × IsPlace s
IsInstr (instr.Sub d s) = IsPlace d × IsPlace s
IsInstr (instr.Less s t j) = IsPlace s × IsPlace t × (1 ≤ j) × (j ≤ 31)
IsInstr (instr.Call port k) = k ≤ 4
IsInstr (instr.Later port k) = k ≤ 4
IsInstr (instr.Send s port k) = IsPlace s × (k ≤ 4)
IsInstr (instr.Deliver k) = k ≤ 4
IsInstr (instr.Change c k) = k ≤ 4
IsInstr (instr.Done k) = k ≤ 4

pub record IsCode (code : CodeDef) : Type 0 where
  pub few : length code.code ≤ 32
  pub instrs : All IsInstr code.code

-- an instruction names a port or a change that its microprotocol has
abbrev pub HasPosition : MicroDef → Instr → Type 0
HasPosition micro (instr.Call port k) = port < length micro.ports
HasPosition micro (instr.Later port k) = port < length micro.ports
HasPosition micro (instr.Send s port k) = port < length micro.ports
HasPosition micro (instr.Change c k) = c < length micro.changes
HasPosition micro _ = Unit {0}

abbrev pub HasPositions : Script → Type 0
HasPositions script = All (λ (micro : MicroDef). All (λ (code : CodeDef). All (HasPosition micro) code.code) micro.handlers) script.micros

-- ---- microprotocols

-- how many ports a kind needs
abbrev pub ports_needed : Kind → ℕ
ports_needed Prog = 0
ports_needed Link = 1
ports_needed Fd = 2
ports_needed Rbcast = 2
ports_needed Cons = 3
ports_needed Abcast = 3
ports_needed Seqcast = 2
ports_needed Repl = 2
ports_needed Views = 1

-- handlers of the script belong to the scripted kind alone, which has at least one
abbrev pub HasHandlers : Kind → List CodeDef → Type 0
HasHandlers Prog handlers = 1 ≤ length handlers
HasHandlers _ handlers = handlers ≡ []

-- a microprotocol calls and sends events of the script, and asks for changes of the script
pub record IsMicroInRange (script : Script) (micro : MicroDef) : Type 0 where
  pub few_nums : length micro.nums ≤ 12
  pub enough_ports : ports_needed micro.kind ≤ length micro.ports
  pub few_ports : length micro.ports ≤ 16
  pub ports : All (IsEventOf script) micro.ports
  pub few_changes : length micro.changes ≤ 16
  pub changes : All (IsChangeOf script) micro.changes
  pub handlers : length micro.handlers ≤ 16
  pub codes : All IsCode micro.handlers

-- ---- events, changes, and what happens to the stack

pub record IsEventInRange (script : Script) (event : EventDef) : Type 0 where
  pub decl : event.decl < length script.decls
  pub handlers : IsBindable script event.handlers

pub record IsChangeInRange (script : Script) (change : ChangeDef) : Type 0 where
  pub event : IsEventOf script change.event
  pub some_row : 1 ≤ length change.table
  pub few_rows : length change.table ≤ 16
  pub events : All (λ (t : TableDef). IsEventOf script t.event) change.table
  pub handlers : All (λ (t : TableDef). IsBindable script t.handlers) change.table

pub record IsDoInRange (script : Script) (item : DoDef) : Type 0 where
  pub first : 1 ≤ item.tick
  pub last : item.tick ≤ script.ticks
  pub node : item.node.0 < script.nodes
  pub cause : IsCauseOf script item.cause
  pub args : length item.args ≤ 12

-- losses and crashes are of nodes of the script
pub record IsLossInRange (script : Script) (loss : LossDef) : Type 0 where
  pub origin : loss.from.0 < script.nodes
  pub to : loss.to.0 < script.nodes

abbrev pub IsCrashInRange : Script → CrashDef → Type 0
IsCrashInRange script crash = crash.node.0 < script.nodes

-- ---- declarations

abbrev pub HasNoneTwice : List ℕ → Type 0
HasNoneTwice ps = AllPairs (λ p q. p ≡ q → ⊥) ps

-- a set names 1 to 24 microprotocols of the script, none twice
pub record IsSetOf (script : Script) (micros : List ℕ) : Type 0 where
  pub some : 1 ≤ length micros
  pub few : length micros ≤ 24
  pub known : All (λ p. p < length script.micros) micros
  pub apart : HasNoneTwice micros

-- a route's vertices are at most 32 handlers of the script, and its at most 32 roots and 256 edges are among them
pub record IsRouteOf (script : Script) (vertices : List HandlerId) (roots : List ℕ) (edges : List (ℕ × ℕ)) : Type 0 where
  pub few : length vertices ≤ 32
  pub known : All (λ (h : HandlerId). h.micro.0 < length script.micros) vertices
  pub there : All (IsHandlerOf script) vertices
  pub few_roots : length roots ≤ 32
  pub few_edges : length edges ≤ 256
  pub first : All (λ r. r < length vertices) roots
  pub ends : All (λ e. (e.0 < length vertices) × (e.1 < length vertices)) edges

-- what a declaration allows is of the script, and a bound is from 1 to 256
abbrev pub IsDeclOf : Script → Decl → Type 0
IsDeclOf script (Decl.Set micros) = IsSetOf script micros
IsDeclOf script (Decl.Bound bounds) = IsSetOf script (map (λ (b : ℕ × ℕ). b.0) bounds) × All (λ b. (1 ≤ b.1) × (b.1 ≤ 256)) bounds
IsDeclOf script (Decl.Route vertices roots edges) = IsRouteOf script vertices roots edges

abbrev pub HasDecls : Script → Type 0
HasDecls script = All (λ (d : DeclDef). IsDeclOf script d.decl) script.decls

abbrev pub HasBudget : DeclDef → Type 0
HasBudget decl = (1 ≤ decl.budget) × (decl.budget ≤ 256)

-- ---- the whole

-- each number of the script names something of it, and each list keeps to its limit
pub record IsInRange (script : Script) : Type 0 where
  pub some_node : 1 ≤ script.nodes
  pub few_nodes : script.nodes ≤ 8
  pub some_tick : 1 ≤ script.ticks
  pub few_ticks : script.ticks ≤ 10000
  pub some_micro : 1 ≤ length script.micros
  pub few_micros : length script.micros ≤ 24
  pub micros : All (IsMicroInRange script) script.micros
  pub positions : HasPositions script
  pub some_decl : 1 ≤ length script.decls
  pub few_decls : length script.decls ≤ 64
  pub decls : HasDecls script
  pub budgets : All HasBudget script.decls
  pub some_event : 1 ≤ length script.events
  pub few_events : length script.events ≤ 64
  pub events : All (IsEventInRange script) script.events
  pub few_changes : length script.changes ≤ 16
  pub changes : All (IsChangeInRange script) script.changes
  pub few_does : length script.does ≤ 8192
  pub does : All (IsDoInRange script) script.does
  pub few_losses : length script.losses ≤ 256
  pub losses : All (IsLossInRange script) script.losses
  pub few_crashes : length script.crashes ≤ 8
  pub crashes : All (IsCrashInRange script) script.crashes

-- an admission at a node of the script, of an event or a change of the script
pub record IsExtOf (script : Script) (ext : Ext) : Type 0 where
  pub node : ext.node.0 < script.nodes
  pub cause : IsCauseOf script ext.cause

-- a declaration that is a set
abbrev pub IsSet : Decl → Type 0
IsSet (Decl.Set micros) = Unit {0}
IsSet (Decl.Bound bounds) = ⊥
IsSet (Decl.Route vertices roots edges) = ⊥
