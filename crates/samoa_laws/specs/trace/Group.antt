-- The group stack, and what may be admitted to it.
use Rattle.std.specs.Prelude.{◌≡◌, ◌≤◌, ◌⊎◌, ℕ, List, [], ◌∷◌, ◌++◌, length, codes, ◌==◌, if◌then◌else◌}
use Rattle.samoa_model.specs.Range.{IsExtOf}
use Rattle.samoa_model.specs.declared.ids.ChangeId.{ChangeId}
use Rattle.samoa_model.specs.declared.ids.EventId.{EventId}
use Rattle.samoa_model.specs.declared.ids.HandlerId.{HandlerId}
use Rattle.samoa_model.specs.declared.handler.Dest.{Dest}
use Rattle.samoa_model.specs.declared.record.Cause.{Cause}
use Rattle.samoa_model.specs.declared.record.Entry.{Entry}
use Rattle.samoa_model.specs.declared.record.Ext.{Ext}
use Rattle.samoa_model.specs.declared.setup.Kind.{Kind}
use Rattle.samoa_model.specs.declared.setup.Kind.TheVariants.{Link, Fd, Rbcast, Cons, Abcast, Seqcast, Repl, Views}
use Rattle.samoa_model.specs.declared.script.ChangeDef.{ChangeDef}
use Rattle.samoa_model.specs.declared.script.Decl.{Decl}
use Rattle.samoa_model.specs.declared.script.DeclDef.{DeclDef}
use Rattle.samoa_model.specs.declared.script.DoDef.{DoDef}
use Rattle.samoa_model.specs.declared.script.EventDef.{EventDef}
use Rattle.samoa_model.specs.declared.script.MicroDef.{MicroDef}
use Rattle.samoa_model.specs.declared.script.Script.{Script}
use Rattle.samoa_serial.specs.Whole.{Ran}
use Rattle.samoa_serial.specs.SerialRun.{serial}
pub use Rattle.samoa_serial.specs.Rebindings.{Asking, asked_in, asked_at, rebinding_of, rebindings_at}
use Rattle.samoa_serial.specs.Lists.{Each, In}

-- a handler, by the number of its microprotocol and its own
abbrev pub handler : ℕ → ℕ → HandlerId
handler p i = record { micro = record { 0 = p }; index = i }

abbrev pub event : ℕ → EventId
event e = record { 0 = e }

abbrev pub change : ℕ → ChangeId
change c = record { 0 = c }

abbrev pub micro : List ℕ → Kind → List ℕ → List EventId → List ChangeId → MicroDef
micro name kind nums ports changes = record { name = name; kind = kind; nums = nums; ports = ports; changes = changes; handlers = [] }

abbrev pub bound : List ℕ → List HandlerId → EventDef
bound name handlers = record { name = name; decl = 0; handlers = handlers }

-- the microprotocols, 0 to 7
abbrev pub group_micros : List MicroDef
group_micros =
    micro (codes "link") Link [] (event 0 ∷ event 2 ∷ event 3 ∷ event 4 ∷ event 5 ∷ []) []
    ∷ micro (codes "fd") Fd (0 ∷ 3 ∷ []) (event 1 ∷ event 6 ∷ []) []
    ∷ micro (codes "rb") Rbcast (1 ∷ []) (event 1 ∷ event 7 ∷ []) []
    ∷ micro (codes "cons") Cons (2 ∷ []) (event 1 ∷ event 8 ∷ event 9 ∷ []) []
    ∷ micro (codes "ab") Abcast [] (event 8 ∷ event 10 ∷ event 11 ∷ []) []
    ∷ micro (codes "sq") Seqcast (3 ∷ 0 ∷ []) (event 1 ∷ event 11 ∷ []) []
    ∷ micro (codes "repl") Repl [] (event 12 ∷ event 13 ∷ []) (change 0 ∷ change 1 ∷ [])
    ∷ micro (codes "views") Views [] (event 14 ∷ []) []
    ∷ []

-- the one declaration
abbrev pub group_decls : List DeclDef
group_decls = record { name = codes "all"; budget = 64; decl = Decl.Set (0 ∷ 1 ∷ 2 ∷ 3 ∷ 4 ∷ 5 ∷ 6 ∷ 7 ∷ []) } ∷ []

-- the events, 0 to 18, with the handlers bound to them at first
abbrev pub group_events : List EventDef
group_events =
    bound (codes "wire") (handler 0 1 ∷ [])
    ∷ bound (codes "send") (handler 0 0 ∷ [])
    ∷ bound (codes "fd_in") (handler 1 1 ∷ [])
    ∷ bound (codes "rb_in") (handler 2 1 ∷ [])
    ∷ bound (codes "cons_in") (handler 3 1 ∷ [])
    ∷ bound (codes "sq_in") (handler 5 1 ∷ [])
    ∷ bound (codes "suspect") (handler 3 4 ∷ [])
    ∷ bound (codes "rb_up") (handler 3 2 ∷ handler 4 1 ∷ [])
    ∷ bound (codes "rb_cast") (handler 2 0 ∷ [])
    ∷ bound (codes "decided") (handler 4 2 ∷ [])
    ∷ bound (codes "propose") (handler 3 0 ∷ [])
    ∷ bound (codes "ab_up") (handler 6 1 ∷ [])
    ∷ bound (codes "ab_cast") (handler 4 0 ∷ [])
    ∷ bound (codes "view") (handler 7 1 ∷ [])
    ∷ bound (codes "cast") (handler 6 0 ∷ [])
    ∷ bound (codes "beat") (handler 1 0 ∷ [])
    ∷ bound (codes "nudge") (handler 3 3 ∷ [])
    ∷ bound (codes "ask") (handler 7 0 ∷ [])
    ∷ bound (codes "switched") (handler 6 2 ∷ [])
    ∷ []

-- the event at which a handler stands
abbrev pub event_for : HandlerId → ℕ
event_for h =
    if h.micro.0 == 0 then (if h.index == 0 then 1 else 0) else
    if h.micro.0 == 1 then (if h.index == 0 then 15 else 2) else
    if h.micro.0 == 2 then (if h.index == 0 then 8 else 3) else
    if h.micro.0 == 3 then
    (if h.index == 0 then 10 else if h.index == 1 then 4 else if h.index == 2 then 7 else if h.index == 3 then 16 else 6) else
    if h.micro.0 == 4 then (if h.index == 0 then 12 else if h.index == 1 then 7 else 9) else
    if h.micro.0 == 5 then (if h.index == 0 then 12 else 5) else
    if h.micro.0 == 6 then (if h.index == 0 then 14 else if h.index == 1 then 11 else 18) else
    (if h.index == 0 then 17 else 13)

-- the changes: the broadcast goes through the sequencer, and through consensus
abbrev pub group_changes : List ChangeDef
group_changes =
    record { name = codes "to_seq"; event = event 18; table = record { event = event 12; handlers = handler 5 0 ∷ [] } ∷ [] }
    ∷ record { name = codes "to_cons"; event = event 18; table = record { event = event 12; handlers = handler 4 0 ∷ [] } ∷ [] }
    ∷ []

-- the events that come from outside freely: cast, beat, nudge, ask
abbrev pub IsFree : Cause → Type 0
IsFree cause = In cause (Cause.Event (event 14) ∷ Cause.Event (event 15) ∷ Cause.Event (event 16) ∷ Cause.Event (event 17) ∷ [])

-- a script of the group stack: nodes, ticks, losses and crashes are free
pub record IsGroup (script : Script) : Type 0 where
  pub micros : script.micros ≡ group_micros
  pub decls : script.decls ≡ group_decls
  pub events : script.events ≡ group_events
  pub changes : script.changes ≡ group_changes
  pub does : Each (λ (item : DoDef). IsFree item.cause) script.does

-- a message to this node or to all
abbrev pub IsTo : ℕ → Dest → Type 0
IsTo node (Dest.One to) = to.0 ≡ node
IsTo node Dest.All = Unit {0}

-- what a computation sent to this node or to all
pub record IsSent (script : Script) (before : List Ext) (node : ℕ) (sent : EventId) (arg : List ℕ) : Type 0 where
  pub ran : Ran
  pub served : In ran (serial script before).comps
  pub call : ℕ
  pub to : Dest
  pub here : IsTo node to
  pub entry : In (Entry.Sent call to sent arg) ran.world.entries

-- the rebindings at its node, with this one, are the first of those that were asked for there
pub record IsRebinding (script : Script) (before : List Ext) (ext : Ext) : Type 0 where
  pub change : ChangeId
  pub cause : ext.cause ≡ Cause.Change change
  pub rest : List Asking
  pub first : asked_at ext.node.0 before (serial script before).comps ≡ rebindings_at ext.node.0 (before ++ ext ∷ []) ++ rest

-- a message that an earlier computation sent here
pub record IsWire (script : Script) (before : List Ext) (ext : Ext) : Type 0 where
  pub cause : ext.cause ≡ Cause.Event (event 0)
  pub sent : IsSent script before ext.node.0 (event 0) ext.args

-- a list of admissions to the group stack: messages may be lost, repeated and reordered, and a node may stop
pub record IsGroupHistory (script : Script) (exts : List Ext) : Type 0 where
  pub group : IsGroup script
  pub few : length exts ≤ 100000
  pub known : Each (IsExtOf script) exts
  pub allowed : (before : List Ext) (ext : Ext) (later : List Ext) → exts ≡ before ++ ext ∷ later
      → IsFree ext.cause ⊎ (IsWire script before ext ⊎ IsRebinding script before ext)
