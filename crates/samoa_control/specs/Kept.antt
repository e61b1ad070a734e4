-- What the fields of a core hold.
use Rattle.std.specs.Prelude.{◌≡◌, ◌≤◌, ◌<◌, ◌+◌, ◌-◌, ℕ, Bool, true, List, Option, Some, length, map, slice_get}
use Rattle.samoa_model.specs.declared.ids.NodeId.{NodeId}
use Rattle.samoa_model.specs.declared.record.Ext.{Ext}
use Rattle.samoa_model.specs.declared.record.Step.{Step}
use Rattle.samoa_model.specs.declared.script.Script.{Script}
use Rattle.samoa_model.specs.Range.{IsExtOf, IsInRange}
use Rattle.samoa_bind.specs.Bound.{Bindings, epochs_of, table_at}
use Rattle.samoa_calls.specs.Handed.{AreNamed, IsCounted}
use Rattle.samoa_invariant.specs.State as model
use Rattle.samoa_invariant.specs.State.{sum_to, to_end}
use Rattle.samoa_invariant.specs.Runs.{IsRun, Trace, ext_at, play, state}
use Rattle.samoa_control.specs.Since.{cleared_comps}
use Rattle.samoa_control.specs.Masked.{AreMasked}
use Rattle.samoa_control.specs.Places.{away_in, slot_in}
use Rattle.samoa_control.specs.Room.{to_come}
use Rattle.samoa_control.specs.Grids.{Grid}
use Rattle.samoa_control.specs.Slots.{Slotted}
use Rattle.samoa_control.specs.Running.{IsRunning}
use Rattle.samoa_control.specs.declared.running.Running.{Running}

-- the fields of a core. Those that run were admitted since the last clear
pub record Fields : Type 0 where
  pub script : Script
  pub cells : ℕ
  pub held : ℕ
  pub tables : Bindings
  pub masks : List (Option (List ℕ))
  pub slots : Slotted
  pub global : List ℕ
  pub local : List ℕ
  pub exts : List Ext
  pub clears : List ℕ
  pub clears_room : ℕ
  pub journal : List Step
  pub promised : ℕ
  pub first : ℕ
  pub running : List Running
  pub unended : ℕ
  pub away : ℕ
  pub stopped : Bool

abbrev pub trace_of : Fields → Trace
trace_of fs = record { script = fs.script; cells = fs.cells; exts = fs.exts; clears = fs.clears; journal = fs.journal }

-- each node has tables for the script's events, and the changes are those of the script
pub record AreTables (script : Script) (tables : Bindings) : Type 0 where
  pub size : length tables.epochs ≡ script.nodes
  pub changes : tables.changes ≡ map (λ c. c.table) script.changes
  pub some : (node : NodeId) → node.0 < script.nodes → 0 < length (epochs_of tables node)
  pub counted : (node : NodeId) (epoch : ℕ) → epoch < length (epochs_of tables node) → IsCounted (table_at tables node epoch)
  pub events : (node : NodeId) (epoch : ℕ) → epoch < length (epochs_of tables node) → length (table_at tables node epoch) ≡ length script.events

-- the table of computation k is that of its epoch, and names the events of its waiting calls
pub record HasTable (tables : Bindings) (core : model.Core) (k : ℕ) (r : Running) : Type 0 where
  pub epoch : r.epoch < length (epochs_of tables r.node)
  pub table : table_at tables r.node r.epoch ≡ core.table k
  pub named : AreNamed (core.table k) (core.comp k).waiting

-- it is computation k
pub record Runs (script : Script) (tables : Bindings) (exts : List Ext) (core : model.Core) (k : ℕ) (r : Running) : Type 0 where
  pub is : IsRunning script exts core k r
  pub table : HasTable tables core k r

-- how many of the computations haven't ended
abbrev pub unended : model.Core → ℕ
unended core = sum_to (λ k. to_end (core.ended k)) core.count

-- what the fields hold of a state of the model
pub record Holds (fs : Fields) (core : model.Core) : Type 0 where
  pub admitted : core.count ≡ length fs.exts
  pub held : fs.held ≡ core.cells
  pub within : core.cells ≤ fs.cells
  pub present : (node : NodeId) (epoch : ℕ) → node.0 < fs.script.nodes → epoch + 1 ≡ length (epochs_of fs.tables node) → table_at fs.tables node epoch ≡ core.present node.0
  pub global : Grid fs.script.nodes (length fs.script.micros) fs.global core.global
  pub local : Grid fs.script.nodes (length fs.script.micros) fs.local core.local
  pub slots : Grid fs.script.nodes (length fs.script.micros) fs.slots.boxes (slot_in fs.script core)
  pub size : length fs.running ≡ length fs.exts - fs.first
  pub running : (i : ℕ) (r : Running) → slice_get fs.running i ≡ Some r → Runs fs.script fs.tables fs.exts core (fs.first + i) r
  pub past : (k : ℕ) → k < fs.first → core.ended k ≡ true
  pub unended : fs.unended ≡ unended core
  pub away : fs.away ≡ away_in fs.script core
  pub stopped : fs.stopped ≡ core.stopped

pub record Kept (fs : Fields) : Type 0 where
  pub in_range : IsInRange fs.script
  pub tables : AreTables fs.script fs.tables
  pub masks : AreMasked fs.script fs.masks
  pub epochs : (node : NodeId) → length (epochs_of fs.tables node) ≤ length fs.exts + 1
  pub micros : fs.slots.micros ≡ length fs.script.micros
  pub known : (k : ℕ) → k < length fs.exts → IsExtOf fs.script (ext_at fs.exts k)
  pub is_run : IsRun (trace_of fs)
  pub first : fs.first ≡ cleared_comps (trace_of fs)
  pub first_most : fs.first ≤ length fs.exts
  pub clears_room : 0 < fs.held → length fs.clears < fs.clears_room
  pub promised : to_come (play (trace_of fs)) (state (trace_of fs)) ≤ fs.promised
  pub holds : Holds fs (state (trace_of fs))
