-- A computation that was admitted since the last clear.
use Rattle.std.specs.Prelude.{◌≡◌, ℕ, ◌<◌, List, length}
use Rattle.samoa_control.specs.declared.running.Interval.{Interval}
use Rattle.samoa_control.specs.declared.running.Running.{Running}
use Rattle.samoa_model.specs.declared.record.Ext.{Ext}
use Rattle.samoa_model.specs.declared.script.Script.{Script}
use Rattle.samoa_calls.specs.Held.{handlers_of}
use Rattle.samoa_invariant.specs.State as model
use Rattle.samoa_invariant.specs.Runs.{ext_at}
use Rattle.samoa_control.specs.Known.{decl_number}
use Rattle.samoa_control.specs.Grids.{Row}

-- the local versions of a slot at which it is the turn of computation k
abbrev pub turn_of : model.Core → ℕ → ℕ → ℕ → Interval
turn_of core k node p = record { from = core.from k node p; to = core.private k node p }

-- it is computation k of a state
pub record IsRunning (script : Script) (exts : List Ext) (core : model.Core) (k : ℕ) (r : Running) : Type 0 where
  pub admitted : k < core.count
  pub node : r.node ≡ (ext_at exts k).node
  pub decl : r.calls.decl ≡ decl_number script (ext_at exts k)
  pub turns : Row (length script.micros) r.turns.items (turn_of core k (ext_at exts k).node.0)
  pub comp : r.calls.comp ≡ core.comp k
  pub waiting : r.calls.waiting_handlers ≡ handlers_of (core.table k) (core.comp k).waiting
  pub ended : r.ended ≡ core.ended k
