-- What an admission does.
use Rattle.std.specs.Prelude.{ℕ, zero, suc, ◌+◌, ◌*◌, List, [], ◌∷◌, ◌++◌, length, get_or, set}
use Rattle.samoa_model.specs.Allowed.{weight}
use Rattle.samoa_model.specs.Scripts.{decl_of, root_of}
use Rattle.samoa_model.specs.declared.ids.NodeId.{NodeId}
use Rattle.samoa_model.specs.declared.record.Cause.{Cause}
use Rattle.samoa_model.specs.declared.record.Cause.TheVariants.{Event, Change}
use Rattle.samoa_bind.specs.Bound.{Bindings, last_table, with_change}
use Rattle.samoa_model.specs.declared.record.Ext.{Ext}
use Rattle.samoa_model.specs.declared.record.Step.{Step}
use Rattle.samoa_model.specs.declared.script.Decl.{Decl}
use Rattle.samoa_model.specs.declared.script.DeclDef.{DeclDef}
use Rattle.samoa_model.specs.declared.script.Script.{Script}
use Rattle.samoa_calls.specs.Held.{Held}
use Rattle.samoa_serial.specs.Calls.{start}
use Rattle.samoa_serial.specs.World.{attempts_of}
use Rattle.samoa_invariant.specs.State.{named}
use Rattle.samoa_invariant.specs.Runs.{Trace, with_ext, with_step}
use Rattle.samoa_control.specs.Known.{decl_number}
use Rattle.samoa_control.specs.declared.running.Interval.{Interval}

-- one more external event, admitted in the same step
abbrev pub admitted : Trace → Ext → Trace
admitted t ext = with_step (with_ext t ext) (Step.Admit (length t.exts + 1))

-- how many may be admitted, and how many versions of a slot these take at most
abbrev pub most_admitted : ℕ
most_admitted = 100000

abbrev pub most_versions : ℕ
most_versions = 25600000

-- the tables after an admission at a node: a rebinding makes its change
abbrev pub tables_after : Bindings → NodeId → Cause → Bindings
tables_after tables node (Event event) = tables
tables_after tables node (Change change) = record tables { epochs = with_change tables node change; room = 0 }

-- a computation that has just begun, by the present table of its node
abbrev pub started : Script → Bindings → Ext → Held
started script tables ext =
    let decl = decl_of script ext in
    record {
      decl = decl_number script ext;
      comp = start (attempts_of decl.decl (last_table tables ext.node)) decl.budget (root_of script ext.cause) ext.args;
      waiting_handlers = [];
    }

-- of each handler step that a unit may come to, its Enter and its Leave
abbrev pub steps_a_unit : ℕ
steps_a_unit = 10

-- the Enters and Leaves of the root event's handler steps, the End, and an Enter that is abandoned
abbrev pub beside_units : ℕ
beside_units = 12

-- how many steps are kept room for: these and the releases
abbrev pub steps_of : DeclDef → ℕ
steps_of decl = steps_a_unit * decl.budget + length (named decl.decl) + beside_units

-- the version of a microprotocol after one more admission
abbrev pub version_after : Decl → ℕ → ℕ → List ℕ → ℕ → ℕ
version_after decl columns node versions p = get_or versions (node * columns + p) 0 + weight decl p

-- the versions of a node, of its first n microprotocols, after one more admission
abbrev pub raised : Decl → ℕ → ℕ → List ℕ → ℕ → List ℕ
raised decl columns node versions zero = versions
raised decl columns node versions (suc n) =
    let before = raised decl columns node versions n in
    set before (node * columns + n) (version_after decl columns node before n)

-- the turns at the first n microprotocols: from the version before to that after
abbrev pub turns_taken : Decl → ℕ → ℕ → List ℕ → ℕ → List Interval
turns_taken decl columns node versions zero = []
turns_taken decl columns node versions (suc n) =
    let before = raised decl columns node versions n in
    turns_taken decl columns node versions n ++ record { from = get_or before (node * columns + n) 0; to = version_after decl columns node before n } ∷ []
