-- A computation takes the outcome of its handler step.
use Rattle.std.specs.Prelude.{◌≡◌, ◌+◌, ◌*◌, ◌<◌, List, ◌∷◌, length, IfSome}
use Rattle.samoa_model.specs.declared.handler.Outcome.{Outcome}
use Rattle.samoa_model.specs.declared.script.Script.{Script}
use Rattle.samoa_model.specs.Scripts.{decl_at}
use Rattle.samoa_bind.specs.Bound.{Bindings, epochs_of, table_at}
use Rattle.samoa_calls.specs.Held.{handlers_of}
use Rattle.samoa_calls.specs.Handed.{AreNamed, IsCounted, IsNamed, ended_at}
use Rattle.samoa_serial.specs.declared.call.Active.{Active}
use Rattle.samoa_serial.specs.World.{attempts_of}
use Rattle.samoa_serial.specs.Calls.{take_outcome}
use Rattle.samoa_versions.specs.Counters.{Counters, gv_at, lv_at}
use Rattle.samoa_control.specs.declared.running.Running.{Running}

-- it has an active call and takes an outcome by the table of its epoch, and a call that this completes has a version that was
-- given and isn't done with
pub record TakesOutcome (script : Script) (tables : Bindings) (versions : Counters) (r : Running) (o : Outcome) : Type 0 where
  pub decl : r.calls.decl < length script.decls
  pub first : Active
  pub rest : List Active
  pub active : r.calls.comp.active ≡ first ∷ rest
  pub epoch : r.epoch < length (epochs_of tables r.node)
  pub counted : IsCounted (table_at tables r.node r.epoch)
  pub listed : r.calls.waiting_handlers ≡ handlers_of (table_at tables r.node r.epoch) r.calls.comp.waiting
  pub waiting_named : AreNamed (table_at tables r.node r.epoch) r.calls.comp.waiting
  pub named : IsNamed (table_at tables r.node r.epoch) o
  pub there : IfSome (ended_at first.call o) (λ micro. r.node.0 * length script.micros + micro.0 < length versions.gv)
  pub below : IfSome (ended_at first.call o) (λ micro. lv_at versions (r.node.0 * length script.micros + micro.0) < gv_at versions (r.node.0 * length script.micros + micro.0))

abbrev pub taken : Script → Bindings → Running → Outcome → Running
taken script tables r o =
    let table = table_at tables r.node r.epoch in
    let comp = take_outcome (attempts_of (decl_at script r.calls.decl).decl table) r.calls.comp o in
    record r { calls = record { decl = r.calls.decl; comp = comp; waiting_handlers = handlers_of table comp.waiting } }
