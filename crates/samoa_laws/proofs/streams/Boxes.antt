-- The replacement layer's steps in a trace: each finds the state that the one before it left, and is of the table.
use Rattle.std.proofs.Common.{◌≡◌, ℕ, refl, List}
use Rattle.samoa_model.specs.declared.record.Ext.{Ext}
use Rattle.samoa_model.specs.declared.script.Script.{Script}
use Rattle.samoa_serial.specs.ReplTable.{repl_step}
use Rattle.samoa_serial.specs.SerialRun.{opening_states}
use Rattle.samoa_serial.specs.State.{OfRepl, ReplState}
use Rattle.samoa_laws.specs.trace.Trace.{HandlerStep, state_at}
use Rattle.samoa_laws.specs.trace.Causes.{FollowsIn, IsTrace}
use Rattle.samoa_laws.specs.trace.Group.{IsGroup}
use Rattle.samoa_laws.proofs.trace.Boxes as boxes
use Rattle.samoa_laws.proofs.trace.Boxes.{Box, stands}
use Rattle.samoa_laws.proofs.trace.Steps.{IsAt}
use Rattle.samoa_laws.specs.replacement.History.{left_by, repl_opening}
use Rattle.samoa_laws.specs.streams.Streams.{repl_at, repl_state}

abbrev pub repl_box : Box ReplState
repl_box = record {
  number = 6;
  to = OfRepl;
  of = repl_state;
  table = repl_step;
  start = repl_opening;
  back = λ s. refl;
  state = λ nodes v s m. refl;
  answer = λ nodes v s m. refl;
  opens = λ nodes v. refl;
}

-- a step of the box by its table
abbrev pub Made : Script → ℕ → List HandlerStep → HandlerStep → Type 0
Made script v past x = boxes.Made repl_box script.nodes v (left_by (repl_at v past)) x

-- where the box has the state that its history left
pub made : (script : Script) (exts : List Ext) → IsGroup script → (v : ℕ) (past : List HandlerStep) (x : HandlerStep) → FollowsIn script exts past x → IsAt x v 6
    → state_at (opening_states script) past v 6 ≡ OfRepl (left_by (repl_at v past)) → Made script v past x
made script exts group v past x f at found = boxes.made repl_box script exts group v past x f at (left_by (repl_at v past)) found

-- the box has the state that its history left
pub box_state : (script : Script) (exts : List Ext) → IsGroup script → (v : ℕ) (past : List HandlerStep) → IsTrace script exts past
    → state_at (opening_states script) past v 6 ≡ OfRepl (left_by (repl_at v past))
box_state script exts group v past trace = stands repl_box script exts group v past trace
