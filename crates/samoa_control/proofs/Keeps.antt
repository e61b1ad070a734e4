-- What each step keeps of the fields of a core.
use Rattle.std.proofs.Common.{arith, ◌≡◌, ℕ, zero, suc, ◌+◌, ◌-◌, ◌*◌, ◌<◌, ◌≤◌, refl, sym, ap, subst, ◌∙◌, List, [], ◌∷◌, ◌++◌, length, replicate, get_or, Bool, false, Option, Some}
use Rattle.std.specs.Prelude.{option_map, slice_get}
use Rattle.std.proofs.lemmas.List.{length-map}
use Rattle.std.proofs.lemmas.Option.{slice_get-map, slice_get-get_or}
use Rattle.samoa_model.specs.Range.{IsInRange}
use Rattle.samoa_model.specs.Scripts.{Table, first_table, no_micro}
use Rattle.samoa_model.specs.declared.ids.NodeId.{NodeId}
use Rattle.samoa_model.specs.declared.record.Ext.{Ext}
use Rattle.samoa_model.specs.declared.record.Step.{Step}
use Rattle.samoa_model.specs.declared.script.Script.{Script}
use Rattle.samoa_bind.specs.Bound.{Bindings, epochs_of, first_tables, table_at}
use Rattle.samoa_calls.specs.Held.{handlers_of}
use Rattle.samoa_calls.specs.Handed.{AreNamed}
use Rattle.samoa_serial.specs.Calls.{Computation}
use Rattle.samoa_invariant.specs.State as model
use Rattle.samoa_invariant.specs.Runs.{IsDue, IsRun, Trace, after_step, ext_at, model_step, opening_trace, play, state}
use Rattle.samoa_invariant.proofs.representation.Scripted.{get_is}
use Rattle.samoa_invariant.proofs.representation.Traces.{invariant, is_run-with_step, opening_is_run, state-step}
use Rattle.samoa_control.specs.Grids.{Grid}
use Rattle.samoa_control.specs.Known.{decl_number}
use Rattle.samoa_control.specs.Masked.{AreMasked}
use Rattle.samoa_control.specs.Places.{slot_in}
use Rattle.samoa_control.specs.Room.{to_come}
use Rattle.samoa_control.specs.Running.{IsRunning, turn_of}
use Rattle.samoa_control.specs.declared.running.Running.{Running}
use Rattle.samoa_control.specs.declared.running.Interval.{Interval}
use Rattle.samoa_control.specs.Since.{cleared_comps}
use Rattle.samoa_control.specs.Slots.{Slotted, row_of, rows_of, set_up_at}
use Rattle.samoa_control.specs.Kept.{AreTables, Fields, Holds, Kept, Runs, trace_of}
use Rattle.samoa_control.proofs.Counts.{away-none}
use Rattle.samoa_control.proofs.Grids.{grid-none, grid-row, grid-zeros, item_at, none_yet}
use Rattle.samoa_control.proofs.Rules.{first-epochs, first-present, tables-first}
use Rattle.samoa_control.proofs.Since.{cleared-opening, cleared-step}
use Rattle.samoa_control.proofs.Toll.{IsNoAdmission, toll}

-- the slots of the nodes when all were just set up
rows-grid : (script : Script) (cells nodes : ℕ) → Grid nodes (length script.micros) (rows_of script nodes) (slot_in script (state (opening_trace script cells)))
rows-grid script cells zero = grid-none (length script.micros) (slot_in script (state (opening_trace script cells)))
rows-grid script cells (suc nodes) =
    grid-row nodes (length script.micros) (rows_of script nodes) (row_of script nodes) (slot_in script (state (opening_trace script cells))) (rows-grid script cells nodes)
    (length-map script.micros (set_up_at script nodes))
    (λ j lt. slice_get-map (set_up_at script nodes) script.micros j ∙ ap (option_map (set_up_at script nodes)) (slice_get-get_or script.micros j no_micro lt))

abbrev new_fields : Script → Bindings → List (Option (List ℕ)) → Slotted → List ℕ → List ℕ → ℕ → ℕ → Fields
new_fields script tables masks slots global local cells clears_room = record {
  script = script;
  cells = cells;
  held = 0;
  tables = tables;
  masks = masks;
  slots = slots;
  global = global;
  local = local;
  exts = [];
  clears = [];
  clears_room = clears_room;
  journal = [];
  promised = 0;
  first = 0;
  running = [];
  unended = 0;
  away = 0;
  stopped = false;
}

-- a core that was just made
pub kept-new : (script : Script) (tables : Bindings) (masks : List (Option (List ℕ))) (slots : Slotted) (global local : List ℕ) (cells clears_room : ℕ)
    → IsInRange script → AreMasked script masks
    → tables ≡ first_tables script → slots ≡ record { micros = length script.micros; boxes = rows_of script script.nodes }
    → global ≡ replicate (script.nodes * length script.micros) 0 → local ≡ replicate (script.nodes * length script.micros) 0
    → Kept (new_fields script tables masks slots global local cells clears_room)
kept-new script tables masks slots global local cells clears_room in_range masked is_tables is_slots is_global is_local = record {
  in_range = in_range;
  tables = rw is_tables (tables-first script in_range);
  masks = masked;
  epochs = λ node. rw is_tables (first-epochs script node);
  micros = ap (λ (s : Slotted). s.micros) is_slots;
  known = λ k lt. absurd (omega (arith, lt));
  is_run = opening_is_run script cells;
  first = sym (cleared-opening script cells);
  first_most = omega arith;
  clears_room = λ some. absurd (omega (arith, some));
  promised = omega arith;
  holds = record {
    admitted = refl;
    held = refl;
    within = omega arith;
    present = subst (λ (t : Bindings). (node : NodeId) (epoch : ℕ) → node.0 < script.nodes → epoch + 1 ≡ length (epochs_of t node) → table_at t node epoch ≡ first_table script)
        (sym is_tables) (first-present script);
    global = subst (λ (cs : List ℕ). Grid {A = ℕ} script.nodes (length script.micros) cs none_yet) (sym is_global) (grid-zeros script.nodes (length script.micros));
    local = subst (λ (cs : List ℕ). Grid {A = ℕ} script.nodes (length script.micros) cs none_yet) (sym is_local) (grid-zeros script.nodes (length script.micros));
    slots = subst (λ (s : Slotted). Grid script.nodes (length script.micros) s.boxes (slot_in script (state (opening_trace script cells)))) (sym is_slots) (rows-grid script cells script.nodes);
    size = omega arith;
    running = λ i r is. cc;
    past = λ k lt. absurd (omega (arith, lt));
    unended = refl;
    away = sym (away-none script (state (opening_trace script cells)) (λ v p. refl));
    stopped = refl;
  };
}

-- the fields after a step that neither admits nor clears
abbrev pub moved : Fields → Step → List ℕ → Slotted → List Running → ℕ → ℕ → Bool → Fields
moved fs step local slots running unended away stopped = record fs {
  journal = fs.journal ++ step ∷ [];
  promised = fs.promised - 1;
  local = local;
  slots = slots;
  running = running;
  unended = unended;
  away = away;
  stopped = stopped;
}

-- what such a step owes: it is due, and something was promised for it
pub paid : (t : Trace) (step : Step) → IsRun t → IsNoAdmission (model_step step) → IsDue t step
    → suc (to_come (play t) (after_step (play t) (state t) step)) ≤ to_come (play t) (state t)
paid t step run fit due = toll (play t) (state t) (model_step step) (invariant t run) fit due.enabled

pub some_promised : (fs : Fields) (step : Step) → Kept fs → IsNoAdmission (model_step step) → IsDue (trace_of fs) step → 0 < fs.promised
some_promised fs step kept fit due =
    let less : suc (to_come (play (trace_of fs)) (after_step (play (trace_of fs)) (state (trace_of fs)) step)) ≤ to_come (play (trace_of fs)) (state (trace_of fs)) =
    paid (trace_of fs) step kept.is_run fit due in
    let enough : to_come (play (trace_of fs)) (state (trace_of fs)) ≤ fs.promised = kept.promised in
    omega (arith, less, enough)

pub kept-with : (fs : Fields) (step : Step) (local : List ℕ) (slots : Slotted) (running : List Running) (unended away : ℕ) (stopped : Bool)
    → Kept fs → IsDue (trace_of fs) step → IsNoAdmission (model_step step) → slots.micros ≡ length fs.script.micros
    → Holds (moved fs step local slots running unended away stopped) (after_step (play (trace_of fs)) (state (trace_of fs)) step)
    → Kept (moved fs step local slots running unended away stopped)
kept-with fs step local slots running unended away stopped kept due fit micros holds =
    let t : Trace = trace_of fs in
    let new : Fields = moved fs step local slots running unended away stopped in
    let after : model.Core = after_step (play t) (state t) step in
    let less : suc (to_come (play t) after) ≤ to_come (play t) (state t) = paid t step kept.is_run fit due in
    let enough : to_come (play t) (state t) ≤ fs.promised = kept.promised in
    let left : to_come (play t) after ≤ fs.promised - 1 = omega (arith, less, enough) in
    record {
      in_range = kept.in_range;
      epochs = kept.epochs;
      tables = kept.tables;
      masks = kept.masks;
      micros = micros;
      known = kept.known;
      is_run = is_run-with_step t step kept.is_run due;
      first = kept.first ∙ sym (cleared-step t step kept.is_run);
      first_most = kept.first_most;
      clears_room = kept.clears_room;
      promised = subst (λ (c : model.Core). to_come (play t) c ≤ fs.promised - 1) (sym (state-step t step kept.is_run)) left;
      holds = subst (λ (c : model.Core). Holds new c) (sym (state-step t step kept.is_run)) holds;
    }

-- a computation of which nothing changes
pub runs-on : (script : Script) (tables : Bindings) (exts more : List Ext) (core after : model.Core) (k : ℕ) (r : Running) → k < after.count
    → ext_at more k ≡ ext_at exts k → ((v p : ℕ) → turn_of after k v p ≡ turn_of core k v p) → after.comp k ≡ core.comp k → after.table k ≡ core.table k
    → after.ended k ≡ core.ended k → Runs script tables exts core k r → Runs script tables more after k r
runs-on script tables exts more core after k r lt ext turn comp table ended runs = record {
  is = record {
    admitted = lt;
    node = runs.is.node ∙ ap (λ (x : Ext). x.node) (sym ext);
    decl = runs.is.decl ∙ ap (λ (x : Ext). decl_number script x) (sym ext);
    turns = record {
      size = runs.is.turns.size;
      value = λ p below. runs.is.turns.value p below
          ∙ (ap (λ (x : Ext). Some (turn_of core k x.node.0 p)) (sym ext) ∙ ap (λ (i : Interval). Some i) (sym (turn (ext_at more k).node.0 p)));
    };
    comp = runs.is.comp ∙ sym comp;
    waiting = runs.is.waiting ∙ (ap (λ (x : Table). handlers_of x (core.comp k).waiting) (sym table) ∙ ap (λ (d : Computation). handlers_of (after.table k) d.waiting) (sym comp));
    ended = runs.is.ended ∙ sym ended;
  };
  table = record {
    epoch = runs.table.epoch;
    table = runs.table.table ∙ sym table;
    named = subst (λ (x : Table). AreNamed x (after.comp k).waiting) (sym table) (subst (λ (d : Computation). AreNamed (core.table k) d.waiting) (sym comp) runs.table.named);
  };
}

-- what is kept of a computation that was admitted since the last clear
pub runs-at : (fs : Fields) (comp : ℕ) (r : Running) → Kept fs → cleared_comps (trace_of fs) < comp → slice_get fs.running (comp - 1 - fs.first) ≡ Some r
    → Runs fs.script fs.tables fs.exts (state (trace_of fs)) (comp - 1) r
runs-at fs comp r kept since is =
    let first : fs.first ≡ cleared_comps (trace_of fs) = kept.first in
    let place : fs.first + (comp - 1 - fs.first) ≡ comp - 1 = omega (arith, first, since) in
    subst (λ (k : ℕ). Runs fs.script fs.tables fs.exts (state (trace_of fs)) k r) place (kept.holds.running (comp - 1 - fs.first) r is)

-- its place
pub place-within : (fs : Fields) (comp : ℕ) → Kept fs → cleared_comps (trace_of fs) < comp → comp ≤ length fs.exts → comp - 1 - fs.first < length fs.running
place-within fs comp kept since most =
    let first : fs.first ≡ cleared_comps (trace_of fs) = kept.first in
    let size : length fs.running ≡ length fs.exts - fs.first = kept.holds.size in
    omega (arith, first, since, most, size)

-- what is there
pub there : (fs : Fields) (at : ℕ) (r : Running) → at < length fs.running → r ≡ get_or fs.running at r → slice_get fs.running at ≡ Some r
there fs at r lt e =
    let item = item_at {A = Running} fs.running at lt in
    subst (λ (x : Running). slice_get fs.running at ≡ Some x) (sym (e ∙ get_is {A = Running} fs.running at item.0 r item.1)) item.1

pub running-is : (fs : Fields) (t : Trace) (comp : ℕ) (r : Running) → trace_of fs ≡ t → Kept fs → cleared_comps t < comp → comp ≤ length t.exts
    → r ≡ get_or fs.running (comp - 1 - fs.first) r → IsRunning t.script t.exts (state t) (comp - 1) r
running-is fs t comp r view kept since most e =
    let since_here : cleared_comps (trace_of fs) < comp = subst (λ (x : Trace). cleared_comps x < comp) (sym view) since in
    let most_here : comp ≤ length fs.exts = subst (λ (x : Trace). comp ≤ length x.exts) (sym view) most in
    let runs = runs-at fs comp r kept since_here (there fs (comp - 1 - fs.first) r (place-within fs comp kept since_here most_here) e) in
    subst (λ (x : Trace). IsRunning x.script x.exts (state x) (comp - 1) r) view runs.is

-- a computation in tables that have more room
runs-room : (script : Script) (tables : Bindings) (room : ℕ) (exts : List Ext) (core : model.Core) (k : ℕ) (r : Running) → Runs script tables exts core k r
    → Runs script (record tables { room = room }) exts core k r
runs-room script tables room exts core k r runs = record {
  is = runs.is;
  table = record { epoch = runs.table.epoch; table = runs.table.table; named = runs.table.named };
}

pub tables-room : (script : Script) (tables : Bindings) (room : ℕ) → AreTables script tables → AreTables script (record tables { room = room })
tables-room script tables room are = record { size = are.size; changes = are.changes; some = are.some; counted = are.counted; events = are.events }

-- more room for clears, and room for a change or none
pub kept-room : (fs : Fields) (clears_room room : ℕ) → Kept fs → fs.clears_room ≤ clears_room → Kept (record fs { clears_room = clears_room; tables = record fs.tables { room = room } })
kept-room fs clears_room room kept more = record {
  in_range = kept.in_range;
  tables = tables-room fs.script fs.tables room kept.tables;
  masks = kept.masks;
  epochs = kept.epochs;
  micros = kept.micros;
  known = kept.known;
  is_run = kept.is_run;
  first = kept.first;
  first_most = kept.first_most;
  clears_room = λ some. let room = kept.clears_room some in omega (arith, room, more);
  promised = kept.promised;
  holds = record {
    admitted = kept.holds.admitted;
    held = kept.holds.held;
    within = kept.holds.within;
    present = kept.holds.present;
    global = kept.holds.global;
    local = kept.holds.local;
    slots = kept.holds.slots;
    size = kept.holds.size;
    running = λ i r is. runs-room fs.script fs.tables room fs.exts (state (trace_of fs)) (fs.first + i) r (kept.holds.running i r is);
    past = kept.holds.past;
    unended = kept.holds.unended;
    away = kept.holds.away;
    stopped = kept.holds.stopped;
  };
}
