-- The fields of a core, as plain data.
use Rattle.std.specs.Prelude.{vec_capacity}
use Rattle.samoa_control.specs.declared.control.Control.TheInside.{Inside}
use Rattle.samoa_invariant.specs.Runs.{Trace}
use Rattle.samoa_control.specs.Kept.{Fields, Kept, trace_of}

abbrev pub fields_of : {B : Type 0} → Inside B → Fields
fields_of a = record {
  script = a.script;
  cells = a.cells;
  held = a.held;
  tables = a.tables;
  masks = a.masks.items;
  slots = a.slots;
  global = a.versions.gv;
  local = a.versions.lv;
  exts = a.exts.items;
  clears = a.clears.items;
  clears_room = vec_capacity a.clears;
  journal = a.journal.steps;
  promised = a.journal.promised;
  first = a.first;
  running = a.running.items;
  unended = a.unended;
  away = a.away;
  stopped = a.stopped;
}

abbrev pub trace_in : {B : Type 0} → Inside B → Trace
trace_in a = trace_of (fields_of a)

abbrev pub IsKept : {B : Type 0} → Inside B → Type 0
IsKept a = Kept (fields_of a)
