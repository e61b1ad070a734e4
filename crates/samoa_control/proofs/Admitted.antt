-- What an admission keeps of the fields of a core.
use Rattle.std.proofs.Common.{arith, ◌≡◌, ◌≢◌, ◌⊎◌, inl, inr, ℕ, zero, suc, ◌+◌, ◌-◌, ◌*◌, ◌<◌, ◌≤◌, refl, sym, ap, subst, ◌∙◌, List, [], ◌∷◌, ◌++◌, length, length-append, get_or, min, Bool, false, Option, Some, None}
use Rattle.std.proofs.lemmas.List.{get_or_append_left, get_or_push}
use Rattle.std.proofs.lemmas.List.Elements.{All-nil}
use Rattle.samoa_model.specs.Allowed.{weight}
use Rattle.samoa_model.specs.Cells.{cells_of}
use Rattle.samoa_model.specs.Range.{IsExtOf}
use Rattle.samoa_model.specs.Scripts.{Table, caused, decl_at, decl_of, root_of}
use Rattle.samoa_model.specs.declared.handler.Moment.{Moment}
use Rattle.samoa_model.specs.declared.ids.NodeId.{NodeId}
use Rattle.samoa_model.specs.declared.record.Ext.{Ext}
use Rattle.samoa_model.specs.declared.record.Step.{Step}
use Rattle.samoa_model.specs.declared.script.Decl.{Decl}
use Rattle.samoa_model.specs.declared.script.DeclDef.{DeclDef}
use Rattle.samoa_model.specs.declared.script.Script.{Script}
use Rattle.samoa_bind.specs.Bound.{Bindings, epochs_of, last_table, table_at}
use Rattle.samoa_calls.specs.Held.{Held, handlers_of}
use Rattle.samoa_serial.specs.declared.call.Call.{Call}
use Rattle.samoa_serial.specs.declared.call.Waiting.{Waiting}
use Rattle.samoa_serial.specs.Alone.{next_step}
use Rattle.samoa_serial.specs.Calls.{Computation, start}
use Rattle.samoa_serial.specs.World.{attempts_of}
use Rattle.samoa_invariant.specs.Inv.{Invariant}
use Rattle.samoa_invariant.specs.Play.{Agree, Play, turns, version, weight_at}
use Rattle.samoa_invariant.specs.Slots.{At}
use Rattle.samoa_invariant.specs.State as model
use Rattle.samoa_invariant.specs.State.{home_of, left, left_of, named, shorts, sum_to, to_end}
use Rattle.samoa_invariant.specs.Runs.{IsDue, IsRun, Trace, ext_at, no_ext, play, play_of, state, with_ext, with_step}
use Rattle.samoa_invariant.proofs.representation.Agrees.{turns-agree}
use Rattle.samoa_invariant.proofs.measure.Room.{admitted_left, turns-most}
use Rattle.samoa_invariant.proofs.preservation.Slots.{put-else, put-here}
use Rattle.samoa_invariant.proofs.representation.Traces.{count-few, invariant, is_run-with_ext, is_run-with_step, state-ext, state-step}
use Rattle.std.proofs.lemmas.Bool.{cases_eq}
use Rattle.samoa_invariant.proofs.preservation.Versions.{version-most, weight_at-else, weight_at-is}
use Rattle.samoa_control.specs.Admission.{admitted, raised, started, steps_of, turns_taken}
use Rattle.samoa_control.specs.Known.{decl_number}
use Rattle.samoa_control.specs.Later.{IsStill}
use Rattle.samoa_control.specs.Room.{spare_of, spare_when, to_come}
use Rattle.samoa_control.specs.declared.running.Running.{Running}
use Rattle.samoa_control.specs.declared.running.Interval.{Interval}
use Rattle.samoa_control.specs.Since.{cleared_comps}
use Rattle.samoa_control.specs.Kept.{Fields, Holds, Kept, Runs, trace_of, unended}
use Rattle.samoa_control.proofs.Counts.{unended-admit, unended-most}
use Rattle.samoa_control.proofs.Declares.{weight-most}
use Rattle.samoa_control.proofs.Grids.{each-push}
use Rattle.samoa_control.proofs.Keeps.{runs-on}
use Rattle.samoa_control.proofs.Rules.{decl-of}
use Rattle.samoa_control.proofs.Tabled.{ChangesTables}
use Rattle.samoa_control.proofs.Since.{cleared-ext, cleared-step}
use Rattle.samoa_control.proofs.Taken.{grid-raised, length-taken, taken-at}
use Rattle.samoa_control.proofs.Toll.{spare-most, sum-le}
use Rattle.samoa_control.proofs.Versioned.{global-is}

-- what was there stays in its place
old_ext : (exts : List Ext) (ext : Ext) (k : ℕ) → k < length exts → ext_at (exts ++ ext ∷ []) k ≡ ext_at exts k
old_ext exts ext k lt = get_or_append_left {A = Ext} exts (ext ∷ []) no_ext k lt

new_ext : (exts : List Ext) (ext : Ext) → ext_at (exts ++ ext ∷ []) (length exts) ≡ ext
new_ext exts ext = get_or_push {X = Ext} exts ext no_ext (length exts) refl

pub agree : (script : Script) (cells : ℕ) (exts : List Ext) (ext : Ext) → Agree (play_of script cells (exts ++ ext ∷ [])) (play_of script cells exts) (length exts)
agree script cells exts ext = record {
  first_states = refl;
  first_tables = refl;
  node = λ k lt. ap (λ (x : Ext). (play_of script cells (x ∷ [])).node 0) (old_ext exts ext k lt);
  decl = λ k lt. ap (λ (x : Ext). (play_of script cells (x ∷ [])).decl 0) (old_ext exts ext k lt);
  change = λ k lt. ap (λ (x : Ext). (play_of script cells (x ∷ [])).change 0) (old_ext exts ext k lt);
  step = λ k lt. ap (λ (x : Ext). (play_of script cells (x ∷ [])).step 0) (old_ext exts ext k lt);
  budget = λ k lt. ap (λ (x : Ext). (play_of script cells (x ∷ [])).budget 0) (old_ext exts ext k lt);
  root = λ k lt. ap (λ (x : Ext). (play_of script cells (x ∷ [])).root 0) (old_ext exts ext k lt);
  args = λ k lt. ap (λ (x : Ext). (play_of script cells (x ∷ [])).args 0) (old_ext exts ext k lt);
}

-- the steps to come are those of what was admitted
home-agree : (P Q : Play) (core : model.Core) (j : ℕ) (y : Option (Call × Moment)) → P.node j ≡ Q.node j → home_of P core j y ≡ home_of Q core j y
home-agree P Q core j None e = refl
home-agree P Q core j (Some next) e = ap (λ (v : ℕ). model.not_out_by j (core.out v next.0.handler.micro.0)) e

left-agree : (P Q : Play) (core : model.Core) (n j : ℕ) → Agree P Q n → j < n → left_of P core j ≡ left_of Q core j
left-agree P Q core n j a lt =
    let home : home_of P core j (next_step (core.comp j)) ≡ home_of Q core j (next_step (core.comp j)) = home-agree P Q core j (next_step (core.comp j)) (a.node j lt) in
    let turn : turns P j ≡ turns Q j = turns-agree P Q n a j lt in
    let short : shorts (core.private j (P.node j)) (core.local (P.node j)) (named (P.decl j)) ≡ shorts (core.private j (Q.node j)) (core.local (Q.node j)) (named (Q.decl j)) =
    ap (λ (v : ℕ). shorts (core.private j v) (core.local v) (named (P.decl j))) (a.node j lt)
    ∙ ap (λ (d : Decl). shorts (core.private j (Q.node j)) (core.local (Q.node j)) (named d)) (a.decl j lt) in
    ap (λ (n : ℕ). 2 * (n - core.made j) + (home_of P core j (next_step (core.comp j)) + (shorts (core.private j (P.node j)) (core.local (P.node j)) (named (P.decl j)) + to_end (core.ended j)))) turn
    ∙ (ap (λ (h : ℕ). 2 * (turns Q j - core.made j) + (h + (shorts (core.private j (P.node j)) (core.local (P.node j)) (named (P.decl j)) + to_end (core.ended j)))) home
    ∙ ap (λ (s : ℕ). 2 * (turns Q j - core.made j) + (home_of Q core j (next_step (core.comp j)) + (s + to_end (core.ended j)))) short)

spare-agree : (P Q : Play) (core : model.Core) (n j : ℕ) → Agree P Q n → j < n → spare_of P core j ≡ spare_of Q core j
spare-agree P Q core n j a lt = ap (λ (h : ℕ). spare_when core.stopped h) (home-agree P Q core j (next_step (core.comp j)) (a.node j lt))

come-agree : (P Q : Play) (core : model.Core) → Agree P Q core.count → to_come P core ≤ to_come Q core
come-agree P Q core a =
    let lefts : left P core ≤ left Q core = sum-le (left_of P core) (left_of Q core) core.count (λ j lt. let e = left-agree P Q core core.count j a lt in omega (arith, e)) in
    let spares : sum_to (spare_of P core) core.count ≤ sum_to (spare_of Q core) core.count =
    sum-le (spare_of P core) (spare_of Q core) core.count (λ j lt. let e = spare-agree P Q core core.count j a lt in omega (arith, e)) in
    omega (arith, lefts, spares)

-- and an admission adds those of its computation
admit_home : (P : Play) (core : model.Core) (j : ℕ) (y : Option (Call × Moment)) → home_of P (model.admit P core) j y ≡ home_of P core j y
admit_home P core j None = refl
admit_home P core j (Some next) = refl

come-admit : (P : Play) (core : model.Core) → to_come P (model.admit P core) ≤ to_come P core + (2 * turns P core.count + length (named (P.decl core.count)) + 4)
come-admit P core =
    let lefts : left P (model.admit P core) ≤ left P core + (2 * turns P core.count + length (named (P.decl core.count)) + 2) = admitted_left P core in
    let before : sum_to (spare_of P (model.admit P core)) core.count ≤ sum_to (spare_of P core) core.count =
    sum-le (spare_of P (model.admit P core)) (spare_of P core) core.count (λ j lt. let e = same j (λ is. omega arith) in omega (arith, e)) in
    let last : spare_of P (model.admit P core) core.count ≤ 1 = spare-most core.stopped _ in
    omega (arith, lefts, before, last)
  where
    same : (j : ℕ) → j ≢ core.count → spare_of P (model.admit P core) j ≡ spare_of P core j
    same j ne =
        ap (λ (d : Computation). spare_when core.stopped (home_of P (model.admit P core) j (next_step d))) (put-else {A = Computation} core.comp core.count j _ ne)
        ∙ ap (λ (h : ℕ). spare_when core.stopped h) (admit_home P core j (next_step (core.comp j)))

-- the fields after an admission
abbrev pub after_admission : Fields → Ext → ℕ → ℕ → ℕ → ℕ → List ℕ → Bindings → Running → Fields
after_admission fs ext number held promised clears_room global tables r = record fs {
  tables = tables;
  held = held;
  global = global;
  exts = fs.exts ++ ext ∷ [];
  clears_room = clears_room;
  journal = fs.journal ++ Step.Admit number ∷ [];
  promised = promised;
  running = fs.running ++ r ∷ [];
  unended = fs.unended + 1;
}

-- what is admitted may be
pub is_due : (fs : Fields) (ext : Ext) → Kept fs → length fs.exts < 100000 → (state (trace_of fs)).cells + cells_of fs.script ext ≤ fs.cells
    → IsDue (with_ext (trace_of fs) ext) (Step.Admit (length fs.exts + 1))
is_due fs ext kept lt fits =
    let t : Trace = trace_of fs in
    let t1 : Trace = with_ext t ext in
    let same : state t1 ≡ state t = state-ext t ext kept.is_run in
    let all : (state t).count ≡ length fs.exts = kept.holds.admitted in
    let longer : length (fs.exts ++ ext ∷ []) ≡ length fs.exts + 1 = length-append fs.exts (ext ∷ []) in
    let cells : cells_of fs.script (ext_at (fs.exts ++ ext ∷ []) (state t).count) ≡ cells_of fs.script ext =
    ap (λ (n : ℕ). cells_of fs.script (ext_at (fs.exts ++ ext ∷ []) n)) all ∙ ap (λ (x : Ext). cells_of fs.script x) (new_ext fs.exts ext) in
    let room : (state t).count < min (length (fs.exts ++ ext ∷ [])) 100000 = omega arith in
    let cells_fit : (state t).cells + cells_of fs.script (ext_at (fs.exts ++ ext ∷ []) (state t).count) ≤ fs.cells =
    subst (λ (n : ℕ). (state t).cells + n ≤ fs.cells) (sym cells) fits in
    let can : model.CanAdmit (play t1) (state t) = record { room = room; cells = cells_fit } in
    record {
      number = subst (λ (c : model.Core). length fs.exts + 1 ≡ c.count + 1) (sym same) (omega (arith, all));
      enabled = subst (λ (c : model.Core). model.CanAdmit (play t1) c) (sym same) can;
    }

-- each admission takes 256 versions at most
pub small : (fs : Fields) (v p : ℕ) → Kept fs → v < fs.script.nodes → p < length fs.script.micros
    → get_or fs.global (v * length fs.script.micros + p) 0 ≤ length fs.exts * 256
small fs v p kept lt below =
    let t : Trace = trace_of fs in
    let i : Invariant (play t) (state t) = invariant t kept.is_run in
    let all : (state t).count ≡ length fs.exts = kept.holds.admitted in
    let is : (state t).global v p ≡ version (play t) (state t).count v p = i.versions.global v p in
    let bound : version (play t) (state t).count v p ≤ (state t).count * 256 =
    version-most (play t) 256 (state t).count v p
    (λ k less. weight-most fs.script ((play t).decl k) p (decl-of fs.script (ext_at fs.exts k) kept.in_range (kept.known k (omega (arith, less, all))))) in
    let cell : get_or fs.global (v * length fs.script.micros + p) 0 ≡ (state t).global v p = global-is fs v p kept lt below in
    omega (arith, all, is, bound, cell)

-- what an admission knows
pub record Admits (t : Trace) (ext : Ext) : Type 0 where
  pub known : IsExtOf t.script ext
  pub few : length t.exts < 100000
  pub fits : (state t).cells + cells_of t.script ext ≤ t.cells

-- the record of the computation that is admitted
pub record IsFresh (fs : Fields) (ext : Ext) (tables : Bindings) (r : Running) : Type 0 where
  pub changes : ChangesTables fs.script fs.tables tables ext.node ext.cause
  pub node : r.node ≡ ext.node
  pub epoch : r.epoch + 1 ≡ length (epochs_of tables ext.node)
  pub turns : r.turns.items ≡ turns_taken (decl_of fs.script ext).decl (length fs.script.micros) ext.node.0 fs.global (length fs.script.micros)
  pub calls : r.calls ≡ started fs.script tables ext
  pub none_waits : r.calls.comp.waiting ≡ []
  pub unended : r.ended ≡ false

-- the present table is that of the last epoch, after what the admission causes
new-table : (fs : Fields) (ext : Ext) (tables : Bindings) (epoch : ℕ) → Kept fs → ChangesTables fs.script fs.tables tables ext.node ext.cause → ext.node.0 < fs.script.nodes
    → epoch + 1 ≡ length (epochs_of tables ext.node) → table_at tables ext.node epoch ≡ caused fs.script ext.cause ((state (trace_of fs)).present ext.node.0)
new-table fs ext tables epoch kept changes lt last =
    let some : 0 < length (epochs_of fs.tables ext.node) = kept.tables.some ext.node lt in
    let is : length (epochs_of fs.tables ext.node) - 1 + 1 ≡ length (epochs_of fs.tables ext.node) = omega (arith, some) in
    changes.last epoch last ∙ ap (λ (table : Table). caused fs.script ext.cause table) (kept.holds.present ext.node (length (epochs_of fs.tables ext.node) - 1) lt is)

-- a computation uses the table of its epoch, which an admission keeps
runs-in : (script : Script) (before after : Bindings) (exts : List Ext) (core : model.Core) (k : ℕ) (ext : Ext) (r : Running) → ChangesTables script before after ext.node ext.cause
    → Runs script before exts core k r → Runs script after exts core k r
runs-in script before after exts core k ext r changes runs = record {
  is = runs.is;
  table = record {
    epoch = changes.kept r.node r.epoch runs.table.epoch;
    table = changes.older r.node r.epoch runs.table.epoch ∙ runs.table.table;
    named = runs.table.named;
  };
}

-- the computation that is admitted, in the state after that
runs-new : (fs : Fields) (ext : Ext) (tables : Bindings) (r : Running) → Kept fs → IsExtOf fs.script ext → IsFresh fs ext tables r
    → Runs fs.script tables (fs.exts ++ ext ∷ []) (model.admit (play (with_ext (trace_of fs) ext)) (state (trace_of fs))) (length fs.exts) r
runs-new fs ext tables r kept known is =
    let P : Play = play (with_ext (trace_of fs) ext) in
    let core : model.Core = state (trace_of fs) in
    let n : ℕ = length fs.exts in
    let after : model.Core = model.admit P core in
    let all : core.count ≡ n = kept.holds.admitted in
    let mine : ext_at (fs.exts ++ ext ∷ []) n ≡ ext = new_ext fs.exts ext in
    let mine_at : ext_at (fs.exts ++ ext ∷ []) core.count ≡ ext = ap (λ (m : ℕ). ext_at (fs.exts ++ ext ∷ []) m) all ∙ mine in
    let epoch : r.epoch < length (epochs_of tables r.node) = (let e = is.epoch in rw is.node (omega (arith, e))) in
    let last : length (epochs_of tables ext.node) - 1 ≡ r.epoch = (let e = is.epoch in omega (arith, e)) in
    let present : last_table tables ext.node ≡ P.change core.count (core.present (P.node core.count)) =
    new-table fs ext tables (length (epochs_of tables ext.node) - 1) kept is.changes known.node (let e = is.epoch in omega (arith, e))
    ∙ ap (λ (x : Ext). caused fs.script x.cause (core.present x.node.0)) (sym mine_at) in
    let table : table_at tables r.node r.epoch ≡ after.table n =
    ap (λ (v : NodeId). table_at tables v r.epoch) is.node
    ∙ (ap (λ (e : ℕ). table_at tables ext.node e) (sym last)
    ∙ (present ∙ sym (put-here {A = Table} core.table core.count n (P.change core.count (core.present (P.node core.count))) (sym all)))) in
    let comp : r.calls.comp ≡ after.comp n =
    ap (λ (h : Held). h.comp) is.calls
    ∙ (ap (λ (x : Ext). start (attempts_of (decl_of fs.script x).decl (last_table tables ext.node)) (decl_of fs.script x).budget (root_of fs.script x.cause) x.args) (sym mine_at)
    ∙ (ap (λ (x : Table). start (attempts_of (P.decl core.count) x) (P.budget core.count) (P.root core.count) (P.args core.count)) present
    ∙ sym (put-here {A = Computation} core.comp core.count n _ (sym all)))) in
    let waits : (after.comp n).waiting ≡ [] = ap (λ (d : Computation). d.waiting) (sym comp) ∙ is.none_waits in
    let from : (p : ℕ) → after.from n ext.node.0 p ≡ core.global ext.node.0 p = λ p. ap (λ (f : At ℕ). f ext.node.0 p) (put-here {A = At ℕ} core.from core.count n core.global (sym all)) in
    let private : (p : ℕ) → after.private n ext.node.0 p ≡ core.global ext.node.0 p + weight (decl_of fs.script ext).decl p = λ p.
    ap (λ (f : At ℕ). f ext.node.0 p) (put-here {A = At ℕ} core.private core.count n _ (sym all))
    ∙ (ap (λ (w : ℕ). core.global ext.node.0 p + w) (weight_at-is P core.count ext.node.0 p (ap (λ (x : Ext). x.node.0) (sym mine_at)))
    ∙ ap (λ (x : Ext). core.global ext.node.0 p + weight (decl_of fs.script x).decl p) mine_at) in
    record {
      is = record {
        admitted = omega (arith, all);
        node = is.node ∙ ap (λ (x : Ext). x.node) (sym mine);
        decl = ap (λ (h : Held). h.decl) is.calls ∙ ap (λ (x : Ext). decl_number fs.script x) (sym mine);
        turns = record {
          size = ap length is.turns ∙ length-taken (decl_of fs.script ext).decl (length fs.script.micros) ext.node.0 fs.global (length fs.script.micros);
          value = λ p below. rw (is.turns, mine, from p, private p)
              (taken-at fs.script.nodes (length fs.script.micros) ext.node.0 (length fs.script.micros) p fs.global core.global (decl_of fs.script ext).decl known.node (omega arith) kept.holds.global below);
        };
        comp = comp;
        waiting = ap (λ (h : Held). h.waiting_handlers) is.calls ∙ sym (ap (λ (ws : List Waiting). handlers_of (after.table n) ws) waits);
        ended = is.unended ∙ sym (put-here {A = Bool} core.ended core.count n false (sym all));
      };
      table = record {
        epoch = epoch;
        table = table;
        named = rw waits (All-nil (λ (w : Waiting). w.event.0 < length (after.table n)));
      };
    }

pub kept-admission : (fs : Fields) (ext : Ext) (number held promised clears_room : ℕ) (global : List ℕ) (tables : Bindings) (r : Running)
    → Kept fs → Admits (trace_of fs) ext → IsFresh fs ext tables r
    → number ≡ length fs.exts + 1 → held ≡ fs.held + cells_of fs.script ext
    → promised ≡ fs.promised + steps_of (decl_of fs.script ext) → length fs.clears < clears_room
    → global ≡ raised (decl_of fs.script ext).decl (length fs.script.micros) ext.node.0 fs.global (length fs.script.micros)
    → Kept (after_admission fs ext number held promised clears_room global tables r)
kept-admission fs ext number held promised clears_room global tables r kept admits is is_number is_held is_promised clears is_global =
    let t : Trace = trace_of fs in
    let t1 : Trace = with_ext t ext in
    let P : Play = play t1 in
    let core : model.Core = state t in
    let k : ℕ = core.count in
    let n : ℕ = length fs.exts in
    let micros : ℕ = length fs.script.micros in
    let after : model.Core = model.admit P core in
    let known : IsExtOf fs.script ext = admits.known in
    let all : core.count ≡ n = kept.holds.admitted in
    let same : state t1 ≡ core = state-ext t ext kept.is_run in
    let run1 : IsRun t1 = is_run-with_ext t ext kept.is_run in
    let due : IsDue t1 (Step.Admit number) = subst (λ (m : ℕ). IsDue t1 (Step.Admit m)) (sym is_number) (is_due fs ext kept admits.few admits.fits) in
    let longer : length (fs.exts ++ ext ∷ []) ≡ n + 1 = length-append fs.exts (ext ∷ []) in
    let first_most : fs.first ≤ n = kept.first_most in
    let size : length fs.running ≡ n - fs.first = kept.holds.size in
    let new_at : ext_at (fs.exts ++ ext ∷ []) k ≡ ext = ap (λ (m : ℕ). ext_at (fs.exts ++ ext ∷ []) m) all ∙ new_ext fs.exts ext in
    let node : P.node k ≡ ext.node.0 = ap (λ (x : Ext). x.node.0) new_at in
    let decl : P.decl k ≡ (decl_of fs.script ext).decl = ap (λ (x : Ext). (decl_of fs.script x).decl) new_at in
    let new : Fields = after_admission fs ext number held promised clears_room global tables r in
    let step_is : state (with_step t1 (Step.Admit number)) ≡ after =
    state-step t1 (Step.Admit number) run1 ∙ ap (λ (c : model.Core). model.admit P c) same in
    let held_cells : core.cells ≡ fs.held = sym kept.holds.held in
    let cells : P.cells k ≡ cells_of fs.script ext = ap (λ (x : Ext). cells_of fs.script x) new_at in
    let room : core.cells + cells_of fs.script ext ≤ fs.cells = admits.fits in
    let come : to_come P after ≤ to_come P core + (2 * turns P k + length (named (P.decl k)) + 4) = come-admit P core in
    let come_old : to_come P core ≤ to_come (play t) core =
    come-agree P (play t) core (subst (λ (m : ℕ). Agree P (play t) m) (sym all) (agree fs.script fs.cells fs.exts ext)) in
    let few_turns : turns P k ≤ 5 * (decl_of fs.script (ext_at (fs.exts ++ ext ∷ []) k)).budget + 4 = turns-most t1 k kept.in_range (omega arith) in
    let budget : (decl_of fs.script (ext_at (fs.exts ++ ext ∷ []) k)).budget ≡ (decl_of fs.script ext).budget = ap (λ (x : Ext). (decl_of fs.script x).budget) new_at in
    let names : length (named (P.decl k)) ≡ length (named (decl_of fs.script ext).decl) = ap (λ (d : Decl). length (named d)) decl in
    let enough : to_come (play t) core ≤ fs.promised = kept.promised in
    let left : to_come P after ≤ promised = omega arith in
    let holds : Holds new after = record {
      admitted = omega arith;
      held = omega arith;
      within = omega arith;
      present = λ v epoch lt last. present_is v epoch lt last node (cases_eq v.0 ext.node.0);
      global = rw is_global (grid-raised fs.script.nodes micros ext.node.0 fs.global core.global after.global (decl_of fs.script ext).decl known.node kept.holds.global
          (λ p. ap (λ (w : ℕ). core.global ext.node.0 p + w) (weight_at-is P k ext.node.0 p (sym node) ∙ ap (λ (d : Decl). weight d p) decl))
          (λ v p ne. let none : weight_at P k v p ≡ zero = weight_at-else P k v p (λ e. ne (e ∙ node)) in omega (arith, none)));
      local = kept.holds.local;
      slots = kept.holds.slots;
      size = (let more = length-append fs.running (r ∷ []) in omega (arith, more, size, longer, first_most));
      running = each-push fs.running r (λ i x. Runs fs.script tables (fs.exts ++ ext ∷ []) after (fs.first + i) x)
          (subst (λ (j : ℕ). Runs fs.script tables (fs.exts ++ ext ∷ []) after j r) (let e : n ≡ fs.first + length fs.running = omega (arith, size, first_most) in e) (runs-new fs ext tables r kept known is))
          (λ i x lt there. old_runs i x (omega (arith, lt, size)) (kept.holds.running i x there));
      past = λ j lt. put-else {A = Bool} core.ended k j false (λ e. omega (arith, e, lt, all, first_most)) ∙ kept.holds.past j lt;
      unended = (let was : fs.unended ≡ unended core = kept.holds.unended in
          let more : unended after ≡ unended core + 1 = unended-admit core after refl refl in
          omega (arith, was, more));
      away = kept.holds.away;
      stopped = kept.holds.stopped;
    } in
    record {
      in_range = kept.in_range;
      tables = is.changes.are;
      masks = kept.masks;
      epochs = λ v. (let before = kept.epochs v in let more = is.changes.few v in omega (arith, before, more, longer));
      micros = kept.micros;
      known = λ j lt. known_at j (omega (arith, lt, longer)) (cases_eq j n);
      is_run = is_run-with_step t1 (Step.Admit number) run1 due;
      first = kept.first ∙ (sym (cleared-ext t ext) ∙ sym (cleared-step t1 (Step.Admit number) run1));
      first_most = omega (arith, first_most, longer);
      clears_room = λ some. clears;
      promised = subst (λ (c : model.Core). to_come P c ≤ promised) (sym step_is) left;
      holds = subst (λ (c : model.Core). Holds new c) (sym step_is) holds;
    }
  where
    present_is : (v : NodeId) (epoch : ℕ) → v.0 < fs.script.nodes → epoch + 1 ≡ length (epochs_of tables v) → (play (with_ext (trace_of fs) ext)).node (state (trace_of fs)).count ≡ ext.node.0
        → (v.0 ≡ ext.node.0) ⊎ (v.0 ≢ ext.node.0)
        → table_at tables v epoch ≡ (model.admit (play (with_ext (trace_of fs) ext)) (state (trace_of fs))).present v.0
    present_is v epoch lt last node (inl e) =
        let P : Play = play (with_ext (trace_of fs) ext) in
        let core : model.Core = state (trace_of fs) in
        let all : core.count ≡ length fs.exts = kept.holds.admitted in
        let mine_at : ext_at (fs.exts ++ ext ∷ []) core.count ≡ ext = ap (λ (m : ℕ). ext_at (fs.exts ++ ext ∷ []) m) all ∙ new_ext fs.exts ext in
        let at : epoch + 1 ≡ length (epochs_of tables ext.node) = last ∙ ap (λ (n : ℕ). length (get_or tables.epochs n [])) e in
        ap (λ (n : ℕ). get_or (get_or tables.epochs n []) epoch []) e
        ∙ (new-table fs ext tables epoch kept is.changes admits.known.node at
        ∙ (ap (λ (x : Ext). caused fs.script x.cause (core.present x.node.0)) (sym mine_at)
        ∙ sym (put-here {A = Table} core.present (P.node core.count) v.0 (P.change core.count (core.present (P.node core.count))) (e ∙ sym node))))
    present_is v epoch lt last node (inr ne) =
        let P : Play = play (with_ext (trace_of fs) ext) in
        let core : model.Core = state (trace_of fs) in
        let same : epochs_of tables v ≡ epochs_of fs.tables v = is.changes.others v ne in
        ap (λ (ts : List Table). get_or ts epoch []) same
        ∙ (kept.holds.present v epoch lt (last ∙ ap (λ (ts : List Table). length ts) same)
        ∙ sym (put-else {A = Table} core.present (P.node core.count) v.0 (P.change core.count (core.present (P.node core.count))) (λ e. ne (e ∙ node))))

    same_turn : {low high from to : ℕ} → from ≡ low → to ≡ high → (let i : Interval = record { from = from; to = to } in i) ≡ record { from = low; to = high }
    same_turn {low = low} {high = high} {from = from} {to = to} e f = ap (λ (x : ℕ). let i : Interval = record { from = x; to = to } in i) e ∙ ap (λ (y : ℕ). let i : Interval = record { from = low; to = y } in i) f

    old_runs : (i : ℕ) (x : Running) → fs.first + i < length fs.exts → Runs fs.script fs.tables fs.exts (state (trace_of fs)) (fs.first + i) x
        → Runs fs.script tables (fs.exts ++ ext ∷ []) (model.admit (play (with_ext (trace_of fs) ext)) (state (trace_of fs))) (fs.first + i) x
    old_runs i x lt old =
        let P : Play = play (with_ext (trace_of fs) ext) in
        let core : model.Core = state (trace_of fs) in
        let all : core.count ≡ length fs.exts = kept.holds.admitted in
        let other : fs.first + i ≢ core.count = (λ e. omega (arith, e, lt, all)) in
        runs-in fs.script fs.tables tables (fs.exts ++ ext ∷ []) (model.admit P core) (fs.first + i) ext x is.changes
        (runs-on fs.script fs.tables fs.exts (fs.exts ++ ext ∷ []) core (model.admit P core) (fs.first + i) x (omega (arith, lt, all))
        (old_ext fs.exts ext (fs.first + i) lt)
        (λ v p. same_turn (ap (λ (f : At ℕ). f v p) (put-else {A = At ℕ} core.from core.count (fs.first + i) _ other)) (ap (λ (f : At ℕ). f v p) (put-else {A = At ℕ} core.private core.count (fs.first + i) _ other)))
        (put-else {A = Computation} core.comp core.count (fs.first + i) _ other) (put-else {A = Table} core.table core.count (fs.first + i) _ other)
        (put-else {A = Bool} core.ended core.count (fs.first + i) false other) old)

    known_at : (j : ℕ) → j < suc (length fs.exts) → (j ≡ length fs.exts) ⊎ (j ≢ length fs.exts) → IsExtOf fs.script (ext_at (fs.exts ++ ext ∷ []) j)
    known_at j lt (inl e) = rw (e, new_ext fs.exts ext) admits.known
    known_at j lt (inr ne) = rw (old_ext fs.exts ext j (omega (arith, lt, ne))) (kept.known j (omega (arith, lt, ne)))

-- the same, by what an admission's parts say of the number of its declaration
pub kept-taken : (fs : Fields) (ext : Ext) (number held steps clears_room n m : ℕ) (d : DeclDef) (global : List ℕ) (tables : Bindings) (r : Running) → Kept fs → Admits (trace_of fs) ext
    → ChangesTables fs.script fs.tables tables ext.node ext.cause
    → r.node ≡ ext.node → r.epoch + 1 ≡ length (epochs_of tables ext.node) → r.ended ≡ false → r.calls ≡ started fs.script tables ext → r.calls.comp.waiting ≡ []
    → n ≡ decl_number fs.script ext → m ≡ decl_number fs.script ext → d ≡ decl_at fs.script n → steps ≡ steps_of d + 1
    → r.turns.items ≡ turns_taken (decl_at fs.script m).decl (length fs.script.micros) ext.node.0 fs.global (length fs.script.micros)
    → global ≡ raised (decl_at fs.script m).decl (length fs.script.micros) ext.node.0 fs.global (length fs.script.micros)
    → number ≡ length fs.exts + 1 → held ≡ fs.held + cells_of fs.script ext → length fs.clears < clears_room
    → Kept (after_admission fs ext number held (fs.promised + steps - 1) clears_room global tables r)
kept-taken fs ext number held steps clears_room n m d global tables r kept admits changes node epoch unended calls waits is_n is_m is_d is_steps turns is_global is_number is_held clears =
    let of : d ≡ decl_of fs.script ext = is_d ∙ ap (λ (i : ℕ). decl_at fs.script i) is_n in
    let many : steps ≡ steps_of (decl_of fs.script ext) + 1 = is_steps ∙ ap (λ (x : DeclDef). steps_of x + 1) of in
    kept-admission fs ext number held (fs.promised + steps - 1) clears_room global tables r kept admits
    (record {
      changes = changes;
      node = node;
      epoch = epoch;
      turns = turns ∙ ap (λ (i : ℕ). turns_taken (decl_at fs.script i).decl (length fs.script.micros) ext.node.0 fs.global (length fs.script.micros)) is_m;
      calls = calls;
      none_waits = waits;
      unended = unended;
    })
    is_number is_held (omega (arith, many)) clears
    (is_global ∙ ap (λ (i : ℕ). raised (decl_at fs.script i).decl (length fs.script.micros) ext.node.0 fs.global (length fs.script.micros)) is_m)

-- how many haven't ended
pub unended-fits : (fs : Fields) → Kept fs → fs.unended ≤ 100000
unended-fits fs kept =
    let is : fs.unended ≡ unended (state (trace_of fs)) = kept.holds.unended in
    let most = unended-most (state (trace_of fs)) in
    let few = count-few (trace_of fs) kept.is_run in
    omega (arith, is, most, few)

-- an admission takes no box out, and stops nothing
pub still-admitted : (t : Trace) (ext : Ext) → IsRun t → IsStill (state t) (admitted t ext)
still-admitted t ext run =
    let t1 : Trace = with_ext t ext in
    let step : Step = Step.Admit (length t.exts + 1) in
    let same : state (with_step t1 step) ≡ model.admit (play t1) (state t) =
    state-step t1 step (is_run-with_ext t ext run) ∙ ap (λ (c : model.Core). model.admit (play t1) c) (state-ext t ext run) in
    record { out = λ v p. ap (λ (c : model.Core). c.out v p) same; stopped = ap (λ (c : model.Core). c.stopped) same }

-- nor does it clear anything away
pub cleared-admitted : (t : Trace) (ext : Ext) → IsRun t → cleared_comps (admitted t ext) ≡ cleared_comps t
cleared-admitted t ext run = cleared-step (with_ext t ext) (Step.Admit (length t.exts + 1)) (is_run-with_ext t ext run) ∙ cleared-ext t ext
