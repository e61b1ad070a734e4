-- What each step keeps of the fields of a core.
use Rattle.std.proofs.Common.{arith, ◌≡◌, ◌≢◌, ◌⊎◌, ◌↔◌, ℕ, ◌+◌, ◌-◌, ◌*◌, ◌<◌, ◌≤◌, refl, sym, ap, subst, ◌∙◌, List, ◌∷◌, length, get_or, set, Bool, true, false, Option, Some, None}
use Rattle.std.specs.Prelude.{is_some, slice_get}
use Rattle.std.specs.Option.{IfSome}
use Rattle.std.proofs.lemmas.Nat.{mul-le}
use Rattle.samoa_model.specs.Scripts.{Table, decl_at}
use Rattle.samoa_model.specs.declared.handler.Moment.{Moment}
use Rattle.samoa_model.specs.declared.handler.Outcome.{Outcome}
use Rattle.samoa_model.specs.declared.ids.MicroId.{MicroId}
use Rattle.samoa_model.specs.declared.ids.NodeId.{NodeId}
use Rattle.samoa_model.specs.declared.record.Step.{Step}
use Rattle.samoa_model.specs.declared.script.Script.{Script}
use Rattle.samoa_bind.specs.Bound.{table_at}
use Rattle.samoa_calls.specs.Held.{handlers_of}
use Rattle.samoa_calls.specs.Handed.{AreNamed, IsNamed, ended_at}
use Rattle.samoa_serial.specs.declared.call.Active.{Active}
use Rattle.samoa_serial.specs.declared.call.Call.{Call}
use Rattle.samoa_serial.specs.Alone.{next_step}
use Rattle.samoa_serial.specs.Calls.{Computation, take_outcome}
use Rattle.samoa_serial.specs.Kinds.{Seen, after_step, outcome_of}
use Rattle.samoa_serial.specs.State.{State}
use Rattle.samoa_serial.specs.World.{attempts_of}
use Rattle.samoa_invariant.specs.Play.{Play}
use Rattle.samoa_invariant.specs.Slots.{put_at}
use Rattle.samoa_invariant.specs.State as model
use Rattle.samoa_invariant.specs.State.{put}
use Rattle.samoa_invariant.specs.Runs.{IsDue, Trace, after_step as stepped, ext_at, play, state}
use Rattle.samoa_invariant.proofs.preservation.Bounds.{head_is}
use Rattle.samoa_invariant.proofs.preservation.Slots.{put-else, put-here, put_at-else, put_at-here}
use Rattle.samoa_invariant.proofs.representation.Traces.{invariant}
use Rattle.samoa_versions.specs.Counters.{Counters, IsTurn}
use Rattle.samoa_control.specs.Forms.{risen}
use Rattle.samoa_control.specs.Grids.{Grid}
use Rattle.samoa_control.specs.Leaving.{TakesOutcome, taken}
use Rattle.samoa_control.specs.Places.{away_in, seen_in, slot_in, unless_out}
use Rattle.samoa_control.specs.Running.{IsRunning, turn_of}
use Rattle.samoa_control.specs.declared.running.Running.{Running}
use Rattle.samoa_control.specs.declared.running.Interval.{Interval}
use Rattle.samoa_control.specs.Since.{cleared_comps}
use Rattle.samoa_control.specs.Slots.{Slotted}
use Rattle.samoa_control.specs.Turns.{HasCome, IsNext, box_of}
use Rattle.samoa_control.specs.Kept.{Fields, Holds, Kept, Runs, trace_of, unended}
use Rattle.samoa_control.proofs.Counts.{away-back, away-most, away-out, unended-end}
use Rattle.samoa_control.proofs.Facts.{next-declared, next-within, same-call, sound}
use Rattle.samoa_control.proofs.Grids.{each-set, grid-put, grid-set, item_at}
use Rattle.std.proofs.lemmas.List.{length-set}
use Rattle.samoa_control.proofs.Keeps.{kept-with, moved, place-within, runs-at, runs-on}
use Rattle.samoa_control.proofs.Names.{named-step}
use Rattle.samoa_control.proofs.Rising.{grid-risen}
use Rattle.samoa_control.proofs.Rules.{decl-within}
use Rattle.samoa_control.proofs.Toll.{IsOutAt, out_at}
use Rattle.samoa_control.proofs.Versioned.{local-is, out-below, slot-within}

-- a step of a computation that is due, at a microprotocol: what its call knows
pub record AtStep (t : Trace) (comp p : ℕ) (step : Step) (node : NodeId) : Type 0 where
  pub due : IsDue t step
  pub since : cleared_comps t < comp
  pub admitted : comp - 1 < (state t).count
  pub within : p < length t.script.micros
  pub is_at : node ≡ (ext_at t.exts (comp - 1)).node

pub at-step : (fs : Fields) (t : Trace) (comp p : ℕ) (step : Step) (r : Running) → trace_of fs ≡ t → IsDue t step → cleared_comps t < comp → p < length t.script.micros
    → IsRunning t.script t.exts (state t) (comp - 1) r → AtStep (trace_of fs) comp p step r.node
at-step fs t comp p step r view due since within is =
    subst (λ (x : Trace). AtStep x comp p step r.node) (sym view) (record { due = due; since = since; admitted = is.admitted; within = within; is_at = is.node })

is_there : (fs : Fields) (comp : ℕ) → Kept fs → comp - 1 < (state (trace_of fs)).count → comp - 1 < length fs.exts
is_there fs comp kept lt = let all : (state (trace_of fs)).count ≡ length fs.exts = kept.holds.admitted in omega (arith, lt, all)

node-within : (fs : Fields) (comp : ℕ) → Kept fs → comp - 1 < (state (trace_of fs)).count → (ext_at fs.exts (comp - 1)).node.0 < fs.script.nodes
node-within fs comp kept lt = (kept.known (comp - 1) (is_there fs comp kept lt)).node

-- a box is written into its slot
boxes-set : (fs : Fields) (after : model.Core) (v p : ℕ) (node : NodeId) (x : Option Seen) → Kept fs → v < fs.script.nodes → p < length fs.script.micros → node.0 ≡ v
    → slot_in fs.script after v p ≡ x → ((i j : ℕ) → (i ≢ v) ⊎ (j ≢ p) → slot_in fs.script after i j ≡ slot_in fs.script (state (trace_of fs)) i j)
    → Grid fs.script.nodes (length fs.script.micros) (set fs.slots.boxes (node.0 * fs.slots.micros + p) x) (slot_in fs.script after)
boxes-set fs after v p node x kept lt below is here others =
    rw (kept.micros, is)
    (grid-set fs.script.nodes (length fs.script.micros) fs.slots.boxes (slot_in fs.script (state (trace_of fs))) (slot_in fs.script after) v p x lt below kept.holds.slots here others)

-- what is in a slot, where its box is home
pub box-home : (fs : Fields) (node : NodeId) (v p : ℕ) → Kept fs → v < fs.script.nodes → p < length fs.script.micros → node.0 ≡ v → (state (trace_of fs)).out v p ≡ None
    → slice_get fs.slots.boxes (node.0 * fs.slots.micros + p) ≡ Some (Some (seen_in fs.script v p ((state (trace_of fs)).boxes v p)))
box-home fs node v p kept lt below is home =
    ap (λ (n : ℕ). slice_get fs.slots.boxes (node.0 * n + p)) kept.micros
    ∙ (ap (λ (n : ℕ). slice_get fs.slots.boxes (n * length fs.script.micros + p)) is
    ∙ (kept.holds.slots.value v p lt below
    ∙ ap (λ (o : Option ℕ). Some (unless_out o (seen_in fs.script v p ((state (trace_of fs)).boxes v p)))) home))

pub slot-home : (fs : Fields) (t : Trace) (node : NodeId) (p : ℕ) → trace_of fs ≡ t → Kept fs → node.0 < t.script.nodes → p < length t.script.micros → (state t).out node.0 p ≡ None
    → slice_get fs.slots.boxes (node.0 * fs.slots.micros + p) ≡ Some (Some (seen_in fs.script node.0 p ((state (trace_of fs)).boxes node.0 p)))
slot-home fs t node p view kept lt below home =
    box-home fs node node.0 p kept (subst (λ (x : Trace). node.0 < x.script.nodes) (sym view) lt) (subst (λ (x : Trace). p < length x.script.micros) (sym view) below) refl
    (subst (λ (x : Trace). (state x).out node.0 p ≡ None) (sym view) home)

-- whether a box is home
pub home-test : (fs : Fields) (t : Trace) (node : NodeId) (p : ℕ) (b : Bool) → trace_of fs ≡ t → Kept fs → node.0 < t.script.nodes → p < length t.script.micros
    → ((slot : Option Seen) → slice_get fs.slots.boxes (node.0 * fs.slots.micros + p) ≡ Some slot → b ≡ is_some slot) → (b ≡ true) ↔ ((state t).out node.0 p ≡ None)
home-test fs t node p b view kept lt below test =
    subst (λ (x : Trace). (b ≡ true) ↔ ((state x).out node.0 p ≡ None)) view (go ((state (trace_of fs)).out node.0 p) refl)
  where
    is : b ≡ is_some (slot_in fs.script (state (trace_of fs)) node.0 p)
    is = test (slot_in fs.script (state (trace_of fs)) node.0 p)
        (ap (λ (n : ℕ). slice_get fs.slots.boxes (node.0 * n + p)) kept.micros
        ∙ kept.holds.slots.value node.0 p (subst (λ (x : Trace). node.0 < x.script.nodes) (sym view) lt) (subst (λ (x : Trace). p < length x.script.micros) (sym view) below))

    go : (o : Option ℕ) → (state (trace_of fs)).out node.0 p ≡ o → (b ≡ true) ↔ ((state (trace_of fs)).out node.0 p ≡ None)
    go None e = ((λ yes. e), (λ none. is ∙ ap (λ (o : Option ℕ). is_some (unless_out o (seen_in fs.script node.0 p ((state (trace_of fs)).boxes node.0 p)))) e))
    go (Some k) e =
        let out : b ≡ false = is ∙ ap (λ (o : Option ℕ). is_some (unless_out o (seen_in fs.script node.0 p ((state (trace_of fs)).boxes node.0 p)))) e in
        ((λ yes. cc), (λ none. cc))

pub box-here : (fs : Fields) (comp p : ℕ) (node : NodeId) → Kept fs → AtStep (trace_of fs) comp p (Step.Enter comp p) node
    → slice_get fs.slots.boxes (node.0 * fs.slots.micros + p) ≡ Some (Some (box_of (trace_of fs) comp p))
box-here fs comp p node kept at =
    box-home fs node (ext_at fs.exts (comp - 1)).node.0 p kept (node-within fs comp kept at.admitted) at.within (ap (λ (n : NodeId). n.0) at.is_at) at.due.enabled.home

pub kept-enter : (fs : Fields) (comp p : ℕ) (node : NodeId) → Kept fs → AtStep (trace_of fs) comp p (Step.Enter comp p) node
    → Kept (moved fs (Step.Enter comp p) fs.local (record fs.slots { boxes = set fs.slots.boxes (node.0 * fs.slots.micros + p) None }) fs.running fs.unended (fs.away + 1) fs.stopped)
kept-enter fs comp p node kept at =
    let core : model.Core = state (trace_of fs) in
    let k : ℕ = comp - 1 in
    let v : ℕ = (ext_at fs.exts k).node.0 in
    let after : model.Core = model.enter (play (trace_of fs)) core k p in
    let lt : v < fs.script.nodes = node-within fs comp kept at.admitted in
    let home : core.out v p ≡ None = at.due.enabled.home in
    kept-with fs (Step.Enter comp p) fs.local (record fs.slots { boxes = set fs.slots.boxes (node.0 * fs.slots.micros + p) None }) fs.running fs.unended (fs.away + 1) fs.stopped kept at.due tt kept.micros
    (record {
      admitted = kept.holds.admitted;
      held = kept.holds.held;
      within = kept.holds.within;
      present = kept.holds.present;
      global = kept.holds.global;
      local = kept.holds.local;
      slots = boxes-set fs after v p node None kept lt at.within (ap (λ (n : NodeId). n.0) at.is_at)
          (ap (λ (o : Option ℕ). unless_out o (seen_in fs.script v p (core.boxes v p))) (put_at-here {A = Option ℕ} core.out v p v p (Some k) refl refl))
          (λ i j ne. ap (λ (o : Option ℕ). unless_out o (seen_in fs.script i j (core.boxes i j))) (put_at-else {A = Option ℕ} core.out v p i j (Some k) ne));
      size = kept.holds.size;
      running = λ i r is. let old = kept.holds.running i r is in runs-on fs.script fs.tables fs.exts fs.exts core after (fs.first + i) r old.is.admitted refl (λ u q. refl) refl refl refl old;
      past = kept.holds.past;
      unended = kept.holds.unended;
      away = (let was : fs.away ≡ away_in fs.script core = kept.holds.away in
          let more : away_in fs.script after ≡ away_in fs.script core + 1 = away-out fs.script core after v p k lt at.within refl home in
          omega (arith, was, more));
      stopped = kept.holds.stopped;
    })

-- a handler step that is out
pub out_there : (fs : Fields) (comp : ℕ) → Kept fs → model.CanLeave (play (trace_of fs)) (state (trace_of fs)) (comp - 1) → IsOutAt (play (trace_of fs)) (state (trace_of fs)) (comp - 1)
out_there fs comp kept can = out_at (play (trace_of fs)) (state (trace_of fs)) (comp - 1) (invariant (trace_of fs) kept.is_run) can

out_is : (fs : Fields) (comp : ℕ) (call : Call) (m : Moment) → Kept fs → model.CanLeave (play (trace_of fs)) (state (trace_of fs)) (comp - 1)
    → next_step ((state (trace_of fs)).comp (comp - 1)) ≡ Some (call, m) → (state (trace_of fs)).out (ext_at fs.exts (comp - 1)).node.0 call.handler.micro.0 ≡ Some (comp - 1)
out_is fs comp call m kept can next =
    let out : IsOutAt (play (trace_of fs)) (state (trace_of fs)) (comp - 1) = out_there fs comp kept can in
    let same : out.call ≡ call = same-call _ out.call call out.moment m out.next next in
    subst (λ (c : Call). (state (trace_of fs)).out (ext_at fs.exts (comp - 1)).node.0 c.handler.micro.0 ≡ Some (comp - 1)) same out.out

if_ended : (c : Call) (o : Outcome) (P : MicroId → Type 0) → P c.handler.micro → IfSome (ended_at c o) P
if_ended c (Outcome.Done reply) P h = h
if_ended c (Outcome.Call event arg frame) P h = tt
if_ended c (Outcome.Later event arg frame) P h = tt
if_ended c (Outcome.Send to event arg frame) P h = tt
if_ended c (Outcome.Deliver arg frame) P h = tt
if_ended c (Outcome.Change change arg frame) P h = tt

-- what comes of a handler step that is out
pub record Comes (t : Trace) (comp p : ℕ) (node : NodeId) (held : Seen) (o : Outcome) : Type 0 where
  pub at : AtStep t comp p (Step.Leave comp) node
  pub come : HasCome t comp p held o

-- the computation takes it
pub takes : (fs : Fields) (comp p : ℕ) (node : NodeId) (held : Seen) (o : Outcome) (versions : Counters) (r : Running) → versions ≡ record { gv = fs.global; lv = fs.local } → Kept fs
    → Comes (trace_of fs) comp p node held o → Runs fs.script fs.tables fs.exts (state (trace_of fs)) (comp - 1) r → TakesOutcome fs.script fs.tables versions r o
takes fs comp p node held o versions r is_versions kept comes runs =
    let core : model.Core = state (trace_of fs) in
    let at = comes.at in
    let k : ℕ = comp - 1 in
    let v : ℕ = (ext_at fs.exts k).node.0 in
    let call : Call = comes.come.call in
    let q : ℕ = call.handler.micro.0 in
    let lt : k < length fs.exts = is_there fs comp kept at.admitted in
    let head = head_is (core.comp k) call comes.come.moment comes.come.next in
    let inside : q < length fs.script.micros = subst (λ (n : ℕ). n < length fs.script.micros) (sym comes.come.is_at) at.within in
    let lt_node : v < fs.script.nodes = node-within fs comp kept at.admitted in
    let out : core.out v q ≡ Some k = out_is fs comp call comes.come.moment kept at.due.enabled comes.come.next in
    record {
      decl = subst (λ (n : ℕ). n < length fs.script.decls) (sym runs.is.decl) (decl-within fs.script (ext_at fs.exts k) kept.in_range (kept.known k lt));
      first = head.0;
      rest = head.1;
      active = ap (λ (d : Computation). d.active) runs.is.comp ∙ head.2;
      epoch = runs.table.epoch;
      counted = kept.tables.counted r.node r.epoch runs.table.epoch;
      listed = runs.is.waiting
          ∙ (ap (λ (d : Computation). handlers_of (core.table k) d.waiting) (sym runs.is.comp) ∙ ap (λ (x : Table). handlers_of x r.calls.comp.waiting) (sym runs.table.table));
      waiting_named = subst (λ (x : Table). AreNamed x r.calls.comp.waiting) (sym runs.table.table)
          (subst (λ (d : Computation). AreNamed (core.table k) d.waiting) (sym runs.is.comp) runs.table.named);
      named = subst (λ (x : Outcome). IsNamed (table_at fs.tables r.node r.epoch) x) (sym comes.come.gives)
          (named-step fs.script (table_at fs.tables r.node r.epoch) v p (core.boxes v p) comes.come.moment kept.in_range (kept.tables.events r.node r.epoch runs.table.epoch));
      there = rw (is_versions, head.3, runs.is.node) (if_ended call o (λ (micro : MicroId). v * length fs.script.micros + micro.0 < length fs.global) (slot-within fs v q kept lt_node inside));
      below = rw (is_versions, head.3, runs.is.node) (if_ended call o (λ (micro : MicroId). get_or fs.local (v * length fs.script.micros + micro.0) 0 < get_or fs.global (v * length fs.script.micros + micro.0) 0)
          (out-below fs k v q kept lt_node inside out));
    }

-- a slot whose box is home again
slot-back : (script : Script) (core : model.Core) (v p i j : ℕ) (s : State) → (i ≢ v) ⊎ (j ≢ p)
    → unless_out (put_at core.out v p None i j) (seen_in script i j (put_at core.boxes v p s i j)) ≡ slot_in script core i j
slot-back script core v p i j s ne =
    ap (λ (o : Option ℕ). unless_out o (seen_in script i j (put_at core.boxes v p s i j))) (put_at-else {A = Option ℕ} core.out v p i j None ne)
    ∙ ap (λ (b : State). unless_out (core.out i j) (seen_in script i j b)) (put_at-else {A = State} core.boxes v p i j s ne)

slot-back-here : (script : Script) (core : model.Core) (v p : ℕ) (s : State)
    → unless_out (put_at core.out v p None v p) (seen_in script v p (put_at core.boxes v p s v p)) ≡ Some (seen_in script v p s)
slot-back-here script core v p s =
    ap (λ (o : Option ℕ). unless_out o (seen_in script v p (put_at core.boxes v p s v p))) (put_at-here {A = Option ℕ} core.out v p v p None refl refl)
    ∙ ap (λ (b : State). Some (seen_in script v p b)) (put_at-here {A = State} core.boxes v p v p s refl refl)

-- the calls that took the outcome are those of the model
pub taken-runs : (fs : Fields) (k : ℕ) (c : Call) (m : Moment) (o : Outcome) (r : Running) → Runs fs.script fs.tables fs.exts (state (trace_of fs)) k r
    → o ≡ ((play (trace_of fs)).step k c.handler.micro ((state (trace_of fs)).boxes ((play (trace_of fs)).node k) c.handler.micro.0) m).1
    → AreNamed (table_at fs.tables r.node r.epoch) (taken fs.script fs.tables r o).calls.comp.waiting
    → Runs fs.script fs.tables fs.exts (model.leave_at (play (trace_of fs)) (state (trace_of fs)) k c m) k (taken fs.script fs.tables r o)
taken-runs fs k c m o r runs gives named =
    let P : Play = play (trace_of fs) in
    let core : model.Core = state (trace_of fs) in
    let new : Outcome = (P.step k c.handler.micro (core.boxes (P.node k) c.handler.micro.0) m).1 in
    let here : (model.leave_at P core k c m).comp k ≡ take_outcome (attempts_of (P.decl k) (core.table k)) (core.comp k) new =
    put-here {A = Computation} core.comp k k (take_outcome (attempts_of (P.decl k) (core.table k)) (core.comp k) new) refl in
    let comp : (taken fs.script fs.tables r o).calls.comp ≡ (model.leave_at P core k c m).comp k =
    rw (runs.is.comp, runs.is.decl, runs.table.table, gives) (sym here) in
    record {
      is = record {
        admitted = runs.is.admitted;
        node = runs.is.node;
        decl = runs.is.decl;
        turns = record { size = runs.is.turns.size; value = runs.is.turns.value };
        comp = comp;
        waiting = ap (λ (x : Table). handlers_of x (taken fs.script fs.tables r o).calls.comp.waiting) runs.table.table
            ∙ ap (λ (d : Computation). handlers_of (core.table k) d.waiting) comp;
        ended = runs.is.ended;
      };
      table = record {
        epoch = runs.table.epoch;
        table = runs.table.table;
        named = subst (λ (d : Computation). AreNamed (core.table k) d.waiting) comp (subst (λ (x : Table). AreNamed x (taken fs.script fs.tables r o).calls.comp.waiting) runs.table.table named);
      };
    }

pub kept-leave : (fs : Fields) (comp p : ℕ) (node : NodeId) (held : Seen) (o : Outcome) (r : Running) → Kept fs → (comes : Comes (trace_of fs) comp p node held o)
    → slice_get fs.running (comp - 1 - fs.first) ≡ Some r → AreNamed (table_at fs.tables r.node r.epoch) (taken fs.script fs.tables r o).calls.comp.waiting
    → Kept (moved fs (Step.Leave comp)
    (risen ((play (trace_of fs)).decl (comp - 1)) (length fs.script.micros) ((play (trace_of fs)).node (comp - 1)) (ended_at comes.come.call o) fs.local)
    (record fs.slots { boxes = set fs.slots.boxes (node.0 * fs.slots.micros + p) (Some held) })
    (set fs.running (comp - 1 - fs.first) (taken fs.script fs.tables r o)) fs.unended (fs.away - 1) fs.stopped)
kept-leave fs comp p node held o r kept comes at_place named =
    let P : Play = play (trace_of fs) in
    let core : model.Core = state (trace_of fs) in
    let at = comes.at in
    let k : ℕ = comp - 1 in
    let v : ℕ = P.node k in
    let c : Call = comes.come.call in
    let m : Moment = comes.come.moment in
    let q : ℕ = c.handler.micro.0 in
    let after : model.Core = model.leave_at P core k c m in
    let is : stepped P core (Step.Leave comp) ≡ after = ap (λ (x : Option (Call × Moment)). model.leave_next P core k x) comes.come.next in
    let same : q ≡ p = comes.come.is_at in
    let inside : q < length fs.script.micros = subst (λ (n : ℕ). n < length fs.script.micros) (sym same) at.within in
    let lt : v < fs.script.nodes = node-within fs comp kept at.admitted in
    let runs : Runs fs.script fs.tables fs.exts core k r = runs-at fs comp r kept at.since at_place in
    let out : core.out v q ≡ Some k = out_is fs comp c m kept at.due.enabled comes.come.next in
    let result : State × Outcome = P.step k c.handler.micro (core.boxes v q) m in
    let gives : o ≡ result.1 = comes.come.gives ∙ ap (λ (n : ℕ). outcome_of (box_of (trace_of fs) comp n) m) (sym same) in
    let box : held ≡ seen_in fs.script v q result.0 = comes.come.box ∙ ap (λ (n : ℕ). after_step (box_of (trace_of fs) comp n) m) (sym same) in
    let slots : Slotted = record fs.slots { boxes = set fs.slots.boxes (node.0 * fs.slots.micros + p) (Some held) } in
    let local : List ℕ = risen (P.decl k) (length fs.script.micros) v (ended_at c o) fs.local in
    let running : List Running = set fs.running (k - fs.first) (taken fs.script fs.tables r o) in
    let next : Fields = moved fs (Step.Leave comp) local slots running fs.unended (fs.away - 1) fs.stopped in
    let first : fs.first ≡ cleared_comps (trace_of fs) = kept.first in
    let since = at.since in
    let holds : Holds next after = record {
      admitted = kept.holds.admitted;
      held = kept.holds.held;
      within = kept.holds.within;
      present = kept.holds.present;
      global = kept.holds.global;
      local = rw gives (grid-risen (P.decl k) c result.1 fs.script.nodes (length fs.script.micros) fs.local core.local v lt inside
          (next-declared (trace_of fs) k c m kept.is_run runs.is.admitted comes.come.next) kept.holds.local);
      slots = rw box (subst (λ (n : ℕ). Grid fs.script.nodes (length fs.script.micros) (set fs.slots.boxes (node.0 * fs.slots.micros + n) (Some (seen_in fs.script v q result.0))) (slot_in fs.script after)) same
          (boxes-set fs after v q node (Some (seen_in fs.script v q result.0)) kept lt inside (ap (λ (n : NodeId). n.0) at.is_at)
          (slot-back-here fs.script core v q result.0) (λ i j ne. slot-back fs.script core v q i j result.0 ne)));
      size = length-set fs.running (k - fs.first) (taken fs.script fs.tables r o) ∙ kept.holds.size;
      running = each-set fs.running (k - fs.first) (taken fs.script fs.tables r o) (λ i x. Runs fs.script fs.tables fs.exts after (fs.first + i) x)
          (subst (λ (j : ℕ). Runs fs.script fs.tables fs.exts after j (taken fs.script fs.tables r o)) (let e : comp - 1 ≡ fs.first + (comp - 1 - fs.first) = omega (arith, first, since) in e)
          (taken-runs fs k c m o r runs gives named))
          (λ i x ne there. let old = kept.holds.running i x there in
          runs-on fs.script fs.tables fs.exts fs.exts core after (fs.first + i) x old.is.admitted refl (λ u n. refl)
          (put-else {A = Computation} core.comp k (fs.first + i) _ (λ e. ne (omega (arith, e)))) refl refl old);
      past = kept.holds.past;
      unended = kept.holds.unended;
      away = (let was : fs.away ≡ away_in fs.script core = kept.holds.away in
          let less : away_in fs.script after + 1 ≡ away_in fs.script core = away-back fs.script core after v q k lt inside refl out in
          omega (arith, was, less));
      stopped = kept.holds.stopped;
    } in
    kept-with fs (Step.Leave comp) local slots running fs.unended (fs.away - 1) fs.stopped kept at.due tt kept.micros (subst (λ (x : model.Core). Holds next x) (sym is) holds)

-- what comes back undone
pub record Returns (t : Trace) (comp p : ℕ) (node : NodeId) (held : Seen) : Type 0 where
  pub at : AtStep t comp p (Step.Abandon comp) node
  pub moment : Moment
  pub next : IsNext t (record { comp = comp; micro = p; moment = moment; before = held })

pub kept-abandon : (fs : Fields) (comp p : ℕ) (node : NodeId) (held : Seen) → Kept fs → Returns (trace_of fs) comp p node held
    → Kept (moved fs (Step.Abandon comp) fs.local (record fs.slots { boxes = set fs.slots.boxes (node.0 * fs.slots.micros + p) (Some held) }) fs.running fs.unended (fs.away - 1) true)
kept-abandon fs comp p node held kept back =
    let P : Play = play (trace_of fs) in
    let core : model.Core = state (trace_of fs) in
    let at = back.at in
    let k : ℕ = comp - 1 in
    let v : ℕ = P.node k in
    let after : model.Core = model.abandon P core k p in
    let is : stepped P core (Step.Abandon comp) ≡ after =
    ap (λ (x : Option (Call × Moment)). model.abandon_next P core k x) back.next.next ∙ ap (λ (n : ℕ). model.abandon P core k n) back.next.is_at in
    let lt : v < fs.script.nodes = node-within fs comp kept at.admitted in
    let out : core.out v p ≡ Some k = subst (λ (n : ℕ). core.out v n ≡ Some k) back.next.is_at (out_is fs comp back.next.call back.moment kept at.due.enabled back.next.next) in
    let slots : Slotted = record fs.slots { boxes = set fs.slots.boxes (node.0 * fs.slots.micros + p) (Some held) } in
    let next : Fields = moved fs (Step.Abandon comp) fs.local slots fs.running fs.unended (fs.away - 1) true in
    let holds : Holds next after = record {
      admitted = kept.holds.admitted;
      held = kept.holds.held;
      within = kept.holds.within;
      present = kept.holds.present;
      global = kept.holds.global;
      local = kept.holds.local;
      slots = boxes-set fs after v p node (Some held) kept lt at.within (ap (λ (n : NodeId). n.0) at.is_at)
          (ap (λ (x : Option ℕ). unless_out x (seen_in fs.script v p (core.boxes v p))) (put_at-here {A = Option ℕ} core.out v p v p None refl refl) ∙ ap (λ (x : Seen). Some x) (sym back.next.before))
          (λ i j ne. ap (λ (x : Option ℕ). unless_out x (seen_in fs.script i j (core.boxes i j))) (put_at-else {A = Option ℕ} core.out v p i j None ne));
      size = kept.holds.size;
      running = λ i r there. let old = kept.holds.running i r there in runs-on fs.script fs.tables fs.exts fs.exts core after (fs.first + i) r old.is.admitted refl (λ u q. refl) refl refl refl old;
      past = kept.holds.past;
      unended = kept.holds.unended;
      away = (let was : fs.away ≡ away_in fs.script core = kept.holds.away in
          let less : away_in fs.script after + 1 ≡ away_in fs.script core = away-back fs.script core after v p k lt at.within refl out in
          omega (arith, was, less));
      stopped = refl;
    } in
    kept-with fs (Step.Abandon comp) fs.local slots fs.running fs.unended (fs.away - 1) true kept at.due tt kept.micros (subst (λ (x : model.Core). Holds next x) (sym is) holds)

-- what a release sets
pub kept-release : (fs : Fields) (comp p x : ℕ) (node : NodeId) → Kept fs → AtStep (trace_of fs) comp p (Step.Release comp p) node
    → x ≡ (state (trace_of fs)).private (comp - 1) node.0 p
    → Kept (moved fs (Step.Release comp p) (set fs.local (node.0 * length fs.script.micros + p) x) fs.slots fs.running fs.unended fs.away fs.stopped)
kept-release fs comp p x node kept at e =
    let core : model.Core = state (trace_of fs) in
    let k : ℕ = comp - 1 in
    let v : ℕ = (play (trace_of fs)).node k in
    let after : model.Core = model.release (play (trace_of fs)) core k p in
    let is : node.0 ≡ v = ap (λ (n : NodeId). n.0) at.is_at in
    kept-with fs (Step.Release comp p) (set fs.local (node.0 * length fs.script.micros + p) x) fs.slots fs.running fs.unended fs.away fs.stopped kept at.due tt kept.micros
    (record {
      admitted = kept.holds.admitted;
      held = kept.holds.held;
      within = kept.holds.within;
      present = kept.holds.present;
      global = kept.holds.global;
      local = rw (e, is) (grid-put fs.script.nodes (length fs.script.micros) fs.local core.local v p (core.private k v p) (node-within fs comp kept at.admitted) at.within kept.holds.local);
      slots = kept.holds.slots;
      size = kept.holds.size;
      running = λ i r there. let old = kept.holds.running i r there in runs-on fs.script fs.tables fs.exts fs.exts core after (fs.first + i) r old.is.admitted refl (λ u q. refl) refl refl refl old;
      past = kept.holds.past;
      unended = kept.holds.unended;
      away = kept.holds.away;
      stopped = kept.holds.stopped;
    })

-- the turn that is kept of a computation
pub turn-here : (fs : Fields) (t : Trace) (comp p : ℕ) (r : Running) (node : NodeId) (turn : Interval) → trace_of fs ≡ t → p < length t.script.micros
    → IsRunning t.script t.exts (state t) (comp - 1) r → node ≡ (ext_at t.exts (comp - 1)).node → slice_get r.turns.items p ≡ Some turn → turn ≡ turn_of (state (trace_of fs)) (comp - 1) node.0 p
turn-here fs t comp p r node turn view below is is_at there =
    let same : Some turn ≡ Some (turn_of (state t) (comp - 1) (ext_at t.exts (comp - 1)).node.0 p) = sym there ∙ is.turns.value p below in
    let here : turn ≡ turn_of (state t) (comp - 1) (ext_at t.exts (comp - 1)).node.0 p = cc in
    here ∙ (ap (λ (n : NodeId). turn_of (state t) (comp - 1) n.0 p) (sym is_at) ∙ ap (λ (x : Trace). turn_of (state x) (comp - 1) node.0 p) (sym view))

-- the turn that a release ends
pub turn_is : (fs : Fields) (comp p : ℕ) (node : NodeId) (slot : ℕ) (turn : Interval) → Kept fs → AtStep (trace_of fs) comp p (Step.Release comp p) node
    → slot ≡ node.0 * length fs.script.micros + p → turn ≡ turn_of (state (trace_of fs)) (comp - 1) node.0 p
    → (slot < length fs.global) × IsTurn (get_or fs.local slot 0) turn.from turn.to
turn_is fs comp p node slot turn kept at is_slot is_turn =
    let core : model.Core = state (trace_of fs) in
    let k : ℕ = comp - 1 in
    let v : ℕ = (play (trace_of fs)).node k in
    let lt : v < fs.script.nodes = node-within fs comp kept at.admitted in
    let from = at.due.enabled.turn.from in
    let below = at.due.enabled.turn.below in
    let here = local-is fs v p kept lt at.within in
    rw (is_turn, is_slot, ap (λ (n : NodeId). n.0) at.is_at)
    (slot-within fs v p kept lt at.within, record { from = omega (arith, here, from); below = omega (arith, here, below) })

pub kept-end : (fs : Fields) (comp : ℕ) (r : Running) → Kept fs → IsDue (trace_of fs) (Step.End comp) → cleared_comps (trace_of fs) < comp
    → slice_get fs.running (comp - 1 - fs.first) ≡ Some r
    → Kept (moved fs (Step.End comp) fs.local fs.slots (set fs.running (comp - 1 - fs.first) (record r { ended = true })) (fs.unended - 1) fs.away fs.stopped)
kept-end fs comp r kept due since there =
    let core : model.Core = state (trace_of fs) in
    let k : ℕ = comp - 1 in
    let after : model.Core = model.finish core k in
    let first : fs.first ≡ cleared_comps (trace_of fs) = kept.first in
    let ended : Running = record r { ended = true } in
    let runs : Runs fs.script fs.tables fs.exts core k r = runs-at fs comp r kept since there in
    let mine : Runs fs.script fs.tables fs.exts after k ended = record {
      is = record {
        admitted = runs.is.admitted;
        node = runs.is.node;
        decl = runs.is.decl;
        turns = record { size = runs.is.turns.size; value = runs.is.turns.value };
        comp = runs.is.comp;
        waiting = runs.is.waiting;
        ended = sym (put-here {A = Bool} core.ended k k true refl);
      };
      table = record { epoch = runs.table.epoch; table = runs.table.table; named = runs.table.named };
    } in
    kept-with fs (Step.End comp) fs.local fs.slots (set fs.running (k - fs.first) ended) (fs.unended - 1) fs.away fs.stopped kept due tt kept.micros
    (record {
      admitted = kept.holds.admitted;
      held = kept.holds.held;
      within = kept.holds.within;
      present = kept.holds.present;
      global = kept.holds.global;
      local = kept.holds.local;
      slots = kept.holds.slots;
      size = length-set fs.running (k - fs.first) ended ∙ kept.holds.size;
      running = each-set fs.running (k - fs.first) ended (λ i x. Runs fs.script fs.tables fs.exts after (fs.first + i) x)
          (subst (λ (j : ℕ). Runs fs.script fs.tables fs.exts after j ended) (let e : comp - 1 ≡ fs.first + (comp - 1 - fs.first) = omega (arith, first, since) in e) mine)
          (λ i x ne is. let old = kept.holds.running i x is in
          runs-on fs.script fs.tables fs.exts fs.exts core after (fs.first + i) x old.is.admitted refl (λ u n. refl) refl refl
          (put-else {A = Bool} core.ended k (fs.first + i) true (λ e. ne (omega (arith, e)))) old);
      past = λ j less. put-else {A = Bool} core.ended k j true (λ e. omega (arith, e, less, first, since)) ∙ kept.holds.past j less;
      unended = (let was : fs.unended ≡ unended core = kept.holds.unended in
          let less : unended after + 1 ≡ unended core = unended-end core k due.enabled.admitted due.enabled.not_ended in
          omega (arith, was, less));
      away = kept.holds.away;
      stopped = kept.holds.stopped;
    })

-- how many are out and unended
pub away-fits : (fs : Fields) → Kept fs → fs.away ≤ 192
away-fits fs kept =
    let is : fs.away ≡ away_in fs.script (state (trace_of fs)) = kept.holds.away in
    let most : away_in fs.script (state (trace_of fs)) ≤ fs.script.nodes * (length fs.script.micros * 1) = away-most fs.script (state (trace_of fs)) in
    let nodes : fs.script.nodes ≤ 8 = kept.in_range.few_nodes in
    let micros : length fs.script.micros ≤ 24 = kept.in_range.few_micros in
    let all : fs.script.nodes * (length fs.script.micros * 1) ≤ 8 * 24 = mul-le fs.script.nodes (length fs.script.micros * 1) 8 24 nodes (omega (arith, micros)) in
    omega (arith, is, most, all)

pub some-away : (fs : Fields) (comp : ℕ) → Kept fs → model.CanLeave (play (trace_of fs)) (state (trace_of fs)) (comp - 1) → 0 < fs.away
some-away fs comp kept can =
    let core : model.Core = state (trace_of fs) in
    let out : IsOutAt (play (trace_of fs)) core (comp - 1) = out_there fs comp kept can in
    let v : ℕ = (ext_at fs.exts (comp - 1)).node.0 in
    let q : ℕ = out.call.handler.micro.0 in
    let is : fs.away ≡ away_in fs.script core = kept.holds.away in
    let less : away_in fs.script (model.abandon (play (trace_of fs)) core (comp - 1) q) + 1 ≡ away_in fs.script core =
    away-back fs.script core (model.abandon (play (trace_of fs)) core (comp - 1) q) v q (comp - 1) (node-within fs comp kept out.admitted)
    (next-within (trace_of fs) (comp - 1) out.call out.moment (sound fs kept) (is_there fs comp kept out.admitted) out.next) refl out.out in
    omega (arith, is, less)

pub some-unended : (fs : Fields) (comp : ℕ) → Kept fs → IsDue (trace_of fs) (Step.End comp) → 0 < fs.unended
some-unended fs comp kept due =
    let core : model.Core = state (trace_of fs) in
    let is : fs.unended ≡ unended core = kept.holds.unended in
    let less : unended (model.finish core (comp - 1)) + 1 ≡ unended core = unended-end core (comp - 1) due.enabled.admitted due.enabled.not_ended in
    omega (arith, is, less)

-- what is kept of a computation that a step is of
pub item-there : (fs : Fields) (comp : ℕ) → Kept fs → cleared_comps (trace_of fs) < comp → comp - 1 < (state (trace_of fs)).count → (r : Running) × (slice_get fs.running (comp - 1 - fs.first) ≡ Some r)
item-there fs comp kept since lt =
    let below : comp - 1 < length fs.exts = is_there fs comp kept lt in
    item_at {A = Running} fs.running (comp - 1 - fs.first) (place-within fs comp kept since (omega (arith, below)))

pub takes-there : (fs : Fields) (comp p : ℕ) (node : NodeId) (held : Seen) (o : Outcome) (versions : Counters) → versions ≡ record { gv = fs.global; lv = fs.local } → Kept fs
    → Comes (trace_of fs) comp p node held o → (r : Running) × (slice_get fs.running (comp - 1 - fs.first) ≡ Some r) × TakesOutcome fs.script fs.tables versions r o
takes-there fs comp p node held o versions is kept comes =
    let item = item-there fs comp kept comes.at.since comes.at.admitted in
    (item.0, item.1, takes fs comp p node held o versions item.0 is kept comes (runs-at fs comp item.0 kept comes.at.since item.1))

-- the fields after it
pub kept-left : (fs : Fields) (comp p : ℕ) (node : NodeId) (held : Seen) (o : Outcome) (running : List Running) (local : List ℕ) → Kept fs → Comes (trace_of fs) comp p node held o
    → ((r : Running) → slice_get fs.running (comp - 1 - fs.first) ≡ Some r → running ≡ set fs.running (comp - 1 - fs.first) (taken fs.script fs.tables r o))
    → ((r : Running) → slice_get fs.running (comp - 1 - fs.first) ≡ Some r → AreNamed (table_at fs.tables r.node r.epoch) (taken fs.script fs.tables r o).calls.comp.waiting)
    → ((r : Running) (a : Active) (rest : List Active) → slice_get fs.running (comp - 1 - fs.first) ≡ Some r → r.calls.comp.active ≡ a ∷ rest
    → local ≡ risen (decl_at fs.script r.calls.decl).decl (length fs.script.micros) r.node.0 (ended_at a.call o) fs.local)
    → Kept (moved fs (Step.Leave comp) local (record fs.slots { boxes = set fs.slots.boxes (node.0 * fs.slots.micros + p) (Some held) }) running fs.unended (fs.away - 1) fs.stopped)
kept-left fs comp p node held o running local kept comes taken_is named lv =
    let item = item-there fs comp kept comes.at.since comes.at.admitted in
    let r : Running = item.0 in
    let runs : Runs fs.script fs.tables fs.exts (state (trace_of fs)) (comp - 1) r = runs-at fs comp r kept comes.at.since item.1 in
    let head = head_is ((state (trace_of fs)).comp (comp - 1)) comes.come.call comes.come.moment comes.come.next in
    let active : r.calls.comp.active ≡ head.0 ∷ head.1 = ap (λ (d : Computation). d.active) runs.is.comp ∙ head.2 in
    let is_local : local ≡ risen ((play (trace_of fs)).decl (comp - 1)) (length fs.script.micros) ((play (trace_of fs)).node (comp - 1)) (ended_at comes.come.call o) fs.local =
    lv r head.0 head.1 item.1 active
    ∙ (ap (λ (n : ℕ). risen (decl_at fs.script n).decl (length fs.script.micros) r.node.0 (ended_at head.0.call o) fs.local) runs.is.decl
    ∙ (ap (λ (n : NodeId). risen ((play (trace_of fs)).decl (comp - 1)) (length fs.script.micros) n.0 (ended_at head.0.call o) fs.local) runs.is.node
    ∙ ap (λ (c : Call). risen ((play (trace_of fs)).decl (comp - 1)) (length fs.script.micros) ((play (trace_of fs)).node (comp - 1)) (ended_at c o) fs.local) head.3)) in
    rw (taken_is r item.1, is_local) (kept-leave fs comp p node held o r kept comes item.1 (named r item.1))

pub kept-ended : (fs : Fields) (comp : ℕ) (running : List Running) → Kept fs → IsDue (trace_of fs) (Step.End comp) → cleared_comps (trace_of fs) < comp
    → ((r : Running) → slice_get fs.running (comp - 1 - fs.first) ≡ Some r → running ≡ set fs.running (comp - 1 - fs.first) (record r { ended = true }))
    → Kept (moved fs (Step.End comp) fs.local fs.slots running (fs.unended - 1) fs.away fs.stopped)
kept-ended fs comp running kept due since is =
    let item = item-there fs comp kept since due.enabled.admitted in
    rw (is item.0 item.1) (kept-end fs comp item.0 kept due since item.1)

pub end-there : (fs : Fields) (comp : ℕ) → Kept fs → IsDue (trace_of fs) (Step.End comp) → cleared_comps (trace_of fs) < comp → comp - 1 - fs.first < length fs.running
end-there fs comp kept due since =
    let below : comp - 1 < length fs.exts = is_there fs comp kept due.enabled.admitted in
    place-within fs comp kept since (omega (arith, below))
