-- What is admitted later changes nothing of a run.
use Rattle.std.proofs.Common.{arith, ◌≡◌, ℕ, zero, suc, ◌+◌, ◌≤◌, ◌<◌, refl, sym, ap, subst, ◌∙◌, List, [], ◌∷◌, ◌-◌, length, Option, Some, None, Bool, true, false, if◌then◌else◌, min}
use Rattle.samoa_model.specs.declared.handler.Moment.{Moment}
use Rattle.samoa_model.specs.declared.record.Ext.{Ext}
use Rattle.samoa_model.specs.declared.record.Step.{Step}
use Rattle.samoa_model.specs.declared.script.Decl.{Decl}
use Rattle.samoa_model.specs.declared.script.Script.{Script}
use Rattle.samoa_model.specs.Allowed.{weight}
use Rattle.samoa_model.specs.Cells.{cells_of}
use Rattle.samoa_model.specs.Scripts.{caused, decl_of, first_table, root_of}
use Rattle.samoa_serial.specs.declared.call.Call.{Call}
use Rattle.samoa_serial.specs.Alone.{next_step}
use Rattle.samoa_serial.specs.SerialRun.{node_step, opening_states}
use Rattle.samoa_versions.specs.Counters.{IsTurn}
use Rattle.samoa_invariant.specs.Play.{Play}
use Rattle.samoa_invariant.specs.State as model
use Rattle.samoa_invariant.specs.State.{AllEnded, CanEnd, CanEnter, CanRelease, Core, HasTurn, Quiet}
use Rattle.samoa_invariant.specs.Runs.{IsRunFrom, after_step, clear_at, cleared, ext_at, is_clear, model_step, play_of, run_from}

-- a play whose external events are all this one
abbrev all_are : Script → Ext → Play
all_are script ext = record {
  first_states = opening_states script;
  first_tables = λ node. first_table script;
  node = λ k. ext.node.0;
  decl = λ k. (decl_of script ext).decl;
  change = λ k. caused script ext.cause;
  step = λ k. node_step script ext.node.0;
  budget = λ k. (decl_of script ext).budget;
  root = λ k. root_of script ext.cause;
  args = λ k. ext.args;
  cells = λ k. cells_of script ext;
  most_cells = 0;
  most = 0;
}

-- the computation that a step concerns
abbrev concerned : Core → model.Step → ℕ
concerned core model.Step.Admit = core.count
concerned core (model.Step.Enter k p) = k
concerned core (model.Step.Leave k) = k
concerned core (model.Step.Abandon k) = k
concerned core (model.Step.Release k p) = k
concerned core (model.Step.End k) = k
concerned core model.Step.Clear = zero

leave-one : (script : Script) (cells : ℕ) (xs : List Ext) (core : Core) (k : ℕ) (next : Option (Call × Moment))
    → model.leave_next (play_of script cells xs) core k next ≡ model.leave_next (all_are script (ext_at xs k)) core k next
leave-one script cells xs core k None = refl
leave-one script cells xs core k (Some next) = refl

abandon-one : (script : Script) (cells : ℕ) (xs : List Ext) (core : Core) (k : ℕ) (next : Option (Call × Moment))
    → model.abandon_next (play_of script cells xs) core k next ≡ model.abandon_next (all_are script (ext_at xs k)) core k next
abandon-one script cells xs core k None = refl
abandon-one script cells xs core k (Some next) = refl

-- a step looks at one external event alone
made-one : (script : Script) (cells : ℕ) (xs : List Ext) (core : Core) (step : model.Step)
    → model.made_by (play_of script cells xs) core step ≡ model.made_by (all_are script (ext_at xs (concerned core step))) core step
made-one script cells xs core model.Step.Admit = refl
made-one script cells xs core (model.Step.Enter k p) = refl
made-one script cells xs core (model.Step.Leave k) = leave-one script cells xs core k (next_step (core.comp k))
made-one script cells xs core (model.Step.Abandon k) = abandon-one script cells xs core k (next_step (core.comp k))
made-one script cells xs core (model.Step.Release k p) = refl
made-one script cells xs core (model.Step.End k) = refl
made-one script cells xs core model.Step.Clear = refl

pub made-same : (script : Script) (cells : ℕ) (xs ys : List Ext) (core : Core) (step : model.Step) → ext_at xs (concerned core step) ≡ ext_at ys (concerned core step)
    → model.made_by (play_of script cells xs) core step ≡ model.made_by (play_of script cells ys) core step
made-same script cells xs ys core step e =
    made-one script cells xs core step
    ∙ (ap (λ (x : Ext). model.made_by (all_are script x) core step) e ∙ sym (made-one script cells ys core step))

turn-same : (P Q : Play) (core : Core) (k p : ℕ) → P.node k ≡ Q.node k → HasTurn P core k p → HasTurn Q core k p
turn-same P Q core k p node turn = record {
  admitted = turn.admitted;
  turn = subst (λ (v : ℕ). IsTurn (core.local v p) (core.from k v p) (core.private k v p)) node turn.turn;
}

pub enter-same : (P Q : Play) (core : Core) (k p : ℕ) → P.node k ≡ Q.node k → CanEnter P core k p → CanEnter Q core k p
enter-same P Q core k p node can = record {
  next = can.next;
  not_out = can.not_out;
  turn = turn-same P Q core k p node can.turn;
  home = subst (λ (v : ℕ). core.out v p ≡ None) node can.home;
  running = can.running;
}

pub leaves-same : (P Q : Play) (core : Core) (k : ℕ) → P.node k ≡ Q.node k → model.CanLeave P core k → model.CanLeave Q core k
leaves-same P Q core k node can = record {
  slot = can.slot;
  out = record { admitted = can.out.admitted; out = subst (λ (v : ℕ). core.out v can.slot ≡ Some k) node can.out.out };
}

pub release-same : (P Q : Play) (core : Core) (k p : ℕ) → P.node k ≡ Q.node k → P.decl k ≡ Q.decl k → CanRelease P core k p → CanRelease Q core k p
release-same P Q core k p node decl can = record {
  turn = turn-same P Q core k p node can.turn;
  quiet = subst (λ (d : Decl). Quiet d (core.table k) (core.comp k) p) decl can.quiet;
}

pub end-same : (P Q : Play) (core : Core) (k : ℕ) → P.node k ≡ Q.node k → P.decl k ≡ Q.decl k → CanEnd P core k → CanEnd Q core k
end-same P Q core k node decl can = record {
  admitted = can.admitted;
  not_ended = can.not_ended;
  idle = can.idle;
  past = λ p w. subst (λ (v : ℕ). core.private k v p ≤ core.local v p) node (can.past p (subst (λ (d : Decl). 0 < weight d p) (sym decl) w));
}

-- a step that is enabled stays so where more is admitted later
pub enabled-same : (script : Script) (cells : ℕ) (xs ys : List Ext) (core : Core) (step : model.Step) → length xs ≤ length ys
    → ext_at xs (concerned core step) ≡ ext_at ys (concerned core step)
    → model.IsEnabled (play_of script cells xs) core step → model.IsEnabled (play_of script cells ys) core step
enabled-same script cells xs ys core model.Step.Admit le e can =
    let room : core.count < min (length xs) 100000 = can.room in
    record { room = omega arith; cells = subst (λ (x : Ext). core.cells + cells_of script x ≤ cells) e can.cells }
enabled-same script cells xs ys core (model.Step.Enter k p) le e can =
    enter-same (play_of script cells xs) (play_of script cells ys) core k p (ap (λ (x : Ext). x.node.0) e) can
enabled-same script cells xs ys core (model.Step.Leave k) le e can =
    leaves-same (play_of script cells xs) (play_of script cells ys) core k (ap (λ (x : Ext). x.node.0) e) can
enabled-same script cells xs ys core (model.Step.Abandon k) le e can =
    leaves-same (play_of script cells xs) (play_of script cells ys) core k (ap (λ (x : Ext). x.node.0) e) can
enabled-same script cells xs ys core (model.Step.Release k p) le e can =
    release-same (play_of script cells xs) (play_of script cells ys) core k p (ap (λ (x : Ext). x.node.0) e) (ap (λ (x : Ext). (decl_of script x).decl) e) can
enabled-same script cells xs ys core (model.Step.End k) le e can =
    end-same (play_of script cells xs) (play_of script cells ys) core k (ap (λ (x : Ext). x.node.0) e) (ap (λ (x : Ext). (decl_of script x).decl) e) can
enabled-same script cells xs ys core model.Step.Clear le e can = can

-- what a step concerns was admitted, and a step takes back no admission
record Counts (P : Play) (core : Core) (step : model.Step) : Type 0 where
  concerns : concerned core step < (model.made_by P core step).count
  grows : core.count ≤ (model.made_by P core step).count

pub leave_count : (P : Play) (core : Core) (k : ℕ) (next : Option (Call × Moment)) → (model.leave_next P core k next).count ≡ core.count
leave_count P core k None = refl
leave_count P core k (Some next) = refl

pub abandon_count : (P : Play) (core : Core) (k : ℕ) (next : Option (Call × Moment)) → (model.abandon_next P core k next).count ≡ core.count
abandon_count P core k None = refl
abandon_count P core k (Some next) = refl

counts : (P : Play) (core : Core) (step : Step) → model.IsEnabled P core (model_step step) → Counts P core (model_step step)
counts P core (Step.Admit comp) can = record { concerns = omega arith; grows = omega arith }
counts P core (Step.Enter comp micro) can = record { concerns = can.turn.admitted; grows = omega arith }
counts P core (Step.Leave comp) can =
    let same : (model.leave_next P core (comp - 1) (next_step (core.comp (comp - 1)))).count ≡ core.count = leave_count P core (comp - 1) (next_step (core.comp (comp - 1))) in
    let admitted : comp - 1 < core.count = can.out.admitted in
    record { concerns = omega arith; grows = omega arith }
counts P core (Step.Abandon comp) can =
    let same : (model.abandon_next P core (comp - 1) (next_step (core.comp (comp - 1)))).count ≡ core.count = abandon_count P core (comp - 1) (next_step (core.comp (comp - 1))) in
    let admitted : comp - 1 < core.count = can.out.admitted in
    record { concerns = omega arith; grows = omega arith }
counts P core (Step.Release comp micro) can = record { concerns = can.turn.admitted; grows = omega arith }
counts P core (Step.End comp) can = record { concerns = can.admitted; grows = omega arith }

cleared_count : (core : Core) (b : Bool) → (if b then cleared core else core).count ≡ core.count
cleared_count core true = refl
cleared_count core false = refl

count-run : (P : Play) (clears : List ℕ) (made : ℕ) (core : Core) (xs : List Step) → IsRunFrom P clears made core xs → core.count ≤ (run_from P clears made core xs).count
count-run P clears made core [] run = let same : (clear_at clears made core).count ≡ core.count = cleared_count core (is_clear clears made) in omega arith
count-run P clears made core (x ∷ xs) run =
    let now : Core = clear_at clears made core in
    let same : now.count ≡ core.count = cleared_count core (is_clear clears made) in
    let first : now.count ≤ (after_step P now x).count = (counts P now x run.1.enabled).grows in
    let rest : (after_step P now x).count ≤ (run_from P clears (suc made) (after_step P now x) xs).count = count-run P clears (suc made) (after_step P now x) xs run.2 in
    omega arith

-- the same steps over more that is admitted
pub record IsSameRun (script : Script) (cells : ℕ) (xs ys : List Ext) (clears : List ℕ) (made : ℕ) (core : Core) (journal : List Step) : Type 0 where
  pub state : run_from (play_of script cells xs) clears made core journal ≡ run_from (play_of script cells ys) clears made core journal
  pub run : IsRunFrom (play_of script cells ys) clears made core journal

pub run-same : (script : Script) (cells : ℕ) (xs ys : List Ext) (n : ℕ) (clears : List ℕ) (made : ℕ) (core : Core) (journal : List Step)
    → length xs ≤ length ys → ((k : ℕ) → k < n → ext_at xs k ≡ ext_at ys k)
    → IsRunFrom (play_of script cells xs) clears made core journal → (run_from (play_of script cells xs) clears made core journal).count ≤ n
    → IsSameRun script cells xs ys clears made core journal
run-same script cells xs ys n clears made core [] le same run most = record { state = refl; run = run }
run-same script cells xs ys n clears made core (x ∷ journal) le same run most =
    let P : Play = play_of script cells xs in
    let Q : Play = play_of script cells ys in
    let now : Core = clear_at clears made core in
    let next : Core = after_step P now x in
    let mine : concerned now (model_step x) < next.count = (counts P now x run.1.enabled).concerns in
    let grows : next.count ≤ (run_from P clears (suc made) next journal).count = count-run P clears (suc made) next journal run.2 in
    let same_ext : ext_at xs (concerned now (model_step x)) ≡ ext_at ys (concerned now (model_step x)) = same (concerned now (model_step x)) (omega arith) in
    let same_next : after_step P now x ≡ after_step Q now x = made-same script cells xs ys now (model_step x) same_ext in
    let rest : IsSameRun script cells xs ys clears (suc made) next journal = run-same script cells xs ys n clears (suc made) next journal le same run.2 most in
    record {
      state = rest.state ∙ ap (λ (c : Core). run_from Q clears (suc made) c journal) same_next;
      run = (
        run.0,
        record { number = run.1.number; enabled = enabled-same script cells xs ys now (model_step x) le same_ext run.1.enabled },
        subst (λ (c : Core). IsRunFrom Q clears (suc made) c journal) same_next rest.run,
      );
    }

made_most : (P : Play) (core : Core) (step : model.Step) → core.count ≤ P.most → model.IsEnabled P core step → (model.made_by P core step).count ≤ P.most
made_most P core model.Step.Admit le can = can.room
made_most P core (model.Step.Enter k p) le can = le
made_most P core (model.Step.Leave k) le can = subst (λ (n : ℕ). n ≤ P.most) (sym (leave_count P core k (next_step (core.comp k)))) le
made_most P core (model.Step.Abandon k) le can = subst (λ (n : ℕ). n ≤ P.most) (sym (abandon_count P core k (next_step (core.comp k)))) le
made_most P core (model.Step.Release k p) le can = le
made_most P core (model.Step.End k) le can = le
made_most P core model.Step.Clear le can = le

-- no more are admitted than there are
pub reached_most : (P : Play) (core : Core) → model.Reached P core → core.count ≤ P.most
reached_most P core model.Reached.Opening = omega arith
reached_most P core (model.Reached.Later before step reached can) = made_most P before step (reached_most P before reached) can
