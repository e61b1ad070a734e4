-- The group stack's script: its boxes, and what its events can be bound to.
use Rattle.std.proofs.Common.{◌≡◌, ℕ, zero, suc, ◌+◌, refl, sym, ap, subst, ◌∙◌, arith, List, [], ◌∷◌, ◌++◌, map, get_or}
use Rattle.std.specs.Prelude.{⊤}
use Rattle.samoa_model.specs.Scripts.{micro_at, no_change, no_micro}
use Rattle.samoa_model.specs.declared.handler.Outcome.{Outcome}
use Rattle.samoa_model.specs.declared.ids.EventId.{EventId}
use Rattle.samoa_model.specs.declared.ids.HandlerId.{HandlerId}
use Rattle.samoa_model.specs.declared.record.Ext.{Ext}
use Rattle.samoa_model.specs.declared.script.ChangeDef.{ChangeDef}
use Rattle.samoa_model.specs.declared.script.EventDef.{EventDef}
use Rattle.samoa_model.specs.declared.script.MicroDef.{MicroDef}
use Rattle.samoa_model.specs.declared.script.Script.{Script}
use Rattle.samoa_model.specs.declared.script.TableDef.{TableDef}
use Rattle.samoa_model.specs.declared.setup.Setup.{Setup}
use Rattle.samoa_serial.specs.Kinds.{kind_step}
use Rattle.samoa_serial.specs.State.{State}
use Rattle.samoa_serial.specs.Lists.{Each}
use Rattle.samoa_laws.specs.trace.Trace.{HandlerStep, micro_of}
use Rattle.samoa_laws.specs.trace.Causes.{FollowsIn}
use Rattle.samoa_laws.specs.trace.Group.{IsGroup, group_changes, group_events, group_micros}
pub use Rattle.samoa_laws.specs.trace.Group.{event_for}
use Rattle.samoa_laws.proofs.trace.Steps.{setting}
use Rattle.samoa_laws.proofs.trace.Tables.{IsBound, table-holds}

-- the microprotocol of a number, and what its box at a node is set up with
abbrev pub group_micro : ℕ → MicroDef
group_micro p = get_or group_micros p no_micro

abbrev pub setup_from : ℕ → ℕ → MicroDef → Setup
setup_from nodes node m = record {
  node = record { 0 = node };
  nodes = nodes;
  ports = m.ports;
  changes = m.changes;
  nums = m.nums;
  codes = map (λ c. c.code) m.handlers;
}

abbrev pub group_setup : ℕ → ℕ → ℕ → Setup
group_setup nodes node p = setup_from nodes node (group_micro p)

-- a step is that of its kind's table
pub step_is : (script : Script) (exts : List Ext) → IsGroup script → (past : List HandlerStep) (x : HandlerStep) → FollowsIn script exts past x
    → kind_step (group_micro (micro_of x)).kind (group_setup script.nodes x.node (micro_of x)) x.old x.moment ≡ (x.new, x.outcome)
step_is script exts group past x f =
    let p : ℕ = micro_of x in
    let is : micro_at script p ≡ group_micro p = ap (λ (ms : List MicroDef). get_or ms p no_micro) group.micros in
    ap (λ (v : ℕ). kind_step (group_micro p).kind (setup_from script.nodes v (group_micro p)) x.old x.moment) f.follows.node
    ∙ (sym (ap (λ (m : MicroDef). kind_step m.kind (setup_from script.nodes f.ext.node.0 m) x.old x.moment) is)
    ∙ f.follows.step)

pub outcome_is : (script : Script) (exts : List Ext) → IsGroup script → (past : List HandlerStep) (x : HandlerStep) → FollowsIn script exts past x
    → x.outcome ≡ (kind_step (group_micro (micro_of x)).kind (group_setup script.nodes x.node (micro_of x)) x.old x.moment).1
outcome_is script exts group past x f = sym (ap (λ (r : State × Outcome). r.1) (step_is script exts group past x f))

-- all handlers of a list stand at this event
abbrev pub StandAt : ℕ → List HandlerId → Type 0
StandAt e hs = Each (λ (h : HandlerId). event_for h ≡ e) hs

abbrev AllStand : ℕ → List EventDef → Type 0
AllStand k [] = ⊤
AllStand k (d ∷ ds) = StandAt k d.handlers × AllStand (k + 1) ds

stand-at : (k : ℕ) (ds : List EventDef) → AllStand k ds → (i e : ℕ) → e ≡ k + i → StandAt e (get_or (map (λ (d : EventDef). d.handlers) ds) i [])
stand-at k [] all i e is = tt
stand-at k (d ∷ ds) all zero e is = let same : e ≡ k = omega arith in subst (λ (n : ℕ). StandAt n d.handlers) (sym same) all.0
stand-at k (d ∷ ds) all (suc i) e is = stand-at (k + 1) ds all.1 i e (omega arith)

group_stand : AllStand 0 group_events
group_stand = (
  (refl, tt),
  (
    (refl, tt),
    (
      (refl, tt),
      (
        (refl, tt),
        (
          (refl, tt),
          (
            (refl, tt),
            (
              (refl, tt),
              (
                (refl, (refl, tt)),
                (
                  (refl, tt),
                  (
                    (refl, tt),
                    ((refl, tt), ((refl, tt), ((refl, tt), ((refl, tt), ((refl, tt), ((refl, tt), ((refl, tt), ((refl, tt), ((refl, tt), tt))))))))),
                  ),
                ),
              ),
            ),
          ),
        ),
      ),
    ),
  ),
)

change_stand : (c : ℕ) → Each (λ (t : TableDef). StandAt t.event.0 t.handlers) (get_or group_changes c no_change).table
change_stand zero = ((refl, tt), tt)
change_stand (suc zero) = ((refl, tt), tt)
change_stand (suc (suc c)) = tt

group-bound : (script : Script) → IsGroup script → IsBound script StandAt
group-bound script group = record {
  first = λ e. subst (λ (ds : List EventDef). StandAt e (get_or (map (λ (d : EventDef). d.handlers) ds) e [])) (sym group.events) (stand-at 0 group_events group_stand e e (omega arith));
  changed = λ change. subst (λ (cs : List ChangeDef). Each (λ (t : TableDef). StandAt t.event.0 t.handlers) (get_or cs change.0 no_change).table) (sym group.changes) (change_stand change.0);
}

-- whatever handler an event is bound to in a computation, it stands at that event
pub bound_stands : (script : Script) (exts : List Ext) → IsGroup script → (past : List HandlerStep) (x : HandlerStep) (f : FollowsIn script exts past x) (e : EventId)
    → StandAt e.0 ((setting f).handlers e)
bound_stands script exts group past x f e = table-holds script StandAt (group-bound script group) (f.before ++ f.ext ∷ []) f.ext.node.0 e.0
