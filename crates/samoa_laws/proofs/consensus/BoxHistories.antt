-- The steps of consensus in a trace: at each node they are the history of its box.
use Rattle.std.proofs.Common.{◌≡◌, ℕ, inl, inr, refl, sym, ap, subst, ◌∙◌, List, [], ◌∷◌, ◌++◌, Bool, true, false, ◌&&◌, ◌==◌, if◌then◌else◌, eq-eqb}
use Rattle.samoa_model.specs.declared.record.Ext.{Ext}
use Rattle.samoa_model.specs.declared.script.Script.{Script}
use Rattle.samoa_model.specs.declared.setup.Setup.{Setup}
use Rattle.samoa_serial.specs.ConsTable.{cons_step}
use Rattle.samoa_serial.specs.SerialRun.{opening_states}
use Rattle.samoa_serial.specs.State.{ConsState, OfCons, State}
use Rattle.samoa_serial.specs.Lists.{In}
use Rattle.samoa_laws.specs.trace.Trace.{HandlerStep, micro_of, state_at}
use Rattle.samoa_laws.specs.trace.Causes.{FollowsIn, IsTrace}
use Rattle.samoa_laws.specs.trace.Group.{IsGroup}
use Rattle.samoa_laws.specs.trace.Boxes.{BoxStep, IsStep, box_step, box_steps, left_by}
use Rattle.samoa_laws.proofs.trace.Boxes.{Box, made_step, setup_is, stands}
use Rattle.samoa_laws.specs.consensus.Consensus.{NodeStep, box_of, cons_opening}
use Rattle.samoa_laws.specs.consensus.AtBoxes.{cons_of, cons_setup, cons_steps, node_step, node_steps}

abbrev pub cons_box : Box ConsState
cons_box = record {
  number = 3;
  to = OfCons;
  of = cons_of;
  table = cons_step;
  start = cons_opening;
  back = λ s. refl;
  state = λ nodes v s m. refl;
  answer = λ nodes v s m. refl;
  opens = λ nodes v. refl;
}

-- ---- the steps of a microprotocol, and of one box
pub node_steps-append : {S : Type 0} (p : ℕ) (of : State → S) (more past : List HandlerStep) → node_steps p of (more ++ past) ≡ node_steps p of more ++ node_steps p of past
node_steps-append p of [] past = refl
node_steps-append {S} p of (x ∷ more) past = go (micro_of x == p) (node_steps-append p of more past)
  where
    go : (b : Bool) → node_steps p of (more ++ past) ≡ node_steps p of more ++ node_steps p of past
        → (if b then node_step of x ∷ node_steps p of (more ++ past) else node_steps p of (more ++ past))
        ≡ (if b then node_step of x ∷ node_steps p of more else node_steps p of more) ++ node_steps p of past
    go true ih = ap (λ (ys : List (NodeStep S)). node_step of x ∷ ys) ih
    go false ih = ih

pub node_steps-in : {S : Type 0} (p : ℕ) (of : State → S) (past : List HandlerStep) (x : HandlerStep) → In x past → micro_of x ≡ p → In (node_step of x) (node_steps p of past)
node_steps-in p of [] x there micro = absurd there
node_steps-in {S} p of (y ∷ past) x (inl same) micro =
    subst (λ (b : Bool). In (node_step of x) (if b then node_step of y ∷ node_steps p of past else node_steps p of past))
    (sym (eq-eqb (micro_of y) p (ap micro_of (sym same) ∙ micro))) (inl (ap (λ (z : HandlerStep). node_step of z) same))
node_steps-in {S} p of (y ∷ past) x (inr there) micro = go (micro_of y == p) (node_steps-in p of past x there micro)
  where
    go : (b : Bool) → In (node_step of x) (node_steps p of past) → In (node_step of x) (if b then node_step of y ∷ node_steps p of past else node_steps p of past)
    go true i = inr i
    go false i = i

pub box_is : {S : Type 0} (p : ℕ) (of : State → S) (past : List HandlerStep) (v : ℕ) → box_of (node_steps p of past) v ≡ box_steps of v p past
box_is p of [] v = refl
box_is {S} p of (x ∷ past) v = go (micro_of x == p) (box_is p of past v)
  where
    there : (b : Bool) → box_of (node_steps p of past) v ≡ box_steps of v p past
        → (if b then box_step of x ∷ box_of (node_steps p of past) v else box_of (node_steps p of past) v)
        ≡ (if b && true then box_step of x ∷ box_steps of v p past else box_steps of v p past)
    there true ih = ap (λ (ss : List (BoxStep S)). box_step of x ∷ ss) ih
    there false ih = ih

    other : (b : Bool) → (if b && false then box_step of x ∷ box_steps of v p past else box_steps of v p past) ≡ box_steps of v p past
    other true = refl
    other false = refl

    go : (b : Bool) → box_of (node_steps p of past) v ≡ box_steps of v p past
        → box_of (if b then node_step of x ∷ node_steps p of past else node_steps p of past) v
        ≡ (if (x.node == v) && b then box_step of x ∷ box_steps of v p past else box_steps of v p past)
    go true ih = there (x.node == v) ih
    go false ih = ih ∙ sym (other (x.node == v))

-- ---- the box of consensus
-- it has the state that its history leaves
pub state_is : (script : Script) (exts : List Ext) → IsGroup script → (past : List HandlerStep) → IsTrace script exts past → (v : ℕ)
    → state_at (opening_states script) past v 3 ≡ OfCons (left_by cons_opening (box_of (cons_steps past) v))
state_is script exts group past trace v =
    stands cons_box script exts group v past trace
    ∙ ap (λ (ss : List (BoxStep ConsState)). OfCons (left_by cons_opening ss)) (sym (box_is 3 cons_of past v))

-- and each step there is one of the table
pub is_step : (script : Script) (exts : List Ext) → IsGroup script → (past : List HandlerStep) → IsTrace script exts past
    → (x : HandlerStep) → FollowsIn script exts past x → micro_of x ≡ 3
    → IsStep (cons_step (cons_setup script x.node)) cons_opening (box_of (cons_steps past) x.node) (node_step cons_of x).step
is_step script exts group past trace x f micro =
    subst (λ (ss : List (BoxStep ConsState)). IsStep (cons_step (cons_setup script x.node)) cons_opening ss (box_step cons_of x)) (sym (box_is 3 cons_of past x.node))
    (subst (λ (setup : Setup). IsStep (cons_step setup) cons_opening (box_steps cons_of x.node 3 past) (box_step cons_of x)) (setup_is script group x.node 3)
    (made_step cons_box script exts group x.node past trace x f (refl, sym micro)))
