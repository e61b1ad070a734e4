-- The boxes of the group stack in a trace: which steps are made at a box, and that they are a history by its table.
use Rattle.std.proofs.Common.{◌≡◌, ◌≢◌, ◌⊎◌, ◌≤◌, ℕ, inl, inr, refl, sym, ap, subst, ◌∙◌, arith, List, [], ◌∷◌, ◌++◌, length, Bool, true, false, ◌&&◌, ◌==◌, if◌then◌else◌, eq-eqb, Option, Some, None}
use Rattle.std.proofs.lemmas.Bool.Decides.{eqb_tells}
use Rattle.std.specs.Prelude.{get_or}
use Rattle.samoa_model.specs.Scripts.{no_micro, setup_of}
use Rattle.samoa_model.specs.declared.handler.Moment.{Moment}
use Rattle.samoa_model.specs.declared.handler.Outcome.{Outcome}
use Rattle.samoa_model.specs.declared.record.Ext.{Ext}
use Rattle.samoa_model.specs.declared.script.MicroDef.{MicroDef}
use Rattle.samoa_model.specs.declared.script.Script.{Script}
use Rattle.samoa_model.specs.declared.setup.Setup.{Setup}
use Rattle.samoa_serial.specs.Kinds.{kind_step, opening}
use Rattle.samoa_serial.specs.SerialRun.{opening_states}
use Rattle.samoa_serial.specs.State.{State}
use Rattle.samoa_serial.specs.Lists.{In}
use Rattle.samoa_laws.specs.trace.Trace.{HandlerStep, micro_of, state_at}
use Rattle.samoa_laws.specs.trace.Causes.{FollowsIn, IsTrace}
use Rattle.samoa_laws.specs.trace.Group.{IsGroup}
use Rattle.samoa_laws.specs.trace.Boxes.{BoxStep, IsHistory, IsStep, box_step, box_steps, is_at, left_by, noted}
use Rattle.samoa_serial.proofs.ListLaws.{in_left}
use Rattle.samoa_laws.proofs.lists.Lists.{in_end}
use Rattle.samoa_laws.proofs.trace.Steps.{IsAt, IsAway, at_or_away, state_at-away, state_at-here}
use Rattle.samoa_laws.proofs.trace.Worlds.{group_micro, group_setup, setup_from, step_is}

-- a box of the group stack: its number, its states among all states, its table and its opening state
pub record Box (S : Type 0) : Type 0 where
  pub number : ℕ
  pub to : S → State
  pub of : State → S
  pub table : Setup → S → Moment → S × Outcome
  pub start : S
  pub back : (s : S) → of (to s) ≡ s
  pub state : (nodes v : ℕ) (s : S) (m : Moment)
      → (kind_step (group_micro number).kind (group_setup nodes v number) (to s) m).0 ≡ to (table (group_setup nodes v number) s m).0
  pub answer : (nodes v : ℕ) (s : S) (m : Moment)
      → (kind_step (group_micro number).kind (group_setup nodes v number) (to s) m).1 ≡ (table (group_setup nodes v number) s m).1
  pub opens : (nodes v : ℕ) → opening (group_micro number).kind (group_setup nodes v number) ≡ to start

-- the steps at the box at node v
abbrev pub steps_of : {S : Type 0} → Box S → ℕ → List HandlerStep → List (BoxStep S)
steps_of b v past = box_steps b.of v b.number past

-- it is set up as the script says
pub setup_is : (script : Script) → IsGroup script → (v p : ℕ) → group_setup script.nodes v p ≡ setup_of script v p
setup_is script group v p = ap (λ (ms : List MicroDef). setup_from script.nodes v (get_or ms p no_micro)) (sym group.micros)

-- ---- what is noted at the end of a list
pub in_noted : {A : Type 0} (xs : List A) (o : Option A) (counts : Bool) (e : A) → In e xs → In e (noted xs o counts)
in_noted xs None counts e i = i
in_noted xs (Some y) true e i = in_left e xs (y ∷ []) i
in_noted xs (Some y) false e i = i

pub noted_new : {A : Type 0} (xs : List A) (o : Option A) (counts : Bool) (e : A) → o ≡ Some e → counts ≡ true → In e (noted xs o counts)
noted_new xs o counts e is right = rw (is, right) (in_end xs e)

-- ---- which steps they are
pub record IsHere (v p : ℕ) (x : HandlerStep) : Type 0 where
  pub test : is_at v p x ≡ true
  pub at : IsAt x v p

pub record IsElsewhere (v p : ℕ) (x : HandlerStep) : Type 0 where
  pub test : is_at v p x ≡ false
  pub away : IsAway x v p

pub here_or_away : (v p : ℕ) (x : HandlerStep) → IsHere v p x ⊎ IsElsewhere v p x
here_or_away v p x = go (eqb_tells x.node v) (eqb_tells (micro_of x) p)
  where
    go : ((x.node == v) ≡ true) × (x.node ≡ v) ⊎ ((x.node == v) ≡ false) × (x.node ≢ v)
        → ((micro_of x == p) ≡ true) × (micro_of x ≡ p) ⊎ ((micro_of x == p) ≡ false) × (micro_of x ≢ p) → IsHere v p x ⊎ IsElsewhere v p x
    go (inl here) (inl there) = inl (record { test = ap (λ (b : Bool). b && (micro_of x == p)) here.0 ∙ there.0; at = (sym here.1, sym there.1) })
    go (inl here) (inr there) = inr (record { test = ap (λ (b : Bool). b && (micro_of x == p)) here.0 ∙ there.0; away = λ at. there.1 (sym at.1) })
    go (inr here) there = inr (record { test = ap (λ (b : Bool). b && (micro_of x == p)) here.0; away = λ at. here.1 (sym at.0) })

pub is_here : (v p : ℕ) (x : HandlerStep) → is_at v p x ≡ true → IsAt x v p
is_here v p x e = go (here_or_away v p x)
  where
    go : IsHere v p x ⊎ IsElsewhere v p x → IsAt x v p
    go (inl here) = here.at
    go (inr away) = absurd (let both : true ≡ false = sym e ∙ away.test in cc)

pub test_here : (v p : ℕ) (x : HandlerStep) → IsAt x v p → is_at v p x ≡ true
test_here v p x at = rw (eq-eqb x.node v (sym at.0)) (eq-eqb (micro_of x) p (sym at.1))

test_away : (v p : ℕ) (x : HandlerStep) → IsAway x v p → is_at v p x ≡ false
test_away v p x away = go (here_or_away v p x)
  where
    go : IsHere v p x ⊎ IsElsewhere v p x → is_at v p x ≡ false
    go (inl here) = absurd (away here.at)
    go (inr other) = other.test

pub steps-here : {S : Type 0} (of : State → S) (x : HandlerStep) (past : List HandlerStep) (v p : ℕ) → IsAt x v p
    → box_steps of v p (x ∷ past) ≡ box_step of x ∷ box_steps of v p past
steps-here of x past v p at = ap (λ (b : Bool). if b then box_step of x ∷ box_steps of v p past else box_steps of v p past) (test_here v p x at)

pub steps-away : {S : Type 0} (of : State → S) (x : HandlerStep) (past : List HandlerStep) (v p : ℕ) → IsAway x v p
    → box_steps of v p (x ∷ past) ≡ box_steps of v p past
steps-away of x past v p away = ap (λ (b : Bool). if b then box_step of x ∷ box_steps of v p past else box_steps of v p past) (test_away v p x away)

pub in_box : {S : Type 0} (of : State → S) (x : HandlerStep) (past : List HandlerStep) (v p : ℕ) → IsAt x v p → In x past → In (box_step of x) (box_steps of v p past)
in_box of x [] v p at there = absurd there
in_box of x (y ∷ past) v p at (inl e) =
    let here : IsAt y v p = subst (λ (z : HandlerStep). IsAt z v p) e at in
    subst (λ (ss : List (BoxStep _)). In (box_step of x) ss) (sym (steps-here of y past v p here)) (inl (ap (box_step of) e))
in_box of x (y ∷ past) v p at (inr there) = go (at_or_away y v p) (in_box of x past v p at there)
  where
    go : IsAt y v p ⊎ IsAway y v p → In (box_step of x) (box_steps of v p past) → In (box_step of x) (box_steps of v p (y ∷ past))
    go (inl here) ih = subst (λ (ss : List (BoxStep _)). In (box_step of x) ss) (sym (steps-here of y past v p here)) (inr ih)
    go (inr away) ih = subst (λ (ss : List (BoxStep _)). In (box_step of x) ss) (sym (steps-away of y past v p away)) ih

-- a step at the box is one of the trace
pub record FromTrace {S : Type 0} (of : State → S) (past : List HandlerStep) (v p : ℕ) (s : BoxStep S) : Type 0 where
  pub step : HandlerStep
  pub there : In step past
  pub at : IsAt step v p
  pub is : s ≡ box_step of step

from_more : {S : Type 0} (of : State → S) (y : HandlerStep) (past : List HandlerStep) (v p : ℕ) (s : BoxStep S) → FromTrace of past v p s → FromTrace of (y ∷ past) v p s
from_more of y past v p s t = record { step = t.step; there = inr t.there; at = t.at; is = t.is }

pub from_box : {S : Type 0} (of : State → S) (past : List HandlerStep) (v p : ℕ) (s : BoxStep S) → In s (box_steps of v p past) → FromTrace of past v p s
from_box of [] v p s there = absurd there
from_box of (y ∷ past) v p s there = go (at_or_away y v p) (λ i. from_box of past v p s i)
  where
    go : IsAt y v p ⊎ IsAway y v p → (In s (box_steps of v p past) → FromTrace of past v p s) → FromTrace of (y ∷ past) v p s
    go (inr away) ih = from_more of y past v p s (ih (subst (λ (ss : List (BoxStep _)). In s ss) (steps-away of y past v p away) there))
    go (inl here) ih = one (subst (λ (ss : List (BoxStep _)). In s ss) (steps-here of y past v p here) there)
      where
        one : In s (box_step of y ∷ box_steps of v p past) → FromTrace of (y ∷ past) v p s
        one (inl e) = record { step = y; there = inl refl; at = here; is = e }
        one (inr i) = from_more of y past v p s (ih i)

pub steps-few : {S : Type 0} (of : State → S) (v p : ℕ) (past : List HandlerStep) → length (box_steps of v p past) ≤ length past
steps-few of v p [] = omega arith
steps-few of v p (x ∷ past) = go (at_or_away x v p) (steps-few of v p past)
  where
    go : IsAt x v p ⊎ IsAway x v p → length (box_steps of v p past) ≤ length past → length (box_steps of v p (x ∷ past)) ≤ length (x ∷ past)
    go (inl here) ih = rw (steps-here of x past v p here) (omega (arith, ih))
    go (inr away) ih = rw (steps-away of x past v p away) (omega (arith, ih))

-- ---- what a step at the box does
pub record Made {S : Type 0} (b : Box S) (nodes v : ℕ) (s : S) (x : HandlerStep) : Type 0 where
  pub old : x.old ≡ b.to s
  pub new : x.new ≡ b.to (b.table (group_setup nodes v b.number) s x.moment).0
  pub outcome : x.outcome ≡ (b.table (group_setup nodes v b.number) s x.moment).1

pub made : {S : Type 0} (b : Box S) (script : Script) (exts : List Ext) → IsGroup script → (v : ℕ) (past : List HandlerStep) (x : HandlerStep) → FollowsIn script exts past x
    → IsAt x v b.number → (s : S) → state_at (opening_states script) past v b.number ≡ b.to s → Made b script.nodes v s x
made b script exts group v past x f at s stands = record {
  old = old;
  new = sym (ap (λ (r : State × Outcome). r.0) is) ∙ b.state script.nodes v s x.moment;
  outcome = sym (ap (λ (r : State × Outcome). r.1) is) ∙ b.answer script.nodes v s x.moment;
}
  where
    old : x.old ≡ b.to s
    old =
        f.follows.old
        ∙ (ap (λ (u : ℕ). state_at (opening_states script) past u (micro_of x)) (sym at.0)
        ∙ (ap (λ (p : ℕ). state_at (opening_states script) past v p) (sym at.1) ∙ stands))

    is : kind_step (group_micro b.number).kind (group_setup script.nodes v b.number) (b.to s) x.moment ≡ (x.new, x.outcome)
    is =
        ap (λ (p : ℕ). kind_step (group_micro p).kind (group_setup script.nodes v p) (b.to s) x.moment) at.1
        ∙ (ap (λ (u : ℕ). kind_step (group_micro (micro_of x)).kind (group_setup script.nodes u (micro_of x)) (b.to s) x.moment) at.0
        ∙ (ap (λ (t : State). kind_step (group_micro (micro_of x)).kind (group_setup script.nodes x.node (micro_of x)) t x.moment) (sym old)
        ∙ step_is script exts group past x f))

-- the state of the box is the one that its history leaves
pub stands : {S : Type 0} (b : Box S) (script : Script) (exts : List Ext) → IsGroup script → (v : ℕ) (past : List HandlerStep) → IsTrace script exts past
    → state_at (opening_states script) past v b.number ≡ b.to (left_by b.start (steps_of b v past))
stands b script exts group v [] trace =
    ap (λ (ms : List MicroDef). opening (get_or ms b.number no_micro).kind (setup_from script.nodes v (get_or ms b.number no_micro))) group.micros ∙ b.opens script.nodes v
stands {S} b script exts group v (x ∷ past) trace = go (at_or_away x v b.number) (stands b script exts group v past trace.1)
  where
    left : List (BoxStep S) → State
    left ss = b.to (left_by b.start ss)

    go : IsAt x v b.number ⊎ IsAway x v b.number → state_at (opening_states script) past v b.number ≡ b.to (left_by b.start (steps_of b v past))
        → state_at (opening_states script) (x ∷ past) v b.number ≡ b.to (left_by b.start (steps_of b v (x ∷ past)))
    go (inr away) ih =
        state_at-away (opening_states script) x past v b.number away
        ∙ (ih ∙ ap (λ (ss : List (BoxStep S)). b.to (left_by b.start ss)) (sym (steps-away b.of x past v b.number away)))
    go (inl at) ih =
        let m : Made b script.nodes v (left_by b.start (steps_of b v past)) x = made b script exts group v past x trace.0 at (left_by b.start (steps_of b v past)) ih in
        state_at-here (opening_states script) x past v b.number at
        ∙ (m.new
        ∙ (ap b.to (sym (ap b.of m.new ∙ b.back _))
        ∙ ap (λ (ss : List (BoxStep S)). b.to (left_by b.start ss)) (sym (steps-here b.of x past v b.number at))))

pub made_at : {S : Type 0} (b : Box S) (script : Script) (exts : List Ext) → IsGroup script → (v : ℕ) (past : List HandlerStep) → IsTrace script exts past
    → (x : HandlerStep) → FollowsIn script exts past x → IsAt x v b.number → Made b script.nodes v (left_by b.start (steps_of b v past)) x
made_at b script exts group v past trace x f at = made b script exts group v past x f at (left_by b.start (steps_of b v past)) (stands b script exts group v past trace)

-- it is a step of the table, from the state that the earlier ones left
pub made_step : {S : Type 0} (b : Box S) (script : Script) (exts : List Ext) → IsGroup script → (v : ℕ) (past : List HandlerStep) → IsTrace script exts past
    → (x : HandlerStep) → FollowsIn script exts past x → IsAt x v b.number
    → IsStep (b.table (group_setup script.nodes v b.number)) b.start (steps_of b v past) (box_step b.of x)
made_step {S} b script exts group v past trace x f at =
    let s : S = left_by b.start (steps_of b v past) in
    let m : Made b script.nodes v s x = made_at b script exts group v past trace x f at in
    let old : b.of x.old ≡ s = ap b.of m.old ∙ b.back s in
    record {
      old = old;
      new = ap b.of m.new ∙ (b.back _ ∙ ap (λ (t : S). (b.table (group_setup script.nodes v b.number) t x.moment).0) (sym old));
      outcome = m.outcome ∙ ap (λ (t : S). (b.table (group_setup script.nodes v b.number) t x.moment).1) (sym old);
    }

-- ---- the steps are a history, where each moment is one that may come
abbrev pub MayCome : {S : Type 0} → Box S → Script → List Ext → ℕ → (List (BoxStep S) → Moment → Type 0) → List HandlerStep → Type 0
MayCome b script exts v May past = (more : List HandlerStep) (x : HandlerStep) (earlier : List HandlerStep) → past ≡ more ++ x ∷ earlier → IsTrace script exts earlier
    → FollowsIn script exts earlier x → IsAt x v b.number → May (steps_of b v earlier) x.moment

pub is_history : {S : Type 0} (b : Box S) (script : Script) (exts : List Ext) → IsGroup script → (v : ℕ) (May : List (BoxStep S) → Moment → Type 0)
    (past : List HandlerStep) → IsTrace script exts past → MayCome b script exts v May past
    → IsHistory (b.table (group_setup script.nodes v b.number)) b.start May (steps_of b v past)
is_history b script exts group v May [] trace may = tt
is_history {S} b script exts group v May (x ∷ past) trace may =
    go (at_or_away x v b.number)
    (is_history b script exts group v May past trace.1 (λ more y earlier e. may (x ∷ more) y earlier (ap (λ (ys : List HandlerStep). x ∷ ys) e)))
  where
    go : IsAt x v b.number ⊎ IsAway x v b.number → IsHistory (b.table (group_setup script.nodes v b.number)) b.start May (steps_of b v past)
        → IsHistory (b.table (group_setup script.nodes v b.number)) b.start May (steps_of b v (x ∷ past))
    go (inr away) ih =
        subst (λ (ss : List (BoxStep S)). IsHistory (b.table (group_setup script.nodes v b.number)) b.start May ss) (sym (steps-away b.of x past v b.number away)) ih
    go (inl at) ih =
        subst (λ (ss : List (BoxStep S)). IsHistory (b.table (group_setup script.nodes v b.number)) b.start May ss) (sym (steps-here b.of x past v b.number at)) (
          made_step b script exts group v past trace.1 x trace.0 at,
          may [] x past refl trace.1 trace.0 at,
          ih,
        )
