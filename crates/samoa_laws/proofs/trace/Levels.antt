-- The active calls of a computation, level by level, and what each of them comes from.
use Rattle.std.proofs.Common.{◌≡◌, ◌⊎◌, ◌<◌, ℕ, ◌+◌, inl, inr, refl, sym, ap, subst, ◌∙◌, arith, append_assoc, List, [], ◌∷◌, ◌++◌, Some}
use Rattle.std.specs.Prelude.{⊤}
use Rattle.samoa_model.specs.declared.ids.HandlerId.{HandlerId}
use Rattle.samoa_model.specs.declared.handler.Moment.{Moment}
use Rattle.samoa_serial.specs.declared.call.Active.{Active}
use Rattle.samoa_serial.specs.declared.call.Call.{Call}
use Rattle.samoa_serial.specs.declared.call.Due.{Due}
use Rattle.samoa_serial.specs.World.{begin, calls_from}
use Rattle.samoa_serial.specs.Calls.{at_frame, to_begin}
use Rattle.samoa_serial.specs.Lists.{In}
use Rattle.samoa_laws.specs.trace.Trace.{HandlerStep}
use Rattle.samoa_laws.specs.trace.Causes.{Acts, Calls, ComesFrom, ComesSince, Defers, IsOther, IsRoot, Nested, Setting, frame_of}
use Rattle.samoa_serial.proofs.ListLaws.{in_left, in_right}

-- from outside all calls: by the root event, as one of its later handlers, or deferred by one of these steps
abbrev pub Outside : Setting → List HandlerStep → Call → Moment → Type 0
Outside S past c m = (IsRoot S c m × IsOther S c) ⊎ ((y : HandlerStep) × In y past × Defers S y c m)

-- each of these is yet to begin, and comes so
abbrev pub AllBegin : (Call → Moment → Type 0) → List Active → Type 0
AllBegin P [] = ⊤
AllBegin P (a ∷ rest) = ((m : Moment) × (a.due ≡ Due.Next m) × P a.call m) × AllBegin P rest

-- called by the step `last`, as one of the event's later handlers
abbrev pub CallsOther : Setting → HandlerStep → Call → Moment → Type 0
CallsOther S last c m = Calls S last c m × IsOther S c

-- the innermost call that waits for a reply: the step `last` made calls, some of them are yet to begin
pub record Waits (S : Setting) (past : List HandlerStep) (active : List Active) : Type 0 where
  pub last : HandlerStep
  pub since : List HandlerStep
  pub before : List HandlerStep
  pub waiting : List Active
  pub rest : List Active
  pub frame : List ℕ
  pub split : past ≡ since ++ last ∷ before
  pub stack : active ≡ waiting ++ at_frame last.call frame ∷ rest
  pub acts : Acts S last
  pub frame_is : frame_of last.outcome ≡ Some frame
  pub nested : Nested S last since
  pub begins : AllBegin (CallsOther S last) waiting

-- the innermost level: that of the outside, or the step that made the calls with the steps since
pub data Top : Type 0 where
  Ground : Top
  At : HandlerStep → List HandlerStep → Top

-- x is one of the steps within the innermost level
abbrev pub Under : HandlerStep → Top → Type 0
Under x Ground = ⊤
Under x (At last since) = In x since

-- moment m of call c comes from within the innermost level
abbrev pub Inside : Setting → Top → Call → Moment → Type 0
Inside S Ground c m = ⊤
Inside S (At last since) c m = ComesSince S last since c m

-- the active calls below the one that runs
pub data Levels (S : Setting) : Top → List HandlerStep → List Active → Type 0 where
  Base : {past : List HandlerStep} {active : List Active} → AllBegin (Outside S past) active → Levels S Ground past active
  Over : {past : List HandlerStep} {active : List Active} (w : Waits S past active) (top : Top) → Levels S top (w.last ∷ w.before) w.rest → Under w.last top
      → Levels S (At w.last w.since) past active

-- after these steps, where x is one of those within the innermost level
pub record Within (S : Setting) (x : HandlerStep) (past : List HandlerStep) (active : List Active) : Type 0 where
  pub top : Top
  pub levels : Levels S top past active
  pub under : Under x top

pub inside-from : (S : Setting) (x : HandlerStep) (top : Top) (c : Call) (m : Moment) → Under x top → ComesFrom S x c m → Inside S top c m
inside-from S x Ground c m under comes = tt
inside-from S x (At last since) c m under comes = inr (x, under, comes)

pub begin-map : (P Q : Call → Moment → Type 0) → ((c : Call) (m : Moment) → P c m → Q c m) → (active : List Active) → AllBegin P active → AllBegin Q active
begin-map P Q f [] all = tt
begin-map P Q f (a ∷ rest) all = ((all.0.0, all.0.1, f a.call all.0.0 all.0.2), begin-map P Q f rest all.1)

pub begin-append : (P : Call → Moment → Type 0) (xs ys : List Active) → AllBegin P xs → AllBegin P ys → AllBegin P (xs ++ ys)
begin-append P [] ys all others = others
begin-append P (x ∷ xs) ys all others = (all.0, begin-append P xs ys all.1 others)

-- calls of these handlers, numbered from n on
pub begin-calls : (P : Call → Moment → Type 0) (arg : List ℕ) (n : ℕ) (hs : List HandlerId)
    → ((d : Call) → In d.handler hs → n < d.number → P d (begin d arg)) → AllBegin P (to_begin arg (calls_from n hs))
begin-calls P arg n [] f = tt
begin-calls P arg n (h ∷ hs) f = (
  (_, refl, f (record { number = n + 1; handler = h }) (inl refl) (omega arith)),
  begin-calls P arg (n + 1) hs (λ d i lt. f d (inr i) (omega arith)),
)

pub outside-more : (S : Setting) (past more : List HandlerStep) (c : Call) (m : Moment) → Outside S past c m → Outside S (more ++ past) c m
outside-more S past more c m (inl root) = inl root
outside-more S past more c m (inr d) = inr (d.0, in_right d.0 more past d.1, d.2)

-- steps that come from b are within what b is within
pub nested-append : (S : Setting) (b c : HandlerStep) (since middle : List HandlerStep)
    → Nested S b since → Nested S c middle → In b middle → Nested S c (since ++ middle)
nested-append S b c [] middle nested others there = others
nested-append S b c (z ∷ since) middle nested others there =
    (nested.0, nested.1, wider nested.2, nested-append S b c since middle nested.3 others there)
  where
    wider : ComesSince S b since z.call z.moment → ComesSince S c (since ++ middle) z.call z.moment
    wider (inl calls) = inr (b, in_right b since middle there, inl calls)
    wider (inr s) = inr (s.0, in_left s.0 since middle s.1, s.2)

-- the same calls wait after more steps
abbrev moved : (S : Setting) {past : List HandlerStep} {active : List Active} (w : Waits S past active) (now since : List HandlerStep)
    → now ≡ since ++ w.last ∷ w.before → Nested S w.last since → Waits S now active
moved S w now since split nested = record {
  last = w.last;
  since = since;
  before = w.before;
  waiting = w.waiting;
  rest = w.rest;
  frame = w.frame;
  split = split;
  stack = w.stack;
  acts = w.acts;
  frame_is = w.frame_is;
  nested = nested;
  begins = w.begins;
}

-- one more step
pub push : (S : Setting) (x : HandlerStep) (top : Top) (past : List HandlerStep) (active : List Active) → Levels S top past active
    → Inside S top x.call x.moment → x.comp ≡ S.comp → x.node ≡ S.node → Within S x (x ∷ past) active
push S x Ground past active (Base all) inside comp node =
    record { top = Ground; levels = Base (begin-map _ _ (λ c m h. outside-more S past (x ∷ []) c m h) active all); under = tt }
push S x (At last since) past active (Over w top below under) inside comp node =
    record {
      top = At w.last (x ∷ w.since);
      levels = Over (moved S w (x ∷ past) (x ∷ w.since) (ap (λ (ys : List HandlerStep). x ∷ ys) w.split) (comp, node, inside, w.nested)) top below under;
      under = inl refl;
    }

-- the steps within the calls that b made are within the level of b
pub lift : (S : Setting) (b : HandlerStep) (past since before here : List HandlerStep) (top : Top) (active : List Active) → Levels S top here active
    → Under b top → here ≡ b ∷ before → past ≡ since ++ b ∷ before → Nested S b since → Within S b past active
lift S b past since before here Ground active (Base all) under is split nested =
    record {
      top = Ground;
      levels = Base (begin-map _ _ (λ c m h.
          subst (λ (ys : List HandlerStep). Outside S ys c m) (ap (λ (ys : List HandlerStep). since ++ ys) is ∙ sym split) (outside-more S here since c m h)) active all);
      under = tt;
    }
lift S b past since before here (At last middle) active (Over w top below under') under is split nested =
    record {
      top = At w.last (since ++ w.since);
      levels = Over (moved S w past (since ++ w.since)
          (split ∙ (ap (λ (ys : List HandlerStep). since ++ ys) (sym is ∙ w.split) ∙ sym (append_assoc since w.since (w.last ∷ w.before))))
          (nested-append S b w.last since w.since nested w.nested under)) top below under';
      under = in_right b since w.since under;
    }
