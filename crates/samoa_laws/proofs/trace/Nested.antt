-- The steps within the calls that a step made.
use Rattle.std.proofs.Common.{◌≡◌, ◌≢◌, ◌<◌, ℕ, inl, inr, sym, ap, subst, arith, List, [], ◌∷◌, Some}
use Rattle.samoa_model.specs.declared.ids.EventId.{EventId}
use Rattle.samoa_model.specs.declared.ids.HandlerId.{HandlerId}
use Rattle.samoa_model.specs.declared.handler.Moment.{Moment}
use Rattle.samoa_model.specs.declared.handler.Outcome.{Outcome}
use Rattle.samoa_model.specs.declared.handler.Reply.{Reply}
use Rattle.samoa_serial.specs.declared.call.Call.{Call}
use Rattle.samoa_serial.specs.World.{resume}
use Rattle.samoa_serial.specs.Lists.{Each, In}
use Rattle.samoa_laws.specs.trace.Trace.{HandlerStep}
use Rattle.samoa_laws.specs.trace.Causes.{Acts, ComesFrom, ComesSince, Nested, Setting, frame_of}
use Rattle.samoa_serial.proofs.ListLaws.{each_in}

from_number : (S : Setting) (n : ℕ) (y : HandlerStep) (c : Call) (m : Moment) → n < y.call.number → ComesFrom S y c m → n < c.number
from_number S n y c m lt (inl calls) = let less : y.call.number < c.number = calls.less in omega arith
from_number S n y c m lt (inr on) = subst (λ (d : Call). n < d.number) on.call lt

-- they are of calls with greater numbers
pub nested-numbers : (S : Setting) (b : HandlerStep) (since : List HandlerStep) → Nested S b since → Each (λ (z : HandlerStep). b.call.number < z.call.number) since
nested-numbers S b [] nested = tt
nested-numbers S b (z ∷ since) nested = let ih = nested-numbers S b since nested.3 in (go ih nested.2, ih)
  where
    go : Each (λ (y : HandlerStep). b.call.number < y.call.number) since → ComesSince S b since z.call z.moment → b.call.number < z.call.number
    go ih (inl calls) = calls.less
    go ih (inr s) = from_number S b.call.number s.0 z.call z.moment (each_in _ since s.0 ih s.1) s.2

-- so none of them is of the call itself
pub nested-others : (S : Setting) (b : HandlerStep) (since : List HandlerStep) → Nested S b since → Each (λ (z : HandlerStep). z.call ≢ b.call) since
nested-others S b [] nested = tt
nested-others S b (z ∷ since) nested =
    let lt : b.call.number < z.call.number = (nested-numbers S b (z ∷ since) nested).0 in
    (λ e. let same : z.call.number ≡ b.call.number = ap (λ (c : Call). c.number) e in omega arith, nested-others S b since nested.3)

pub nested-comps : (S : Setting) (b : HandlerStep) (since : List HandlerStep) → Nested S b since → Each (λ (z : HandlerStep). (z.comp ≡ S.comp) × (z.node ≡ S.node)) since
nested-comps S b [] nested = tt
nested-comps S b (z ∷ since) nested = ((nested.0, nested.1), nested-comps S b since nested.3)

-- a predicate on handlers and moments that such steps hand down: to what they call, and to their own going on
pub record IsHandedDown (S : Setting) (D : HandlerId → Moment → Type 0) (steps : List HandlerStep) : Type 0 where
  pub calls : (z : HandlerStep) → In z steps → D z.call.handler z.moment → Acts S z → (event : EventId) (arg frame : List ℕ) → z.outcome ≡ Outcome.Call event arg frame
      → (h : HandlerId) → In h (S.handlers event) → D h (Moment.Begin h.index arg)
  pub goes_on : (z : HandlerStep) → In z steps → D z.call.handler z.moment → Acts S z → (frame : List ℕ) (reply : Reply) → frame_of z.outcome ≡ Some frame
      → D z.call.handler (Moment.Resume z.call.handler.index frame reply)

-- what holds of the calls that b made, and is handed down, holds of all steps within them
pub nested-all : (S : Setting) (D : HandlerId → Moment → Type 0) (b : HandlerStep) (since : List HandlerStep)
    → ((event : EventId) (arg frame : List ℕ) → b.outcome ≡ Outcome.Call event arg frame → (h : HandlerId) → In h (S.handlers event) → D h (Moment.Begin h.index arg))
    → IsHandedDown S D since → Nested S b since → Each (λ (z : HandlerStep). D z.call.handler z.moment) since
nested-all S D b since first down nested = go since (λ z i. i) nested
  where
    from : (steps : List HandlerStep) → ((z : HandlerStep) → In z steps → In z since) → Each (λ (z : HandlerStep). D z.call.handler z.moment) steps
        → (c : Call) (m : Moment) → ComesSince S b steps c m → D c.handler m
    from steps within ih c m (inl calls) =
        subst (λ (n : Moment). D c.handler n) (sym calls.moment) (first calls.event calls.arg calls.frame calls.outcome c.handler calls.bound)
    from steps within ih c m (inr (y, there, inl calls)) =
        subst (λ (n : Moment). D c.handler n) (sym calls.moment)
        (down.calls y (within y there) (each_in _ steps y ih there) calls.acts calls.event calls.arg calls.frame calls.outcome c.handler calls.bound)
    from steps within ih c m (inr (y, there, inr on)) =
        subst (λ (n : Moment). D c.handler n) (sym on.moment)
        (subst (λ (d : Call). D d.handler (resume d on.frame on.reply)) on.call
        (down.goes_on y (within y there) (each_in _ steps y ih there) on.acts on.frame on.reply on.frame_is))

    go : (steps : List HandlerStep) → ((z : HandlerStep) → In z steps → In z since) → Nested S b steps → Each (λ (z : HandlerStep). D z.call.handler z.moment) steps
    go [] within nested = tt
    go (z ∷ steps) within nested =
        let ih = go steps (λ y i. within y (inr i)) nested.3 in
        (from steps (λ y i. within y (inr i)) ih z.call z.moment nested.2, ih)
