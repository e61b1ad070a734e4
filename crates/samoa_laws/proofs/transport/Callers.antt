-- In the group stack a handler of an inner event begins where a microprotocol called that event.
use Rattle.std.proofs.Common.{◌≡◌, ◌≤◌, ℕ, refl, sym, ap, subst, ◌∙◌, arith, List, ◌∷◌}
use Rattle.samoa_model.specs.declared.handler.Moment.{Moment}
use Rattle.samoa_model.specs.declared.ids.HandlerId.{HandlerId}
use Rattle.samoa_model.specs.declared.record.Ext.{Ext}
use Rattle.samoa_model.specs.declared.script.Script.{Script}
use Rattle.samoa_serial.specs.Lists.{In}
use Rattle.samoa_laws.specs.trace.Trace.{HandlerStep}
use Rattle.samoa_laws.specs.trace.Causes.{Calls, Cause, FollowsIn, IsTrace}
use Rattle.samoa_laws.specs.trace.Group.{IsGroupHistory, event, event_for}
use Rattle.samoa_laws.specs.transport.Transport.{BeginsAt}
use Rattle.samoa_laws.specs.transport.Callers.{WasCalled}
use Rattle.samoa_laws.proofs.trace.Points.{trace-is_trace}
use Rattle.samoa_laws.proofs.trace.Steps.{Before, before, setting, trace-rest}
use Rattle.samoa_laws.proofs.transport.Events.{IsCaller, called_is, calls_own, never_later, no_begin, not_root, stands_at}

-- ---- what begins a handler of an inner event
pub was_called : (script : Script) (exts : List Ext) → IsGroupHistory script exts → (past : List HandlerStep) (x : HandlerStep) → IsTrace script exts past → FollowsIn script exts past x
    → (arg : List ℕ) → x.moment ≡ Moment.Begin x.call.handler.index arg → 1 ≤ event_for x.call.handler → event_for x.call.handler ≤ 13
    → WasCalled script exts past x.node x.call.handler arg
was_called script exts history past x t f arg begun first last = go f.follows.cause
  where
    h : HandlerId
    h = x.call.handler

    called_by : (y : HandlerStep) → In y past → Calls (setting f) y x.call x.moment → WasCalled script exts past x.node x.call.handler arg
    called_by y there c =
        let i : IsCaller y x (event_for h) arg = called_is script exts history.group past x f (event_for h) refl h.index arg begun y c in
        let b : Before script exts past y = before script exts past y t there in
        let at : event_for h ≡ c.event.0 = stands_at script exts history.group past x f c.event h c.bound in
        record {
          caller = y;
          there = there;
          at = i.node;
          effective = i.effective;
          frame = i.frame;
          outcome = i.outcome;
          by = calls_own script exts history.group b.earlier y b.follows (event_for h) arg i.frame first i.outcome;
          before = f.before;
          ext = f.ext;
          later = f.later;
          admitted = f.admitted;
          comp = c.acts.comp;
          bound = subst (λ (e : ℕ). In x.call.handler ((setting f).handlers (event e))) (sym at) c.bound;
        }

    go : Cause (setting f) past x.call x.moment → WasCalled script exts past x.node x.call.handler arg
    go (Cause.Root root) = absurd (not_root script exts history past x f (event_for h) first last refl root)
    go (Cause.Called y there c) = called_by y there c
    go (Cause.Deferred y there d) = absurd (never_later script exts history.group past t y there d.event d.arg d.frame d.outcome)
    go (Cause.Resumed r) = absurd (no_begin _ _ _ _ _ (sym begun ∙ r.goes_on.moment))

pub begins_called : (script : Script) (exts : List Ext) → IsGroupHistory script exts → (past : List HandlerStep) (node : ℕ) (h : HandlerId) (arg : List ℕ)
    → 1 ≤ event_for h → event_for h ≤ 13 → BeginsAt script exts past node h arg → WasCalled script exts past node h arg
begins_called script exts history past node h arg first last b =
    let t : IsTrace script exts (b.step ∷ past) = trace-rest script exts b.more (b.step ∷ past) (subst (IsTrace script exts) b.split (trace-is_trace script exts)) in
    let at : event_for b.step.call.handler ≡ event_for h = ap event_for b.handler_is in
    subst (λ (v : ℕ). WasCalled script exts past v h arg) b.node_is
    (subst (λ (g : HandlerId). WasCalled script exts past b.step.node g arg) b.handler_is
    (was_called script exts history past b.step t.1 t.0 arg (b.moment ∙ ap (λ (g : HandlerId). Moment.Begin g.index arg) (sym b.handler_is)) (omega (arith, at, first)) (omega (arith, at, last))))
