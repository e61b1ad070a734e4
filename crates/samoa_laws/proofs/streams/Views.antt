-- A trace as it is seen from the replacement layer's box of one node; the box's steps are a history.
use Rattle.std.proofs.Common.{◌≡◌, ◌<◌, ◌≤◌, ℕ, suc, inl, inr, refl, sym, ap, subst, ◌∙◌, arith, List, [], ◌∷◌, map, length, Option, Some, None, Bool, true, false, if◌then◌else◌}
use Rattle.std.proofs.lemmas.List.{map-append}
use Rattle.samoa_model.specs.declared.handler.Moment.{Moment}
use Rattle.samoa_model.specs.declared.handler.Outcome.{Outcome}
use Rattle.samoa_model.specs.declared.handler.Reply.{Reply}
use Rattle.samoa_model.specs.declared.record.Ext.{Ext}
use Rattle.samoa_model.specs.declared.script.Script.{Script}
use Rattle.samoa_serial.specs.declared.call.Call.{Call}
use Rattle.samoa_serial.specs.ReplTable.{repl_step}
use Rattle.samoa_serial.specs.State.{ReplState}
use Rattle.samoa_serial.specs.World.{resume}
use Rattle.samoa_serial.specs.Lists.{In}
use Rattle.samoa_laws.specs.trace.Trace.{HandlerStep, is_done}
use Rattle.samoa_laws.specs.trace.Causes.{Cause, EndsWell, FollowsIn, GoesOn, IsNext, IsTrace, Leads, Resumes, Setting, frame_of}
use Rattle.samoa_laws.specs.trace.Group.{IsGroup}
use Rattle.samoa_serial.proofs.ListLaws.{each_in, in_middle}
use Rattle.samoa_laws.proofs.trace.Nested.{nested-numbers}
use Rattle.samoa_laws.proofs.trace.Steps.{Before, IsAt, before, goes_on_at_once, setting}
use Rattle.samoa_laws.specs.replacement.Casts.{handler_of}
use Rattle.samoa_laws.specs.replacement.History.{GoesOn as GoesOnAtOnce, IsHistory, Step, given, left_by}
use Rattle.samoa_laws.specs.replacement.History.{frame_of as handed_frame}
use Rattle.samoa_laws.specs.replacement.Trace as seen
use Rattle.samoa_laws.specs.replacement.Trace.{Item, ResumesFrom, SameCall, awaited, box_of, carried}
use Rattle.samoa_laws.proofs.replacement.Traces.{trace_goes_on, trace_history, trace_rests}
use Rattle.samoa_laws.specs.streams.Streams.{repl_setup, is_repl, repl_at, repl_state, repl_step_of}
use Rattle.samoa_laws.proofs.trace.Boxes.{is_here, test_here}
use Rattle.samoa_laws.proofs.streams.Boxes.{Made, box_state, made}

-- a step of the trace, and a trace, as they are seen from the box of a node
abbrev pub item : ℕ → HandlerStep → Item
item v x = record { here = is_repl v x; computation = x.comp; call = x.call.number; step = repl_step_of x }

abbrev pub items : ℕ → List HandlerStep → List Item
items v past = map (item v) past

pub box_of_items : (v : ℕ) (past : List HandlerStep) → box_of (items v past) ≡ repl_at v past
box_of_items v [] = refl
box_of_items v (x ∷ past) = ap (λ (l : List Step). if is_repl v x then repl_step_of x ∷ l else l) (box_of_items v past)

-- the handler of a moment is its call's
cause-index : (S : Setting) (past : List HandlerStep) (c : Call) (m : Moment) → Cause S past c m → handler_of m ≡ c.handler.index
cause-index S past c m (Cause.Root root) = ap handler_of root.moment
cause-index S past c m (Cause.Called y there calls) = ap handler_of calls.moment
cause-index S past c m (Cause.Deferred y there calls) = ap handler_of calls.moment
cause-index S past c m (Cause.Resumed r) = ap handler_of r.goes_on.moment

pub step-index : (script : Script) (exts : List Ext) (past : List HandlerStep) (x : HandlerStep) → FollowsIn script exts past x → handler_of x.moment ≡ x.call.handler.index
step-index script exts past x f = cause-index (setting f) past x.call x.moment f.follows.cause

pub carried_is : (o : Outcome) → carried o ≡ frame_of o
carried_is (Outcome.Done reply) = refl
carried_is (Outcome.Call event arg frame) = refl
carried_is (Outcome.Later event arg frame) = refl
carried_is (Outcome.Send to event arg frame) = refl
carried_is (Outcome.Deliver arg frame) = refl
carried_is (Outcome.Change change arg frame) = refl

-- one that is seen is of a step
record Seen (v : ℕ) (steps : List HandlerStep) (i : Item) : Type 0 where
  step : HandlerStep
  there : In step steps
  is : i ≡ item v step

seen_in : (v : ℕ) (steps : List HandlerStep) (i : Item) → In i (items v steps) → Seen v steps i
seen_in v [] i there = absurd there
seen_in v (x ∷ steps) i (inl e) = record { step = x; there = inl refl; is = e }
seen_in v (x ∷ steps) i (inr there) = let s = seen_in v steps i there in record { step = s.step; there = inr s.there; is = s.is }

-- a resume is only caused by the step of its call before
pub resumes : (S : Setting) (past : List HandlerStep) (c : Call) (m : Moment) → Cause S past c m → (handler : ℕ) (frame : List ℕ) (reply : Reply) → m ≡ Moment.Resume handler frame reply
    → Resumes S past c m
resumes S past c m (Cause.Root root) handler frame reply e = absurd (let both : Moment.Begin c.handler.index S.arg ≡ Moment.Resume handler frame reply = sym root.moment ∙ e in cc)
resumes S past c m (Cause.Called y there calls) handler frame reply e =
    absurd (let both : Moment.Begin c.handler.index calls.arg ≡ Moment.Resume handler frame reply = sym calls.moment ∙ e in cc)
resumes S past c m (Cause.Deferred y there calls) handler frame reply e =
    absurd (let both : Moment.Begin c.handler.index calls.arg ≡ Moment.Resume handler frame reply = sym calls.moment ∙ e in cc)
resumes S past c m (Cause.Resumed r) handler frame reply e = r

-- a resume of the box, as it is seen
resumed_from : (script : Script) (exts : List Ext) (v : ℕ) (past : List HandlerStep) (x : HandlerStep) → IsTrace script exts past → (f : FollowsIn script exts past x) → IsAt x v 6
    → (handler : ℕ) (frame : List ℕ) (reply : Reply) → x.moment ≡ Moment.Resume handler frame reply → ResumesFrom (items v past) (item v x) handler frame
resumed_from script exts v past x trace f at handler frame reply e = record {
  between = items v r.since;
  from = item v r.last;
  before = items v r.before;
  is = ap (items v) r.split ∙ map-append (item v) r.since (r.last ∷ r.before);
  here = test_here v 6 r.last (at.0 ∙ (f.follows.node ∙ sym on.acts.node), at.1 ∙ ap (λ (c : Call). c.handler.micro.0) (sym on.call));
  same = record { computation = on.acts.comp ∙ sym f.follows.comp; call = ap (λ (c : Call). c.number) on.call };
  of = step-index script exts b.earlier r.last b.follows
      ∙ (ap (λ (c : Call). c.handler.index) on.call ∙ (sym (step-index script exts past x f) ∙ ap handler_of e));
  carries = carried_is r.last.outcome ∙ (on.frame_is ∙ ap (λ (g : List ℕ). Some g) same_frame);
  effective = on.acts.effective;
  last = λ j there same. apart j (seen_in v r.since j there) same;
}
  where
    r : Resumes (setting f) past x.call x.moment
    r = resumes (setting f) past x.call x.moment f.follows.cause handler frame reply e

    on : GoesOn (setting f) r.last x.call x.moment
    on = r.goes_on

    b : Before script exts past r.last
    b = before script exts past r.last trace (subst (λ (zs : List HandlerStep). In r.last zs) (sym r.split) (in_middle r.last r.since r.before))

    same_frame : on.frame ≡ frame
    same_frame = let both : Moment.Resume x.call.handler.index on.frame on.reply ≡ Moment.Resume handler frame reply = sym on.moment ∙ e in cc

    apart : (j : Item) → Seen v r.since j → SameCall (item v r.last) j → ⊥
    apart j s same =
        let less : r.last.call.number < s.step.call.number =
        each_in (λ (z : HandlerStep). r.last.call.number < z.call.number) r.since s.step (nested-numbers (setting f) r.last r.since r.nested) s.there in
        let is : r.last.call.number ≡ s.step.call.number = same.call ∙ ap (λ (k : Item). k.call) s.is in
        omega arith

caused : (script : Script) (exts : List Ext) (v : ℕ) (past : List HandlerStep) (x : HandlerStep) → IsTrace script exts past → (f : FollowsIn script exts past x) → IsAt x v 6
    → (m : Moment) → x.moment ≡ m → seen.IsCaused (items v past) (item v x) m
caused script exts v past x trace f at (Moment.Begin handler arg) e = tt
caused script exts v past x trace f at (Moment.Resume handler frame reply) e = resumed_from script exts v past x trace f at handler frame reply e

-- what is handed on with effect goes on at once
record Awaits (v : ℕ) (b : HandlerStep) (frame : List ℕ) : Type 0 where
  here : is_repl v b ≡ true
  effective : b.effective ≡ true
  gives : handed_frame b.outcome ≡ Some frame

awaits : (v : ℕ) (b : HandlerStep) (past : List HandlerStep) (frame : List ℕ) → awaited (items v (b ∷ past)) ≡ Some frame → Awaits v b frame
awaits v b past frame e = go (is_repl v b) b.effective refl refl e
  where
    go : (h a : Bool) → is_repl v b ≡ h → b.effective ≡ a → (if h then (if a then handed_frame b.outcome else None) else None) ≡ Some frame → Awaits v b frame
    go true true p q g = record { here = p; effective = q; gives = g }
    go true false p q g = cc
    go false a p q g = cc

record Handed (S : Setting) (b : HandlerStep) (frame : List ℕ) (c : Call) (m : Moment) : Type 0 where
  call : c ≡ b.call
  moment : m ≡ resume c frame (Reply.Words [])

handed : (S : Setting) (b : HandlerStep) (frame : List ℕ) (c : Call) (m : Moment) (o : Outcome) → handed_frame o ≡ Some frame → Leads S b.call o c m → Handed S b frame c m
handed S b frame c m (Outcome.Deliver arg g) e leads = let same : g ≡ frame = cc in record { call = leads.call; moment = leads.moment ∙ ap (λ (h : List ℕ). resume c h (Reply.Words [])) same }
handed S b frame c m (Outcome.Change change arg g) e leads = let same : g ≡ frame = cc in record { call = leads.call; moment = leads.moment ∙ ap (λ (h : List ℕ). resume c h (Reply.Words [])) same }
handed S b frame c m (Outcome.Done reply) e leads = cc
handed S b frame c m (Outcome.Call event arg g) e leads = cc
handed S b frame c m (Outcome.Later event arg g) e leads = cc
handed S b frame c m (Outcome.Send to event arg g) e leads = cc

asks_on : (o : Outcome) (frame : List ℕ) → handed_frame o ≡ Some frame → is_done o ≡ false
asks_on (Outcome.Deliver arg g) frame e = refl
asks_on (Outcome.Change change arg g) frame e = refl
asks_on (Outcome.Done reply) frame e = cc
asks_on (Outcome.Call event arg g) frame e = refl
asks_on (Outcome.Later event arg g) frame e = refl
asks_on (Outcome.Send to event arg g) frame e = refl

next_of : (script : Script) (exts : List Ext) (v : ℕ) (b : HandlerStep) (past : List HandlerStep) (x : HandlerStep) → IsTrace script exts (b ∷ past)
    → FollowsIn script exts (b ∷ past) x → (frame : List ℕ) → awaited (items v (b ∷ past)) ≡ Some frame → seen.ComesAtOnce (item v b) (item v x) frame
next_of script exts v b past x trace f frame e = record {
  here = test_here v 6 x (at.0 ∙ (next.acts.node ∙ sym f.follows.node), at.1 ∙ ap (λ (c : Call). c.handler.micro.0) (sym h.call));
  same = record { computation = next.acts.comp ∙ sym f.follows.comp; call = ap (λ (c : Call). c.number) (sym h.call) };
  reply = Reply.Words [];
  resumes = h.moment ∙ ap (λ (n : ℕ). Moment.Resume n frame (Reply.Words [])) (ap (λ (c : Call). c.handler.index) h.call ∙ sym (step-index script exts past b trace.0));
}
  where
    a : Awaits v b frame
    a = awaits v b past frame e

    at : IsAt b v 6
    at = is_here v 6 b a.here

    next : IsNext (setting f) b x.call x.moment
    next = goes_on_at_once script exts b past x f a.effective (asks_on b.outcome frame a.gives)

    h : Handed (setting f) b frame x.call x.moment
    h = handed (setting f) b frame x.call x.moment b.outcome a.gives next.leads

at_once : (script : Script) (exts : List Ext) (v : ℕ) (past : List HandlerStep) (x : HandlerStep) → IsTrace script exts past → FollowsIn script exts past x
    → seen.GoesOnAtOnce (items v past) (item v x)
at_once script exts v [] x trace f = tt
at_once script exts v (b ∷ past) x trace f = λ frame e. next_of script exts v b past x trace f frame e

-- what is seen from the box is a trace
pub seen_trace : (script : Script) (exts : List Ext) → IsGroup script → (v : ℕ) (past : List HandlerStep) → IsTrace script exts past
    → seen.IsTrace (repl_setup script v) (items v past)
seen_trace script exts group v [] trace = tt
seen_trace script exts group v (x ∷ past) trace =
    (λ here. is_made (is_here v 6 x here), at_once script exts v past x trace.1 trace.0, seen_trace script exts group v past trace.1)
  where
    is_made : IsAt x v 6 → seen.IsMade (repl_setup script v) (items v past) (item v x)
    is_made at =
        let m : Made script v past x = made script exts group v past x trace.0 at (box_state script exts group v past trace.1) in
        let old : repl_state x.old ≡ left_by (repl_at v past) = ap repl_state m.old in
        record {
          old = old ∙ ap (λ (l : List Step). left_by l) (sym (box_of_items v past));
          new = ap repl_state m.new ∙ ap (λ (s : ReplState). (table s).0) (sym old);
          outcome = m.outcome ∙ ap (λ (s : ReplState). (table s).1) (sym old);
          caused = caused script exts v past x trace.1 trace.0 at x.moment refl;
        }
      where
        table : ReplState → ReplState × Outcome
        table s = repl_step (repl_setup script v) s x.moment

-- the steps of the box are a history of it
pub history_at : (script : Script) (exts : List Ext) → IsGroup script → (v : ℕ) (past : List HandlerStep) → IsTrace script exts past
    → IsHistory (repl_setup script v) (repl_at v past)
history_at script exts group v past trace =
    subst (IsHistory (repl_setup script v)) (box_of_items v past) (trace_history (repl_setup script v) (items v past) (seen_trace script exts group v past trace))

pub goes_on_at : (script : Script) (exts : List Ext) → IsGroup script → (v : ℕ) (past : List HandlerStep) → IsTrace script exts past → GoesOnAtOnce (repl_at v past)
goes_on_at script exts group v past trace =
    subst GoesOnAtOnce (box_of_items v past) (trace_goes_on (repl_setup script v) (items v past) (seen_trace script exts group v past trace))

-- where the trace ends well, nothing waits
nothing_waits : (v : ℕ) (past : List HandlerStep) → EndsWell past → awaited (items v past) ≡ None
nothing_waits v [] ended = refl
nothing_waits v (b ∷ past) ended = go (awaited (items v (b ∷ past))) refl
  where
    go : (o : Option (List ℕ)) → awaited (items v (b ∷ past)) ≡ o → o ≡ None
    go None e = refl
    go (Some frame) e =
        let a : Awaits v b frame = awaits v b past frame e in
        absurd (let both : true ≡ false = sym (ended a.effective) ∙ asks_on b.outcome frame a.gives in cc)

pub rests_at : (script : Script) (exts : List Ext) → IsGroup script → (v : ℕ) (past : List HandlerStep) → IsTrace script exts past → EndsWell past → given (repl_at v past) ≡ None
rests_at script exts group v past trace ended =
    ap (λ (l : List Step). given l) (sym (box_of_items v past))
    ∙ trace_rests (repl_setup script v) (items v past) (seen_trace script exts group v past trace) (nothing_waits v past ended)

-- there are no more of them than steps
pub length-repl_at : (v : ℕ) (past : List HandlerStep) → length (repl_at v past) ≤ length past
length-repl_at v [] = omega arith
length-repl_at v (x ∷ past) = go (is_repl v x) (length-repl_at v past)
  where
    go : (b : Bool) → length (repl_at v past) ≤ length past → length (if b then repl_step_of x ∷ repl_at v past else repl_at v past) ≤ suc (length past)
    go true le = omega arith
    go false le = omega arith
