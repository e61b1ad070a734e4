-- Between a call of `ab_cast` by `switched` and its resume there is no step of the replacement layer.
use Rattle.std.proofs.Common.{◌≡◌, ◌≢◌, ◌⊎◌, ℕ, inl, inr, refl, sym, ap, subst, ◌∙◌, List, [], ◌∷◌, ◌++◌, Bool, if◌then◌else◌}
use Rattle.samoa_model.specs.declared.ids.EventId.{EventId}
use Rattle.samoa_model.specs.declared.ids.HandlerId.{HandlerId}
use Rattle.samoa_model.specs.declared.handler.Moment.{Moment}
use Rattle.samoa_model.specs.declared.handler.Outcome.{Outcome}
use Rattle.samoa_model.specs.declared.handler.Reply.{Reply}
use Rattle.samoa_model.specs.declared.record.Ext.{Ext}
use Rattle.samoa_model.specs.declared.script.Script.{Script}
use Rattle.samoa_serial.specs.ReplTable.{repl_step}
use Rattle.samoa_serial.specs.Rows.{port_at}
use Rattle.samoa_serial.specs.declared.call.Call.{Call}
use Rattle.samoa_serial.specs.Lists.{Each, In}
use Rattle.samoa_laws.specs.trace.Trace.{HandlerStep, micro_of}
use Rattle.samoa_laws.specs.trace.Causes.{FollowsIn, GoesOn, IsTrace, Resumes, frame_of}
use Rattle.samoa_laws.specs.trace.Group.{IsGroup, handler}
use Rattle.samoa_serial.proofs.ListLaws.{each_weaker, in_left}
use Rattle.samoa_laws.proofs.trace.Nested.{nested-all}
use Rattle.samoa_laws.proofs.trace.Steps.{Before, IsAt, before, setting, trace-rest}
use Rattle.samoa_laws.proofs.trace.Worlds.{outcome_is}
use Rattle.samoa_laws.specs.replacement.Casts.{CalledOn, handler_of}
use Rattle.samoa_laws.specs.replacement.History.{left_by}
use Rattle.samoa_laws.specs.replacement.Trace.{carried}
use Rattle.samoa_laws.proofs.replacement.Traces.{switch_calls}
use Rattle.samoa_laws.specs.streams.Streams.{repl_setup, repl_at, repl_step_of}
use Rattle.samoa_laws.proofs.trace.Boxes.{IsElsewhere, IsHere, here_or_away, test_here}
use Rattle.samoa_laws.proofs.streams.Boxes.{Made, box_state, made}
use Rattle.samoa_laws.proofs.streams.Down.{Down, DownCasts, DownSubmits, below_down, down_calls, down_goes_on, not_repl}
use Rattle.samoa_laws.proofs.streams.Listed.{listed}
use Rattle.samoa_laws.proofs.streams.Views.{carried_is, resumes, step-index}

-- steps elsewhere leave the history of the box as it is
pub repl_at-passes : (v : ℕ) (steps past : List HandlerStep) → Each (λ (z : HandlerStep). micro_of z ≢ 6) steps → repl_at v (steps ++ past) ≡ repl_at v past
repl_at-passes v [] past all = refl
repl_at-passes v (z ∷ steps) past all = go (here_or_away v 6 z) (repl_at-passes v steps past all.1)
  where
    go : IsHere v 6 z ⊎ IsElsewhere v 6 z → repl_at v (steps ++ past) ≡ repl_at v past → repl_at v (z ∷ (steps ++ past)) ≡ repl_at v past
    go (inl here) ih = absurd (all.0 (sym here.at.1))
    go (inr away) ih = ap (λ (b : Bool). if b then repl_step_of z ∷ repl_at v (steps ++ past) else repl_at v (steps ++ past)) away.test ∙ ih

-- the step of the box that a resume of `switched` goes on from
pub record SwitchedFrom (script : Script) (exts : List Ext) (v : ℕ) (past : List HandlerStep) : Type 0 where
  pub last : HandlerStep
  pub since : List HandlerStep
  pub earlier : List HandlerStep
  pub split : past ≡ since ++ last ∷ earlier
  pub follows : FollowsIn script exts earlier last
  pub at : IsAt last v 6
  pub index : handler_of last.moment ≡ 2
  pub arg : List ℕ
  pub frame : List ℕ
  pub calls : last.outcome ≡ Outcome.Call (port_at (repl_setup script v) 0) arg frame
  pub alone : Each (λ (z : HandlerStep). micro_of z ≢ 6) since

pub switched_from : (script : Script) (exts : List Ext) → IsGroup script → (v : ℕ) (past : List HandlerStep) (x : HandlerStep) → IsTrace script exts past
    → (f : FollowsIn script exts past x) → IsAt x v 6 → (frame : List ℕ) (reply : Reply) → x.moment ≡ Moment.Resume 2 frame reply → SwitchedFrom script exts v past
switched_from script exts group v past x trace f at frame reply e = record {
  last = r.last;
  since = r.since;
  earlier = r.before;
  split = r.split;
  follows = last_follows;
  at = last_at;
  index = last_index;
  arg = calls.0;
  frame = calls.1;
  calls = m.outcome ∙ calls.2;
  alone = each_weaker (λ (z : HandlerStep). Down z.call.handler z.moment) (λ (z : HandlerStep). micro_of z ≢ 6) (λ z d. not_repl z.call.handler z.moment d) r.since within;
}
  where
    r : Resumes (setting f) past x.call x.moment
    r = resumes (setting f) past x.call x.moment f.follows.cause 2 frame reply e

    on : GoesOn (setting f) r.last x.call x.moment
    on = r.goes_on

    last_trace : IsTrace script exts (r.last ∷ r.before)
    last_trace = trace-rest script exts r.since (r.last ∷ r.before) (subst (IsTrace script exts) r.split trace)

    last_follows : FollowsIn script exts r.before r.last
    last_follows = last_trace.0

    last_at : IsAt r.last v 6
    last_at = (at.0 ∙ (f.follows.node ∙ sym on.acts.node), at.1 ∙ ap (λ (c : Call). c.handler.micro.0) (sym on.call))

    last_index : handler_of r.last.moment ≡ 2
    last_index =
        step-index script exts r.before r.last last_follows
        ∙ (ap (λ (c : Call). c.handler.index) on.call ∙ (sym (step-index script exts past x f) ∙ ap handler_of e))

    m : Made script v r.before r.last
    m = made script exts group v r.before r.last last_follows last_at (box_state script exts group v r.before last_trace.1)

    calls : (arg : List ℕ) × (given : List ℕ) × ((repl_step (repl_setup script v) (left_by (repl_at v r.before)) r.last.moment).1 ≡ Outcome.Call (port_at (repl_setup script v) 0) arg given)
    calls =
        switch_calls (repl_setup script v) (left_by (repl_at v r.before)) r.last.moment last_index on.frame
        (ap carried (sym m.outcome) ∙ (carried_is r.last.outcome ∙ on.frame_is))

    first : (event : EventId) (arg fr : List ℕ) → r.last.outcome ≡ Outcome.Call event arg fr → (h : HandlerId) → In h ((setting f).handlers event) → Down h (Moment.Begin h.index arg)
    first event arg fr out h there = go ((listed script exts group past x f event).ab_cast twelve)
      where
        twelve : event.0 ≡ 12
        twelve =
            let both : Outcome.Call (port_at (repl_setup script v) 0) calls.0 calls.1 ≡ Outcome.Call event arg fr = sym (m.outcome ∙ calls.2) ∙ out in
            let same : event ≡ port_at (repl_setup script v) 0 = cc in
            ap (λ (k : EventId). k.0) same

        go : ((setting f).handlers event ≡ handler 4 0 ∷ []) ⊎ ((setting f).handlers event ≡ handler 5 0 ∷ []) → Down h (Moment.Begin h.index arg)
        go (inl is) = one (subst (λ (hs : List HandlerId). In h hs) is there)
          where
            one : In h (handler 4 0 ∷ []) → Down h (Moment.Begin h.index arg)
            one (inl same) = DownCasts same
            one (inr out) = absurd out
        go (inr is) = one (subst (λ (hs : List HandlerId). In h hs) is there)
          where
            one : In h (handler 5 0 ∷ []) → Down h (Moment.Begin h.index arg)
            one (inl same) = DownSubmits same
            one (inr out) = absurd out

    step_before : (z : HandlerStep) → In z r.since → Before script exts past z
    step_before z there = before script exts past z trace (subst (λ (zs : List HandlerStep). In z zs) (sym r.split) (in_left z r.since (r.last ∷ r.before) there))

    within : Each (λ (z : HandlerStep). Down z.call.handler z.moment) r.since
    within =
        nested-all (setting f) Down r.last r.since first
        (record {
          calls = λ z there d acts event arg fr out h bound.
              let b = step_before z there in
              below_down event.0 arg
              (down_calls script.nodes z.node z.old z.call.handler z.moment d (step-index script exts b.earlier z b.follows) event arg fr
              (sym (outcome_is script exts group b.earlier z b.follows) ∙ out))
              ((setting f).handlers event) (listed script exts group past x f event) h bound;
          goes_on = λ z there d acts fr rep gives.
              let b = step_before z there in
              down_goes_on script.nodes z.node z.old z.call.handler z.moment d (step-index script exts b.earlier z b.follows) fr rep
              (ap frame_of (sym (outcome_is script exts group b.earlier z b.follows)) ∙ gives);
        })
        r.nested

-- so the box's last step before the resume is the one that called
pub called_on : (script : Script) (exts : List Ext) → IsGroup script → (v : ℕ) (past : List HandlerStep) (x : HandlerStep) → IsTrace script exts past
    → FollowsIn script exts past x → IsAt x v 6 → (frame : List ℕ) (reply : Reply) → x.moment ≡ Moment.Resume 2 frame reply → CalledOn (repl_at v past)
called_on script exts group v past x trace f at frame reply e =
    let s : SwitchedFrom script exts v past = switched_from script exts group v past x trace f at frame reply e in
    let is : repl_at v past ≡ repl_step_of s.last ∷ repl_at v s.earlier =
    ap (λ (zs : List HandlerStep). repl_at v zs) s.split
    ∙ (repl_at-passes v s.since (s.last ∷ s.earlier) s.alone
    ∙ ap (λ (b : Bool). if b then repl_step_of s.last ∷ repl_at v s.earlier else repl_at v s.earlier) (test_here v 6 s.last s.at)) in
    subst CalledOn (sym is) (s.index, port_at (repl_setup script v) 0, s.arg, s.frame, s.calls)
