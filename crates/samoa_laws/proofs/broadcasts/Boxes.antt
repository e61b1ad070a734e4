-- What a box of a broadcast called upwards, read off a trace.
use Rattle.std.proofs.Common.{◌≡◌, ℕ, inl, inr, sym, ap, subst, ◌∙◌, List, [], ◌∷◌, true, Some}
use Rattle.samoa_model.specs.declared.handler.Moment.{Moment}
use Rattle.samoa_model.specs.declared.handler.Outcome.{Outcome}
use Rattle.samoa_model.specs.declared.handler.Reply.{Reply}
use Rattle.samoa_model.specs.declared.record.Ext.{Ext}
use Rattle.samoa_model.specs.declared.script.Script.{Script}
use Rattle.samoa_serial.specs.declared.call.Call.{Call}
use Rattle.samoa_serial.specs.declared.message.Message.{Message}
use Rattle.samoa_serial.specs.Rows.{message_at, message_words, word}
use Rattle.samoa_serial.specs.Lists.{In}
use Rattle.samoa_laws.specs.trace.Trace.{HandlerStep}
use Rattle.samoa_laws.specs.trace.Causes.{Cause, FollowsIn, IsTrace, Resumes, frame_of}
use Rattle.samoa_laws.specs.trace.Group.{IsGroup, event}
use Rattle.samoa_serial.proofs.ListLaws.{in_middle}
use Rattle.samoa_laws.proofs.trace.Steps.{IsAt, setting, trace-rest}
use Rattle.samoa_laws.proofs.trace.Worlds.{group_setup}
use Rattle.samoa_laws.specs.trace.Boxes.{BoxStep, left_by, noted}
use Rattle.samoa_laws.specs.broadcasts.Boxes.{raised, raised_by}
use Rattle.samoa_laws.proofs.trace.Boxes.{Box, in_noted, noted_new, Made, in_box, made_at, steps_of}
use Rattle.samoa_laws.specs.trace.Boxes.{box_step}
use Rattle.samoa_laws.proofs.transport.Events.{no_begin}
use Rattle.samoa_laws.proofs.transport.Carried.{begin_index, moment_of}

-- a box that calls upwards, at the event 11, and goes on with a frame [1, x] only after such a call
pub record Upward (S : Type 0) : Type 0 where
  pub box : Box S
  pub goes_on : (nodes v : ℕ) (s : S) (m : Moment) (frame : List ℕ) → frame_of (box.table (group_setup nodes v box.number) s m).1 ≡ Some frame → word frame 0 ≡ 1
      → (k : Message) × (raised_by (box.table (group_setup nodes v box.number) s m).1 ≡ Some (word frame 1, k))
  pub reads : (nodes v : ℕ) (s : S) (m : Moment) (arg frame : List ℕ) → (box.table (group_setup nodes v box.number) s m).1 ≡ Outcome.Call (event 11) arg frame
      → raised_by (box.table (group_setup nodes v box.number) s m).1 ≡ Some (word frame 1, message_at arg 0)
  pub calls : (nodes v : ℕ) (s : S) (m : Moment) (x : ℕ) (k : Message) → raised_by (box.table (group_setup nodes v box.number) s m).1 ≡ Some (x, k)
      → (box.table (group_setup nodes v box.number) s m).1 ≡ Outcome.Call (event 11) (message_words k) (1 ∷ x ∷ [])

-- ---- a call upwards is counted
pub in_raised : {S : Type 0} (steps : List (BoxStep S)) (s : BoxStep S) (e : ℕ × Message) → In s steps → s.effective ≡ true → raised_by s.outcome ≡ Some e → In e (raised steps)
in_raised [] s e there effective is = absurd there
in_raised (t ∷ steps) s e (inl same) effective is =
    subst (λ (u : BoxStep _). In e (noted (raised steps) (raised_by u.outcome) u.effective)) same (noted_new (raised steps) (raised_by s.outcome) s.effective e is effective)
in_raised (t ∷ steps) s e (inr there) effective is = in_noted (raised steps) (raised_by t.outcome) t.effective e (in_raised steps s e there effective is)

-- ---- the moments of a call
frame_same : (i j : ℕ) (frame other : List ℕ) (reply reply' : Reply) → Moment.Resume i frame reply ≡ Moment.Resume j other reply' → frame ≡ other
frame_same i j frame other reply reply' e = cc

-- what begins is the handler's own
pub own_index : (script : Script) (exts : List Ext) (past : List HandlerStep) (x : HandlerStep) → FollowsIn script exts past x → (i : ℕ) (arg : List ℕ)
    → x.moment ≡ Moment.Begin i arg → x.call.handler.index ≡ i
own_index script exts past x f i arg is = begin_index x.call.handler x.moment i arg (moment_of (setting f) past x.call x.moment f.follows.cause) is

-- a call of the box that goes on with [1, x] called upwards with x
pub resumed : {S : Type 0} (b : Upward S) (script : Script) (exts : List Ext) → IsGroup script → (v : ℕ) (past : List HandlerStep) → IsTrace script exts past
    → (x : HandlerStep) → (f : FollowsIn script exts past x) → IsAt x v b.box.number → (i : ℕ) (frame : List ℕ) (reply : Reply) → x.moment ≡ Moment.Resume i frame reply → word frame 0 ≡ 1
    → (m : Message) × In (word frame 1, m) (raised (steps_of b.box v past))
resumed b script exts group v past trace x f at i frame reply is one = go f.follows.cause
  where
    from : Resumes (setting f) past x.call x.moment → (m : Message) × In (word frame 1, m) (raised (steps_of b.box v past))
    from r =
        let t : IsTrace script exts (r.last ∷ r.before) = trace-rest script exts r.since (r.last ∷ r.before) (subst (IsTrace script exts) r.split trace) in
        let here : IsAt r.last v b.box.number =
        (at.0 ∙ (f.follows.node ∙ sym r.goes_on.acts.node), at.1 ∙ ap (λ (c : Call). c.handler.micro.0) (sym r.goes_on.call)) in
        let m : Made b.box script.nodes v (left_by b.box.start (steps_of b.box v r.before)) r.last = made_at b.box script exts group v r.before t.1 r.last t.0 here in
        let same : frame ≡ r.goes_on.frame = frame_same _ _ _ _ _ _ (sym is ∙ r.goes_on.moment) in
        let up : (k : Message) × (raised_by (b.box.table (group_setup script.nodes v b.box.number) (left_by b.box.start (steps_of b.box v r.before)) r.last.moment).1 ≡ Some (word frame 1, k)) =
        b.goes_on script.nodes v (left_by b.box.start (steps_of b.box v r.before)) r.last.moment frame
        (ap frame_of (sym m.outcome) ∙ (r.goes_on.frame_is ∙ ap (λ (fs : List ℕ). Some fs) (sym same))) one in
        let there : In r.last past = subst (λ (ys : List HandlerStep). In r.last ys) (sym r.split) (in_middle r.last r.since r.before) in
        (up.0, in_raised (steps_of b.box v past) (box_step b.box.of r.last) (word frame 1, up.0) (in_box b.box.of r.last past v b.box.number here there) r.goes_on.acts.effective (ap raised_by m.outcome ∙ up.1))

    go : Cause (setting f) past x.call x.moment → (m : Message) × In (word frame 1, m) (raised (steps_of b.box v past))
    go (Cause.Root r) = absurd (no_begin _ _ _ _ _ (sym r.moment ∙ is))
    go (Cause.Called y there c) = absurd (no_begin _ _ _ _ _ (sym c.moment ∙ is))
    go (Cause.Deferred y there d) = absurd (no_begin _ _ _ _ _ (sym d.moment ∙ is))
    go (Cause.Resumed r) = from r
