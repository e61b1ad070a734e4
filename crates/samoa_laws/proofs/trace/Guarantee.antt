-- A proof along a trace by what each step may assume and what it guarantees.
use Rattle.std.proofs.Common.{◌≡◌, ◌⊎◌, ℕ, inl, inr, sym, subst, ◌∙◌, List, [], ◌∷◌, Some, true}
use Rattle.std.specs.Prelude.{⊤}
use Rattle.samoa_model.specs.declared.ids.EventId.{EventId}
use Rattle.samoa_model.specs.declared.ids.HandlerId.{HandlerId}
use Rattle.samoa_model.specs.declared.handler.Dest.{Dest}
use Rattle.samoa_model.specs.declared.handler.Moment.{Moment}
use Rattle.samoa_model.specs.declared.handler.Outcome.{Outcome}
use Rattle.samoa_model.specs.declared.handler.Reply.{Reply}
use Rattle.samoa_model.specs.declared.record.Ext.{Ext}
use Rattle.samoa_model.specs.declared.script.Script.{Script}
use Rattle.samoa_serial.specs.declared.call.Call.{Call}
use Rattle.samoa_serial.specs.State.{State}
use Rattle.samoa_serial.specs.World.{resume}
use Rattle.samoa_serial.specs.SerialRun.{opening_states}
use Rattle.samoa_serial.specs.Lists.{In}
use Rattle.samoa_laws.specs.trace.Trace.{HandlerStep, micro_of, state_at}
use Rattle.samoa_laws.specs.trace.Causes.{Cause, FollowsIn, GoesOn, IsRoot, IsTrace, Setting, frame_of}
use Rattle.samoa_serial.proofs.ListLaws.{in_middle}
use Rattle.samoa_laws.proofs.trace.Steps.{IsAt, IsAway, at_or_away, same_setting, setting, state_at-away, state_at-here}

-- what is claimed, after these steps: that a moment of a handler at a node is good, that a message from a node is
-- good, that a box may have this state
pub record Claims : Type 1 where
  pub Good : List HandlerStep → ℕ → HandlerId → Moment → Type 0
  pub Message : List HandlerStep → ℕ → Dest → EventId → List ℕ → Type 0
  pub Box : List HandlerStep → ℕ → ℕ → State → Type 0

-- each handler of the event may begin so
abbrev pub MayBegin : Claims → (EventId → List HandlerId) → List HandlerStep → ℕ → EventId → List ℕ → Type 0
MayBegin C handlers past v event arg = (h : HandlerId) → In h (handlers event) → C.Good past v h (Moment.Begin h.index arg)

-- the handler may go on so, whatever the reply
abbrev pub MayGoOn : Claims → List HandlerStep → ℕ → HandlerId → List ℕ → Type 0
MayGoOn C past v h frame = (reply : Reply) → C.Good past v h (Moment.Resume h.index frame reply)

-- what a step of this handler owes where its outcome takes effect
abbrev pub Owes : Claims → (EventId → List HandlerId) → List HandlerStep → ℕ → HandlerId → Outcome → Type 0
Owes C handlers past v h (Outcome.Done reply) = ⊤
Owes C handlers past v h (Outcome.Call event arg frame) = MayBegin C handlers past v event arg × MayGoOn C past v h frame
Owes C handlers past v h (Outcome.Later event arg frame) = MayBegin C handlers past v event arg × MayGoOn C past v h frame
Owes C handlers past v h (Outcome.Send to event arg frame) = C.Message past v to event arg × MayGoOn C past v h frame
Owes C handlers past v h (Outcome.Deliver arg frame) = MayGoOn C past v h frame
Owes C handlers past v h (Outcome.Change change arg frame) = MayGoOn C past v h frame

-- every message that was sent is good
abbrev pub AllSent : Claims → List HandlerStep → Type 0
AllSent C past = (y : HandlerStep) → In y past → y.effective ≡ true → (to : Dest) (event : EventId) (arg frame : List ℕ)
    → y.outcome ≡ Outcome.Send to event arg frame → C.Message past y.node to event arg

-- what is to be shown: claims are kept when the history grows, opening states and root moments are good, and each step
-- whose moment and old state are good leaves a good state and owes nothing
pub record Keeps (C : Claims) (script : Script) (exts : List Ext) : Type 0 where
  pub good_more : (x : HandlerStep) (past : List HandlerStep) (v : ℕ) (h : HandlerId) (m : Moment) → C.Good past v h m → C.Good (x ∷ past) v h m
  pub message_more : (x : HandlerStep) (past : List HandlerStep) (v : ℕ) (to : Dest) (event : EventId) (arg : List ℕ)
      → C.Message past v to event arg → C.Message (x ∷ past) v to event arg
  pub box_more : (x : HandlerStep) (past : List HandlerStep) (v p : ℕ) (s : State) → IsAway x v p → C.Box past v p s → C.Box (x ∷ past) v p s
  pub opening : (v p : ℕ) → C.Box [] v p (opening_states script v p)
  pub root : (past : List HandlerStep) (x : HandlerStep) (f : FollowsIn script exts past x) → IsTrace script exts past → AllSent C past
      → IsRoot (setting f) x.call x.moment → C.Good past x.node x.call.handler x.moment
  pub step : (past : List HandlerStep) (x : HandlerStep) (f : FollowsIn script exts past x) → IsTrace script exts past
      → C.Good past x.node x.call.handler x.moment → C.Box past x.node (micro_of x) x.old
      → C.Box (x ∷ past) x.node (micro_of x) x.new × (x.effective ≡ true → Owes C (setting f).handlers (x ∷ past) x.node x.call.handler x.outcome)

-- the step's moment was good, and it owes nothing
pub record IsSound (C : Claims) {script : Script} {exts : List Ext} {past : List HandlerStep} {x : HandlerStep} (f : FollowsIn script exts past x) : Type 0 where
  pub good : C.Good past x.node x.call.handler x.moment
  pub owes : x.effective ≡ true → Owes C (setting f).handlers (x ∷ past) x.node x.call.handler x.outcome

abbrev pub Sound : Claims → (script : Script) (exts : List Ext) (past : List HandlerStep) → IsTrace script exts past → Type 0
Sound C script exts [] trace = ⊤
Sound C script exts (x ∷ past) trace = IsSound C trace.0 × Sound C script exts past trace.1

owes-more : (C : Claims) (script : Script) (exts : List Ext) → Keeps C script exts → (handlers : EventId → List HandlerId) (x : HandlerStep) (past : List HandlerStep)
    (v : ℕ) (h : HandlerId) (o : Outcome) → Owes C handlers past v h o → Owes C handlers (x ∷ past) v h o
owes-more C script exts keeps handlers x past v h (Outcome.Done reply) owes = tt
owes-more C script exts keeps handlers x past v h (Outcome.Call event arg frame) owes =
    (λ g i. keeps.good_more x past v g _ (owes.0 g i), λ r. keeps.good_more x past v h _ (owes.1 r))
owes-more C script exts keeps handlers x past v h (Outcome.Later event arg frame) owes =
    (λ g i. keeps.good_more x past v g _ (owes.0 g i), λ r. keeps.good_more x past v h _ (owes.1 r))
owes-more C script exts keeps handlers x past v h (Outcome.Send to event arg frame) owes =
    (keeps.message_more x past v to event arg owes.0, λ r. keeps.good_more x past v h _ (owes.1 r))
owes-more C script exts keeps handlers x past v h (Outcome.Deliver arg frame) owes = λ r. keeps.good_more x past v h _ (owes r)
owes-more C script exts keeps handlers x past v h (Outcome.Change change arg frame) owes = λ r. keeps.good_more x past v h _ (owes r)

-- what an earlier step promised stands
pub record Promised (C : Claims) (script : Script) (exts : List Ext) (past : List HandlerStep) (y : HandlerStep) : Type 0 where
  pub earlier : List HandlerStep
  pub follows : FollowsIn script exts earlier y
  pub owes : y.effective ≡ true → Owes C (setting follows).handlers past y.node y.call.handler y.outcome

pub promised : (C : Claims) (script : Script) (exts : List Ext) → Keeps C script exts → (past : List HandlerStep) (trace : IsTrace script exts past)
    → Sound C script exts past trace → (y : HandlerStep) → In y past → Promised C script exts past y
promised C script exts keeps [] trace sound y there = absurd there
promised C script exts keeps (x ∷ past) trace sound y (inl e) =
    subst (λ (z : HandlerStep). Promised C script exts (x ∷ past) z) (sym e) (record { earlier = past; follows = trace.0; owes = sound.0.owes })
promised C script exts keeps (x ∷ past) trace sound y (inr there) =
    let p = promised C script exts keeps past trace.1 sound.1 y there in
    record { earlier = p.earlier; follows = p.follows; owes = λ e. owes-more C script exts keeps (setting p.follows).handlers x past y.node y.call.handler y.outcome (p.owes e) }

pub all_sent : (C : Claims) (script : Script) (exts : List Ext) → Keeps C script exts → (past : List HandlerStep) (trace : IsTrace script exts past)
    → Sound C script exts past trace → AllSent C past
all_sent C script exts keeps past trace sound y there effective to event arg frame is =
    let p = promised C script exts keeps past trace sound y there in
    (subst (λ (o : Outcome). Owes C (setting p.follows).handlers past y.node y.call.handler o) is (p.owes effective)).0

-- what an outcome with this frame owes its call
may_go_on : (C : Claims) (handlers : EventId → List HandlerId) (past : List HandlerStep) (v : ℕ) (h : HandlerId) (o : Outcome) (frame : List ℕ)
    → frame_of o ≡ Some frame → Owes C handlers past v h o → MayGoOn C past v h frame
may_go_on C handlers past v h (Outcome.Done reply) frame is owes = cc
may_go_on C handlers past v h (Outcome.Call event arg f) frame is owes = let same : f ≡ frame = cc in subst (λ (g : List ℕ). MayGoOn C past v h g) same owes.1
may_go_on C handlers past v h (Outcome.Later event arg f) frame is owes = let same : f ≡ frame = cc in subst (λ (g : List ℕ). MayGoOn C past v h g) same owes.1
may_go_on C handlers past v h (Outcome.Send to event arg f) frame is owes = let same : f ≡ frame = cc in subst (λ (g : List ℕ). MayGoOn C past v h g) same owes.1
may_go_on C handlers past v h (Outcome.Deliver arg f) frame is owes = let same : f ≡ frame = cc in subst (λ (g : List ℕ). MayGoOn C past v h g) same owes
may_go_on C handlers past v h (Outcome.Change change arg f) frame is owes = let same : f ≡ frame = cc in subst (λ (g : List ℕ). MayGoOn C past v h g) same owes

good-cause : (C : Claims) (script : Script) (exts : List Ext) → Keeps C script exts → (past : List HandlerStep) (trace : IsTrace script exts past)
    → Sound C script exts past trace → (x : HandlerStep) (f : FollowsIn script exts past x) → Cause (setting f) past x.call x.moment
    → C.Good past x.node x.call.handler x.moment
good-cause C script exts keeps past trace sound x f (Cause.Root root) = keeps.root past x f trace (all_sent C script exts keeps past trace sound) root
good-cause C script exts keeps past trace sound x f (Cause.Called y there calls) =
    let p = promised C script exts keeps past trace sound y there in
    let same : setting p.follows ≡ setting f = same_setting script exts p.earlier past y x p.follows f (calls.acts.comp ∙ sym f.follows.comp) in
    let owes : Owes C (setting f).handlers past x.node y.call.handler (Outcome.Call calls.event calls.arg calls.frame) =
    subst (λ (o : Outcome). Owes C (setting f).handlers past x.node y.call.handler o) calls.outcome
    (subst (λ (v : ℕ). Owes C (setting f).handlers past v y.call.handler y.outcome) (calls.acts.node ∙ sym f.follows.node)
    (subst (λ (S : Setting). Owes C S.handlers past y.node y.call.handler y.outcome) same (p.owes calls.acts.effective))) in
    subst (λ (m : Moment). C.Good past x.node x.call.handler m) (sym calls.moment) (owes.0 x.call.handler calls.bound)
good-cause C script exts keeps past trace sound x f (Cause.Deferred y there calls) =
    let p = promised C script exts keeps past trace sound y there in
    let same : setting p.follows ≡ setting f = same_setting script exts p.earlier past y x p.follows f (calls.acts.comp ∙ sym f.follows.comp) in
    let owes : Owes C (setting f).handlers past x.node y.call.handler (Outcome.Later calls.event calls.arg calls.frame) =
    subst (λ (o : Outcome). Owes C (setting f).handlers past x.node y.call.handler o) calls.outcome
    (subst (λ (v : ℕ). Owes C (setting f).handlers past v y.call.handler y.outcome) (calls.acts.node ∙ sym f.follows.node)
    (subst (λ (S : Setting). Owes C S.handlers past y.node y.call.handler y.outcome) same (p.owes calls.acts.effective))) in
    subst (λ (m : Moment). C.Good past x.node x.call.handler m) (sym calls.moment) (owes.0 x.call.handler calls.bound)
good-cause C script exts keeps past trace sound x f (Cause.Resumed r) =
    let y : HandlerStep = r.last in
    let on : GoesOn (setting f) y x.call x.moment = r.goes_on in
    let there : In y past = subst (λ (zs : List HandlerStep). In y zs) (sym r.split) (in_middle y r.since r.before) in
    let p = promised C script exts keeps past trace sound y there in
    let owes : Owes C (setting p.follows).handlers past x.node y.call.handler y.outcome =
    subst (λ (v : ℕ). Owes C (setting p.follows).handlers past v y.call.handler y.outcome) (on.acts.node ∙ sym f.follows.node) (p.owes on.acts.effective) in
    subst (λ (m : Moment). C.Good past x.node x.call.handler m) (sym on.moment)
    (subst (λ (c : Call). C.Good past x.node c.handler (resume c on.frame on.reply)) on.call
    (may_go_on C (setting p.follows).handlers past x.node y.call.handler y.outcome on.frame on.frame_is owes on.reply))

-- then every step is sound, and every box has a state that it may have
pub record AllSound (C : Claims) (script : Script) (exts : List Ext) (past : List HandlerStep) (trace : IsTrace script exts past) : Type 0 where
  pub sound : Sound C script exts past trace
  pub boxes : (v p : ℕ) → C.Box past v p (state_at (opening_states script) past v p)

pub guaranteed : (C : Claims) (script : Script) (exts : List Ext) → Keeps C script exts → (past : List HandlerStep) (trace : IsTrace script exts past)
    → AllSound C script exts past trace
guaranteed C script exts keeps [] trace = record { sound = tt; boxes = keeps.opening }
guaranteed C script exts keeps (x ∷ past) trace =
    let ih = guaranteed C script exts keeps past trace.1 in
    let f : FollowsIn script exts past x = trace.0 in
    let good : C.Good past x.node x.call.handler x.moment = good-cause C script exts keeps past trace.1 ih.sound x f f.follows.cause in
    let old : C.Box past x.node (micro_of x) x.old = subst (C.Box past x.node (micro_of x)) (sym f.follows.old) (ih.boxes x.node (micro_of x)) in
    let kept = keeps.step past x f trace.1 good old in
    record {
      sound = (record { good = good; owes = kept.1 }, ih.sound);
      boxes = λ v p. box v p kept.0 (ih.boxes v p) (at_or_away x v p);
    }
  where
    box : (v p : ℕ) → C.Box (x ∷ past) x.node (micro_of x) x.new → C.Box past v p (state_at (opening_states script) past v p) → IsAt x v p ⊎ IsAway x v p
        → C.Box (x ∷ past) v p (state_at (opening_states script) (x ∷ past) v p)
    box v p new before (inl at) =
        subst (C.Box (x ∷ past) v p) (sym (state_at-here (opening_states script) x past v p at))
        (subst (λ (q : ℕ). C.Box (x ∷ past) v q x.new) (sym at.1) (subst (λ (u : ℕ). C.Box (x ∷ past) u (micro_of x) x.new) (sym at.0) new))
    box v p new before (inr away) =
        subst (C.Box (x ∷ past) v p) (sym (state_at-away (opening_states script) x past v p away)) (keeps.box_more x past v p _ away before)
