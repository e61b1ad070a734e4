-- What is claimed of the moments and the messages of the group stack, and that it is kept as the history grows.
use Rattle.std.proofs.Common.{◌≡◌, ◌≢◌, ◌≤◌, ◌⊎◌, ℕ, zero, suc, ◌+◌, inl, inr, refl, sym, ap, subst, ◌∙◌, arith, List, ◌∷◌, length, Bool, true, false, ltb-false, if◌then◌else◌}
use Rattle.std.specs.Prelude.{⊤, nat_lt}
use Rattle.samoa_model.specs.declared.handler.Dest.{Dest}
use Rattle.samoa_model.specs.declared.handler.Moment.{Moment}
use Rattle.samoa_model.specs.declared.handler.Outcome.{Outcome}
use Rattle.samoa_model.specs.declared.handler.Reply.{Reply}
use Rattle.samoa_model.specs.declared.ids.EventId.{EventId}
use Rattle.samoa_model.specs.declared.ids.HandlerId.{HandlerId}
use Rattle.samoa_model.specs.declared.record.Ext.{Ext}
use Rattle.samoa_model.specs.declared.script.Script.{Script}
use Rattle.samoa_serial.specs.Rows.{word}
use Rattle.samoa_serial.specs.Lists.{In}
use Rattle.samoa_laws.specs.trace.Trace.{HandlerStep, micro_of}
use Rattle.samoa_laws.specs.trace.Causes.{FollowsIn}
use Rattle.samoa_laws.specs.trace.Group.{IsGroup, IsTo, event, handler}
use Rattle.samoa_laws.specs.transport.Transport.{IsCalled, IsCast, WasCast, owner}
use Rattle.samoa_laws.proofs.trace.Guarantee.{Claims, MayBegin, MayGoOn}
use Rattle.samoa_serial.proofs.ListLaws.{each_in}
use Rattle.samoa_laws.proofs.trace.Steps.{setting}
use Rattle.samoa_laws.proofs.trace.Worlds.{bound_stands, event_for}

-- a step of the channel's microprotocol at this node told these words
pub record IsTold (past : List HandlerStep) (node to chan : ℕ) (words : List ℕ) : Type 0 where
  pub step : HandlerStep
  pub there : In step past
  pub at : step.node ≡ node
  pub micro : micro_of step ≡ owner chan
  pub effective : step.effective ≡ true
  pub frame : List ℕ
  pub outcome : step.outcome ≡ Outcome.Call (event 1) (to ∷ chan ∷ words) frame
  pub known : chan ≤ 3
  pub short : length words ≤ 10
  pub content : chan ≡ 1 → IsCast past words

-- the words of a call of `send`
pub record IsAsked (past : List HandlerStep) (node : ℕ) (arg : List ℕ) : Type 0 where
  pub to : ℕ
  pub chan : ℕ
  pub words : List ℕ
  pub is : arg ≡ to ∷ chan ∷ words
  pub told : IsTold past node to chan words

-- to this node, or to all
abbrev pub IsFor : Script → ℕ → ℕ → Type 0
IsFor script node to = (to ≡ node) ⊎ (script.nodes ≤ to)

-- the words of a message that came to this node
pub record HasArrived (script : Script) (past : List HandlerStep) (node : ℕ) (arg : List ℕ) : Type 0 where
  pub from : ℕ
  pub to : ℕ
  pub chan : ℕ
  pub words : List ℕ
  pub is : arg ≡ from ∷ chan ∷ words
  pub told : IsTold past from to chan words
  pub here : IsFor script node to

-- the words of a message that was sent
pub record IsMessage (script : Script) (past : List HandlerStep) (node : ℕ) (dest : Dest) (arg : List ℕ) : Type 0 where
  pub to : ℕ
  pub chan : ℕ
  pub words : List ℕ
  pub is : arg ≡ node ∷ chan ∷ words
  pub told : IsTold past node to chan words
  pub dest_is : dest ≡ (if nat_lt to script.nodes then Dest.One (record { 0 = to }) else Dest.All)

-- what came to the receive handler of a channel
pub record Hears (script : Script) (past : List HandlerStep) (node chan : ℕ) (arg : List ℕ) : Type 0 where
  pub from : ℕ
  pub to : ℕ
  pub words : List ℕ
  pub is : arg ≡ from ∷ words
  pub told : IsTold past from to chan words
  pub here : IsFor script node to

-- a frame with which reliable broadcast passes on what was cast
pub record Passes (past : List HandlerStep) (frame : List ℕ) : Type 0 where
  pub words : List ℕ
  pub is : frame ≡ 1 ∷ words
  pub cast : IsCast past words

pub record IsGood (script : Script) (past : List HandlerStep) (v : ℕ) (h : HandlerId) (m : Moment) : Type 0 where
  pub send : (arg : List ℕ) → h ≡ handler 0 0 → m ≡ Moment.Begin 0 arg → IsAsked past v arg
  pub get : (arg : List ℕ) → h ≡ handler 0 1 → m ≡ Moment.Begin 1 arg → HasArrived script past v arg
  pub hear : (chan : ℕ) → chan ≤ 3 → (arg : List ℕ) → h ≡ handler (owner chan) 1 → m ≡ Moment.Begin 1 arg → Hears script past v chan arg
  pub pass : (i : ℕ) (frame : List ℕ) (reply : Reply) → h ≡ handler 2 i → m ≡ Moment.Resume i frame reply → word frame 0 ≡ 1 → Passes past frame
  pub up : (arg : List ℕ) → event_for h ≡ 7 → m ≡ Moment.Begin h.index arg → IsCast past arg
  pub cast : (arg : List ℕ) → h ≡ handler 2 0 → m ≡ Moment.Begin 0 arg → IsCalled past v arg

abbrev pub group_claims : Script → Claims
group_claims script = record {
  Good = IsGood script;
  Message = λ past node to event arg. event.0 ≡ 0 → IsMessage script past node to arg;
  Box = λ past v p s. ⊤;
}

pub called-more : (x : HandlerStep) (past : List HandlerStep) (node : ℕ) (arg : List ℕ) → IsCalled past node arg → IsCalled (x ∷ past) node arg
called-more x past node arg c = record { step = c.step; there = inr c.there; at = c.at; effective = c.effective; frame = c.frame; outcome = c.outcome; by = c.by }

cast-more : (x : HandlerStep) (past : List HandlerStep) (words : List ℕ) → WasCast past words → WasCast (x ∷ past) words
cast-more x past words c = record {
  step = c.step;
  there = inr c.there;
  cast = c.cast;
  arg = c.arg;
  moment = c.moment;
  first = c.first;
  called = called-more x past c.step.node c.arg c.called;
}

pub is_cast-more : (x : HandlerStep) (past : List HandlerStep) (words : List ℕ) → IsCast past words → IsCast (x ∷ past) words
is_cast-more x past words c =
    record { origin = c.origin; number = c.number; rest = c.rest; is = c.is; cast = cast-more x past c.rest c.cast; short = c.short }

pub told-more : (x : HandlerStep) (past : List HandlerStep) (node to chan : ℕ) (words : List ℕ) → IsTold past node to chan words → IsTold (x ∷ past) node to chan words
told-more x past node to chan words t = record {
  step = t.step;
  there = inr t.there;
  at = t.at;
  micro = t.micro;
  effective = t.effective;
  frame = t.frame;
  outcome = t.outcome;
  known = t.known;
  short = t.short;
  content = λ e. is_cast-more x past words (t.content e);
}

pub good-more : (script : Script) (x : HandlerStep) (past : List HandlerStep) (v : ℕ) (h : HandlerId) (m : Moment) → IsGood script past v h m → IsGood script (x ∷ past) v h m
good-more script x past v h m g = record {
  send = λ arg e i. let a = g.send arg e i in record { to = a.to; chan = a.chan; words = a.words; is = a.is; told = told-more x past v a.to a.chan a.words a.told };
  get = λ arg e i. let a = g.get arg e i in
      record { from = a.from; to = a.to; chan = a.chan; words = a.words; is = a.is; told = told-more x past a.from a.to a.chan a.words a.told; here = a.here };
  hear = λ chan le arg e i. let a = g.hear chan le arg e i in
      record { from = a.from; to = a.to; words = a.words; is = a.is; told = told-more x past a.from a.to chan a.words a.told; here = a.here };
  pass = λ i frame reply e is one. let a = g.pass i frame reply e is one in record { words = a.words; is = a.is; cast = is_cast-more x past a.words a.cast };
  up = λ arg e i. is_cast-more x past arg (g.up arg e i);
  cast = λ arg e i. called-more x past v arg (g.cast arg e i);
}

pub message-more : (script : Script) (x : HandlerStep) (past : List HandlerStep) (v : ℕ) (to : Dest) (arg : List ℕ) → IsMessage script past v to arg → IsMessage script (x ∷ past) v to arg
message-more script x past v to arg m =
    record { to = m.to; chan = m.chan; words = m.words; is = m.is; told = told-more x past v m.to m.chan m.words m.told; dest_is = m.dest_is }

-- a message to all or to this node is for it
pub for_node : (script : Script) (node to : ℕ) (dest : Dest) → dest ≡ (if nat_lt to script.nodes then Dest.One (record { 0 = to }) else Dest.All) → IsTo node dest → IsFor script node to
for_node script node to dest is here = go (nat_lt to script.nodes) refl is
  where
    go : (b : Bool) → nat_lt to script.nodes ≡ b → dest ≡ (if b then Dest.One (record { 0 = to }) else Dest.All) → IsFor script node to
    go true e one = inl (subst (λ (d : Dest). IsTo node d) one here)
    go false e all = inr (ltb-false to script.nodes e)

-- what an event is called with, where such a call is good for whatever stands at it
pub record IsGoodCall (script : Script) (past : List HandlerStep) (v e : ℕ) (arg : List ℕ) : Type 0 where
  pub send : e ≡ 1 → IsAsked past v arg
  pub get : e ≡ 0 → HasArrived script past v arg
  pub hear : (chan : ℕ) → chan ≤ 3 → e ≡ chan + 2 → Hears script past v chan arg
  pub up : e ≡ 7 → IsCast past arg
  pub cast : e ≡ 8 → IsCalled past v arg

event_for_owner : (chan : ℕ) → chan ≤ 3 → event_for (handler (owner chan) 1) ≡ chan + 2
event_for_owner zero le = refl
event_for_owner (suc zero) le = refl
event_for_owner (suc (suc zero)) le = refl
event_for_owner (suc (suc (suc zero))) le = refl
event_for_owner (suc (suc (suc (suc n)))) le = absurd (omega arith)

pub begin_arg : (i j : ℕ) (a b : List ℕ) → Moment.Begin i a ≡ Moment.Begin j b → a ≡ b
begin_arg i j a b e = cc

pub good_begin : (script : Script) (past : List HandlerStep) (v : ℕ) (e : ℕ) (arg : List ℕ) → IsGoodCall script past v e arg
    → (h : HandlerId) → event_for h ≡ e → IsGood script past v h (Moment.Begin h.index arg)
good_begin script past v e arg call h stands = record {
  send = λ arg' is m. subst (λ (a : List ℕ). IsAsked past v a) (begin_arg _ _ arg arg' m) (call.send (sym stands ∙ ap event_for is));
  get = λ arg' is m. subst (λ (a : List ℕ). HasArrived script past v a) (begin_arg _ _ arg arg' m) (call.get (sym stands ∙ ap event_for is));
  hear = λ chan le arg' is m. subst (λ (a : List ℕ). Hears script past v chan a) (begin_arg _ _ arg arg' m)
      (call.hear chan le (sym stands ∙ (ap event_for is ∙ event_for_owner chan le)));
  pass = λ i frame reply is m one. cc;
  up = λ arg' is m. subst (λ (a : List ℕ). IsCast past a) (begin_arg _ _ arg arg' m) (call.up (sym stands ∙ is));
  cast = λ arg' is m. subst (λ (a : List ℕ). IsCalled past v a) (begin_arg _ _ arg arg' m) (call.cast (sym stands ∙ ap event_for is));
}

pub may_begin : (script : Script) (exts : List Ext) → IsGroup script → (past : List HandlerStep) (x : HandlerStep) (f : FollowsIn script exts past x)
    → (now : List HandlerStep) (e : EventId) (arg : List ℕ) → IsGoodCall script now x.node e.0 arg → MayBegin (group_claims script) (setting f).handlers now x.node e arg
may_begin script exts group past x f now e arg call h i =
    good_begin script now x.node e.0 arg call h (each_in (λ (g : HandlerId). event_for g ≡ e.0) ((setting f).handlers e) h (bound_stands script exts group past x f e) i)

-- a call of another event owes nothing
pub other_call : (script : Script) (past : List HandlerStep) (v e : ℕ) (arg : List ℕ) → (e ≡ 6) ⊎ (9 ≤ e) → IsGoodCall script past v e arg
other_call script past v e arg (inl is) = record {
  send = λ i. absurd (omega arith);
  get = λ i. absurd (omega arith);
  hear = λ chan le i. absurd (omega arith);
  up = λ i. absurd (omega arith);
  cast = λ i. absurd (omega arith);
}
other_call script past v e arg (inr le) = record {
  send = λ i. absurd (omega arith);
  get = λ i. absurd (omega arith);
  hear = λ chan most i. absurd (omega arith);
  up = λ i. absurd (omega arith);
  cast = λ i. absurd (omega arith);
}

-- going on owes nothing but to reliable broadcast
pub good_resume : (script : Script) (past : List HandlerStep) (v : ℕ) (h : HandlerId) (frame : List ℕ) → h.micro.0 ≢ 2 → MayGoOn (group_claims script) past v h frame
good_resume script past v h frame ne reply = record {
  send = λ arg is m. cc;
  get = λ arg is m. cc;
  hear = λ chan le arg is m. cc;
  pass = λ i f r is m one. absurd (ne (ap (λ (g : HandlerId). g.micro.0) is));
  up = λ arg is m. cc;
  cast = λ arg is m. cc;
}
