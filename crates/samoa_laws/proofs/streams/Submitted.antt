-- What is given to a broadcast is given by the replacement layer, and to the one that is in place.
use Rattle.std.proofs.Common.{◌≡◌, ◌≢◌, ◌⊎◌, ◌<◌, ◌≤◌, ◌^◌, ℕ, inl, inr, refl, sym, ap, subst, ◌∙◌, append_assoc, arith, List, [], ◌∷◌, ◌++◌, length, get_or, Option, Some, None, Bool, true, false, ◌==◌, if◌then◌else◌, eqb-true}
use Rattle.std.specs.Prelude.{nat_lt, nat_le, filter}
use Rattle.samoa_model.specs.Range.{IsExtOf}
use Rattle.samoa_model.specs.Scripts.{table_of}
use Rattle.samoa_model.specs.declared.ids.EventId.{EventId}
use Rattle.samoa_model.specs.declared.ids.HandlerId.{HandlerId}
use Rattle.samoa_model.specs.declared.handler.Moment.{Moment}
use Rattle.samoa_model.specs.declared.handler.Outcome.{Outcome}
use Rattle.samoa_model.specs.declared.record.Ext.{Ext}
use Rattle.samoa_model.specs.declared.script.Script.{Script}
use Rattle.samoa_model.specs.declared.setup.Setup.{Setup}
use Rattle.samoa_serial.specs.ReplTable as re
use Rattle.samoa_serial.specs.Rows.{message_at, port_at, up, word}
use Rattle.samoa_serial.specs.State.{ReplState}
use Rattle.samoa_serial.specs.declared.message.Message.{Message}
use Rattle.samoa_serial.specs.Lists.{Each, In}
use Rattle.samoa_serial.proofs.RangeLaws.{each_begins}
use Rattle.samoa_laws.specs.trace.Trace.{HandlerStep, micro_of}
use Rattle.samoa_laws.specs.trace.Causes.{Cause, FollowsIn, IsTrace, Setting}
use Rattle.samoa_laws.specs.trace.Group.{IsGroupHistory, handler, rebindings_at}
use Rattle.samoa_serial.proofs.ListLaws.{each_in}
use Rattle.samoa_laws.proofs.trace.Shapes.{Asks, AtPort, IsQuiet, Quiet}
use Rattle.samoa_serial.proofs.RowLaws.{Row, either, either_outcome}
use Rattle.samoa_laws.proofs.trace.Steps.{Before, IsAt, before, same_setting, setting}
use Rattle.samoa_laws.proofs.trace.Worlds.{bound_stands, event_for}
use Rattle.samoa_laws.specs.replacement.Casts.{IsCast, IsRebound, handler_of, switches}
use Rattle.samoa_laws.specs.replacement.History.{IsHistory, Step, left_by}
use Rattle.samoa_laws.proofs.replacement.Casts.{casts_down, switches_count}
use Rattle.samoa_laws.specs.streams.Ordered.{in_place}
use Rattle.samoa_laws.specs.streams.Streams.{repl_setup, repl_at, repl_state, repl_step_of}
use Rattle.samoa_laws.proofs.streams.Bound.{cast_bound}
use Rattle.samoa_laws.proofs.trace.Boxes.{test_here}
use Rattle.samoa_laws.proofs.streams.Boxes.{Made, box_state, made}
use Rattle.samoa_laws.proofs.transport.Events.{calls_down, never_later, root_other}
use Rattle.samoa_laws.proofs.streams.Rebound.{rebound_at}
use Rattle.samoa_laws.proofs.streams.Switches.{switch_count_in}
use Rattle.samoa_laws.proofs.streams.Views.{goes_on_at, history_at, length-repl_at}

-- ---- `ab_cast` is called by `cast` and `switched` alone
abbrev UpOnly : Setup → Outcome → Type 0
UpOnly setup o = Asks setup (1 ∷ []) o

hand_on-up : (setup : Setup) (epoch : ℕ) (m : Option Message) → UpOnly setup (re.repl_hand_on setup epoch m)
hand_on-up setup epoch None = Quiet tt
hand_on-up setup epoch (Some m) = either_outcome (UpOnly setup) (re.is_change setup m.kind m.value) (Quiet tt) (Quiet tt)

drain-up : (setup : Setup) (s : ReplState) → Row (UpOnly setup) (re.repl_drain setup s)
drain-up setup s = record { holds = hand_on-up setup s.epoch (re.first_of s.epoch (filter (re.is_to_come s) s.early)) }

marked-up : (setup : Setup) (s : ReplState) (x : ℕ) (m : Option Message) → Row (UpOnly setup) (re.repl_marked setup s x m)
marked-up setup s x None = record { holds = Quiet tt }
marked-up setup s x (Some m) =
    let marked : ReplState = re.repl_mark setup s m in
    either (UpOnly setup) (x == 0) (drain-up setup marked)
    (either (UpOnly setup) (x == 1) (drain-up setup (record marked { epoch = up s.epoch; hold = 1 })) (record { holds = AtPort 1 (inl refl) _ _ refl }))

deliver_on-up : (setup : Setup) (s : ReplState) (x : ℕ) → Row (UpOnly setup) (re.repl_deliver_on setup s x)
deliver_on-up setup s x =
    either (UpOnly setup) (nat_lt x 3) (marked-up setup s x (re.first_of s.epoch s.early))
    (either (UpOnly setup) (x == 3) (drain-up setup s) (record { holds = Quiet tt }))

calls_by : (setup : Setup) (s : ReplState) (m : Moment) → ((handler_of m ≡ 0) ⊎ (handler_of m ≡ 2)) ⊎ UpOnly setup (re.repl_step setup s m).1
calls_by setup s (Moment.Begin i arg) = go (i == 0) (i == 1) (i == 2) refl refl
  where
    go : (a b c : Bool) → (i == 0) ≡ a → (i == 2) ≡ c → ((i ≡ 0) ⊎ (i ≡ 2)) ⊎ UpOnly setup
        (if a then re.repl_cast setup s (word arg 0) (word arg 1) else if b then re.repl_deliver setup s (message_at arg 0) else
        if c then re.repl_switched setup s (word arg 0) else (s, Outcome.Done [])).1
    go true b c e f = inl (inl (eqb-true i 0 e))
    go false true c e f = inr (drain-up setup (record s { early = if nat_le s.epoch (message_at arg 0).epoch then s.early ++ message_at arg 0 ∷ [] else s.early })).holds
    go false false true e f = inl (inr (eqb-true i 2 f))
    go false false false e f = inr (Quiet tt)
calls_by setup s (Moment.Resume i frame reply) = go (i == 0) (i == 1) (i == 2) refl refl
  where
    go : (a b c : Bool) → (i == 0) ≡ a → (i == 2) ≡ c → ((i ≡ 0) ⊎ (i ≡ 2)) ⊎ UpOnly setup
        (if a then (s, Outcome.Done (word frame 0 ∷ [])) else if b then re.repl_deliver_on setup s (word frame 0) else
        if c then re.repl_go_on setup s (word frame 0) else (s, Outcome.Done [])).1
    go true b c e f = inl (inl (eqb-true i 0 e))
    go false true c e f = inr (deliver_on-up setup s (word frame 0)).holds
    go false false true e f = inl (inr (eqb-true i 2 f))
    go false false false e f = inr (Quiet tt)

not_up : (script : Script) (w : ℕ) (o : Outcome) → UpOnly (repl_setup script w) o → (e : EventId) (arg frame : List ℕ) → o ≡ Outcome.Call e arg frame → e.0 ≢ 12
not_up script w o (Quiet q) e arg frame calls twelve = subst IsQuiet calls q
not_up script w o (AtPort port (inl one) a f is) e arg frame calls twelve =
    let both : Outcome.Call (port_at (repl_setup script w) port) a f ≡ Outcome.Call e arg frame = sym is ∙ calls in
    let same : port_at (repl_setup script w) port ≡ e = cc in
    let number : 13 ≡ e.0 = ap (λ (n : ℕ). (port_at (repl_setup script w) n).0) (sym one) ∙ ap (λ (k : EventId). k.0) same in
    omega (arith, number, twelve)
not_up script w o (AtPort port (inr out) a f is) e arg frame calls twelve = absurd out

-- ---- who gave it
-- a step of the replacement layer called `ab_cast` with these words, and the handler h stands there
pub record GivenBy (script : Script) (exts : List Ext) (past : List HandlerStep) (h : HandlerId) (arg : List ℕ) : Type 0 where
  pub step : HandlerStep
  pub part : Before script exts past step
  pub six : micro_of step ≡ 6
  pub event : EventId
  pub frame : List ℕ
  pub outcome : step.outcome ≡ Outcome.Call event arg frame
  pub twelve : event.0 ≡ 12
  pub bound : h ≡ handler (in_place 4 (rebindings_at step.node (part.follows.before ++ part.follows.ext ∷ []))) 0

pub given_by : (script : Script) (exts : List Ext) → IsGroupHistory script exts → (past : List HandlerStep) (x : HandlerStep) → IsTrace script exts past → (f : FollowsIn script exts past x)
    → event_for x.call.handler ≡ 12 → (arg : List ℕ) → x.moment ≡ Moment.Begin 0 arg → GivenBy script exts past x.call.handler arg
given_by script exts history past x t f at arg e = go f.follows.cause
  where
    S : Setting
    S = setting f

    h : HandlerId
    h = x.call.handler

    stands : (k : EventId) → In h (S.handlers k) → k.0 ≡ 12
    stands k bound = sym (each_in (λ (g : HandlerId). event_for g ≡ k.0) (S.handlers k) h (bound_stands script exts history.group past x f k) bound) ∙ at

    one : (p : ℕ) (hs : List HandlerId) → hs ≡ handler p 0 ∷ [] → In h hs → h ≡ handler p 0
    one p hs is there = first (subst (λ (xs : List HandlerId). In h xs) is there)
      where
        first : In h (handler p 0 ∷ []) → h ≡ handler p 0
        first (inl same) = same
        first (inr out) = absurd out

    go : Cause S past x.call x.moment → GivenBy script exts past h arg
    go (Cause.Root root) = absurd (root_other script exts history past x f 12 (omega arith) (omega arith) (stands S.root root.bound))
    go (Cause.Called y there calls) = record {
      step = y;
      part = b;
      six = calls_down script exts history.group b.earlier y b.follows calls.arg calls.frame
          (calls.outcome ∙ ap (λ (n : ℕ). Outcome.Call (record { 0 = n }) calls.arg calls.frame) twelve);
      event = calls.event;
      frame = calls.frame;
      outcome = calls.outcome ∙ ap (λ (ws : List ℕ). Outcome.Call calls.event ws calls.frame) args;
      twelve = twelve;
      bound = one (in_place 4 (rebindings_at y.node admitted)) (get_or (table_of script admitted y.node) 12 [])
          (cast_bound script history.group y.node admitted known)
          (subst (λ (n : ℕ). In h (get_or (table_of script admitted y.node) n [])) twelve
          (subst (λ (u : ℕ). In h (get_or (table_of script admitted u) calls.event.0 [])) (sym b.follows.follows.node)
          (subst (λ (T : Setting). In h (T.handlers calls.event)) (sym same) calls.bound)));
    }
      where
        b : Before script exts past y
        b = before script exts past y t there

        twelve : calls.event.0 ≡ 12
        twelve = stands calls.event calls.bound

        args : calls.arg ≡ arg
        args = let both : Moment.Begin x.call.handler.index calls.arg ≡ Moment.Begin 0 arg = sym calls.moment ∙ e in cc

        same : setting b.follows ≡ setting f
        same = same_setting script exts b.earlier past y x b.follows f (calls.acts.comp ∙ sym f.follows.comp)

        admitted : List Ext
        admitted = b.follows.before ++ b.follows.ext ∷ []

        known : Each (IsExtOf script) admitted
        known =
            each_begins (IsExtOf script) admitted b.follows.later
            (subst (Each (IsExtOf script)) (b.follows.admitted ∙ sym (append_assoc b.follows.before (b.follows.ext ∷ []) b.follows.later)) history.known)
    go (Cause.Deferred y there calls) = absurd (never_later script exts history.group past t y there calls.event calls.arg calls.frame calls.outcome)
    go (Cause.Resumed r) = absurd (let both : Moment.Resume x.call.handler.index r.goes_on.frame r.goes_on.reply ≡ Moment.Begin 0 arg = sym r.goes_on.moment ∙ e in cc)

-- ---- what is given is of the present epoch, and so many rebindings came there
pub record IsOfEpoch (script : Script) (exts : List Ext) (past : List HandlerStep) (y : HandlerStep) (f : FollowsIn script exts past y) (arg : List ℕ) : Type 0 where
  pub epoch : word arg 0 ≡ (left_by (repl_at y.node (y ∷ past))).epoch
  pub rebindings : length (rebindings_at y.node (f.before ++ f.ext ∷ [])) ≡ word arg 0

pub of_epoch : (script : Script) (exts : List Ext) → IsGroupHistory script exts → (past : List HandlerStep) (y : HandlerStep) → IsTrace script exts (y ∷ past) → length (y ∷ past) < 2 ^ 64
    → (f : FollowsIn script exts past y) → micro_of y ≡ 6 → (e : EventId) (arg frame : List ℕ) → y.outcome ≡ Outcome.Call e arg frame → e.0 ≡ 12 → IsOfEpoch script exts past y f arg
of_epoch script exts history past y t small f six e arg frame out twelve = record {
  epoch = cast.epoch ∙ ap (λ (l : List Step). (left_by l).epoch) (sym is);
  rebindings = sym (switch_count_in script exts history y.node past y t f) ∙ (count ∙ (ap (λ (l : List Step). (left_by l).epoch) is ∙ sym cast.epoch));
}
  where
    w : ℕ
    w = y.node

    at : IsAt y w 6
    at = (refl, sym six)

    m : Made script w past y
    m = made script exts history.group w past y f at (box_state script exts history.group w past t.1)

    is : repl_at w (y ∷ past) ≡ repl_step_of y ∷ repl_at w past
    is = ap (λ (b : Bool). if b then repl_step_of y ∷ repl_at w past else repl_at w past) (test_here w 6 y at)

    steps : IsHistory (repl_setup script w) (repl_at w (y ∷ past))
    steps = history_at script exts history.group w (y ∷ past) t

    rebound : IsRebound (repl_at w (y ∷ past))
    rebound = rebound_at script exts history w (y ∷ past) t

    which : (handler_of y.moment ≡ 0) ⊎ (handler_of y.moment ≡ 2)
    which = go (calls_by (repl_setup script w) (left_by (repl_at w past)) y.moment)
      where
        go : ((handler_of y.moment ≡ 0) ⊎ (handler_of y.moment ≡ 2)) ⊎ UpOnly (repl_setup script w) (re.repl_step (repl_setup script w) (left_by (repl_at w past)) y.moment).1
            → (handler_of y.moment ≡ 0) ⊎ (handler_of y.moment ≡ 2)
        go (inl it) = it
        go (inr only) = absurd (not_up script w _ only e arg frame (sym m.outcome ∙ out) twelve)

    cast : IsCast (repl_setup script w) (repl_state y.new) e arg
    cast = casts_down (repl_setup script w) (repl_step_of y) (repl_at w past) (subst (IsHistory (repl_setup script w)) is steps) (subst IsRebound is rebound) which e arg frame out

    count : switches (repl_at w (y ∷ past)) ≡ (left_by (repl_at w (y ∷ past))).epoch
    count =
        let fewer : length (repl_at w (y ∷ past)) ≤ length (y ∷ past) = length-repl_at w (y ∷ past) in
        switches_count (repl_setup script w) (repl_at w (y ∷ past)) steps (goes_on_at script exts history.group w (y ∷ past) t) rebound (omega (arith, fewer, small))
        (ap (λ (l : List Step). (left_by l).hold) is ∙ cast.free)
