-- In the group stack what is received was sent.
use Rattle.std.proofs.Common.{◌≡◌, ◌≤◌, ◌<◌, ◌⊎◌, ℕ, zero, suc, inl, inr, refl, sym, ap, subst, ◌∙◌, arith, List, [], ◌∷◌, ◌++◌, length, get_or, true}
use Rattle.samoa_model.specs.Range.{IsCauseOf, IsExtOf}
use Rattle.samoa_model.specs.Scripts.{no_change, no_micro, root_of}
use Rattle.samoa_model.specs.declared.handler.Moment.{Moment}
use Rattle.samoa_model.specs.declared.ids.EventId.{EventId}
use Rattle.samoa_model.specs.declared.ids.HandlerId.{HandlerId}
use Rattle.samoa_model.specs.declared.record.Cause.{Cause}
use Rattle.samoa_model.specs.declared.record.Ext.{Ext}
use Rattle.samoa_model.specs.declared.script.ChangeDef.{ChangeDef}
use Rattle.samoa_model.specs.declared.script.Script.{Script}
use Rattle.samoa_model.specs.declared.setup.Kind.TheVariants.{Prog}
use Rattle.samoa_serial.specs.Kinds.{kind_step}
use Rattle.samoa_serial.specs.State.{Registers, State}
use Rattle.samoa_serial.specs.Lists.{In}
use Rattle.samoa_laws.specs.trace.Trace.{HandlerStep, micro_of, trace}
use Rattle.samoa_laws.specs.trace.Causes.{FollowsIn, IsRoot, IsTrace}
use Rattle.samoa_laws.specs.trace.Group.{IsFree, IsGroup, IsGroupHistory, IsRebinding, IsSent, IsTo, IsWire, event, group_changes, handler}
use Rattle.samoa_laws.specs.transport.Transport.{BeginsAt, IsCast, IsHeard, owner}
use Rattle.samoa_laws.proofs.transport.Carried.{OwesAll, Stepping, ab_owes, asks_owes, cons_owes, link_owes, rb_owes, talks_owes}
use Rattle.samoa_laws.proofs.transport.Claims.{HasArrived, Hears, IsFor, IsGood, IsGoodCall, IsMessage, for_node, good-more, good_begin, group_claims, message-more, other_call}
use Rattle.samoa_laws.proofs.trace.Entries.{SentBy, sent_by}
use Rattle.samoa_laws.proofs.trace.Guarantee.{AllSent, Claims, Keeps, Sound, guaranteed}
use Rattle.samoa_serial.proofs.ListLaws.{each_in, in_middle, in_right}
use Rattle.samoa_laws.proofs.trace.Points.{trace-is_trace}
use Rattle.samoa_laws.proofs.trace.Shapes.{AbSays, Asks, ConsSays, LinkShape, Quiet, RbShape, Talks, abcast-step, cons-step, fd-step, link-step, rbcast-step, repl-step, seqcast-step, views-step}
use Rattle.samoa_laws.proofs.trace.Steps.{setting}
use Rattle.samoa_laws.proofs.trace.Worlds.{bound_stands, event_for, group_micro, group_setup, outcome_is, setup_from}

-- a box that is none does nothing
pub no_box : (nodes v : ℕ) (s : State) (m : Moment) → Asks (setup_from nodes v no_micro) [] (kind_step Prog (setup_from nodes v no_micro) s m).1
no_box nodes v (Registers registers) (Moment.Begin handler arg) = Quiet tt
no_box nodes v (Registers registers) (Moment.Resume handler frame reply) = Quiet tt
no_box nodes v _ m = Quiet tt

-- each step owes nothing
step_owes : (script : Script) (exts : List Ext) (past : List HandlerStep) (x : HandlerStep) (s : Stepping script exts past x) → x.effective ≡ true → OwesAll s x.outcome
step_owes script exts past x s effective = go (micro_of x) refl (outcome_is script exts s.group past x s.follows)
  where
    go : (p : ℕ) → micro_of x ≡ p → x.outcome ≡ (kind_step (group_micro p).kind (group_setup script.nodes x.node p) x.old x.moment).1 → OwesAll s x.outcome
    go zero micro is =
        link_owes script exts past x s micro (subst (LinkShape (group_setup script.nodes x.node 0) x.moment) (sym is) (link-step (group_setup script.nodes x.node 0) x.old x.moment))
    go (suc zero) micro is =
        talks_owes script exts past x s (λ e. absurd (omega arith)) 0 (omega arith) (λ e. absurd (omega arith)) micro (group_setup script.nodes x.node 1) (1 ∷ []) (inl refl, tt) refl refl effective
        (subst (Talks (group_setup script.nodes x.node 1) (1 ∷ [])) (sym is) (fd-step (group_setup script.nodes x.node 1) x.old x.moment))
    go (suc (suc zero)) micro is =
        rb_owes script exts past x s micro effective (subst (RbShape (group_setup script.nodes x.node 2) x.moment) (sym is) (rbcast-step (group_setup script.nodes x.node 2) x.old x.moment))
    go (suc (suc (suc zero))) micro is =
        cons_owes script exts past x s micro effective (subst (ConsSays (group_setup script.nodes x.node 3)) (sym is) (cons-step (group_setup script.nodes x.node 3) x.old x.moment))
    go (suc (suc (suc (suc zero)))) micro is =
        ab_owes script exts past x s micro effective (subst (AbSays (group_setup script.nodes x.node 4)) (sym is) (abcast-step (group_setup script.nodes x.node 4) x.old x.moment))
    go (suc (suc (suc (suc (suc zero))))) micro is =
        talks_owes script exts past x s (λ e. absurd (omega arith)) 3 (omega arith) (λ e. absurd (omega arith)) micro (group_setup script.nodes x.node 5) (1 ∷ []) (inr (omega arith), tt) refl refl effective
        (subst (Talks (group_setup script.nodes x.node 5) (1 ∷ [])) (sym is) (seqcast-step (group_setup script.nodes x.node 5) x.old x.moment))
    go (suc (suc (suc (suc (suc (suc zero)))))) micro is =
        asks_owes script exts past x s (λ e. absurd (omega arith)) (group_setup script.nodes x.node 6) (0 ∷ 1 ∷ []) (inr (omega arith), (inr (omega arith), tt)) x.outcome
        (subst (Asks (group_setup script.nodes x.node 6) (0 ∷ 1 ∷ [])) (sym is) (repl-step (group_setup script.nodes x.node 6) x.old x.moment))
    go (suc (suc (suc (suc (suc (suc (suc zero))))))) micro is =
        asks_owes script exts past x s (λ e. absurd (omega arith)) (group_setup script.nodes x.node 7) (0 ∷ []) (inr (omega arith), tt) x.outcome
        (subst (Asks (group_setup script.nodes x.node 7) (0 ∷ [])) (sym is) (views-step (group_setup script.nodes x.node 7) x.old x.moment))
    go (suc (suc (suc (suc (suc (suc (suc (suc p)))))))) micro is =
        asks_owes script exts past x s (λ e. absurd (omega arith)) (setup_from script.nodes x.node no_micro) [] tt x.outcome
        (subst (Asks (setup_from script.nodes x.node no_micro) []) (sym is) (no_box script.nodes x.node x.old x.moment))

-- a root call of an event, where such a call is good
root_begin : (script : Script) (exts : List Ext) → IsGroup script → (past : List HandlerStep) (x : HandlerStep) (f : FollowsIn script exts past x) (e : ℕ)
    → root_of script f.ext.cause ≡ event e → IsGoodCall script past x.node e f.ext.args → IsRoot (setting f) x.call x.moment → IsGood script past x.node x.call.handler x.moment
root_begin script exts group past x f e is call root =
    let h : HandlerId = x.call.handler in
    let stands : event_for h ≡ (root_of script f.ext.cause).0 =
    each_in (λ (g : HandlerId). event_for g ≡ (root_of script f.ext.cause).0) _ h (bound_stands script exts group past x f (root_of script f.ext.cause)) root.bound in
    subst (λ (m : Moment). IsGood script past x.node h m) (sym root.moment)
    (good_begin script past x.node e f.ext.args call h (stands ∙ ap (λ (r : EventId). r.0) is))

root_good : (script : Script) (exts : List Ext) → IsGroupHistory script exts → (past : List HandlerStep) (x : HandlerStep) (f : FollowsIn script exts past x)
    → AllSent (group_claims script) past → IsRoot (setting f) x.call x.moment → IsGood script past x.node x.call.handler x.moment
root_good script exts history past x f sent root = go (history.allowed f.before f.ext f.later f.admitted)
  where
    free : (e : ℕ) → 9 ≤ e → f.ext.cause ≡ Cause.Event (event e) → IsGood script past x.node x.call.handler x.moment
    free e le is = root_begin script exts history.group past x f e (ap (root_of script) is) (other_call script past x.node e f.ext.args (inr le)) root

    arrived : IsSent script f.before f.ext.node.0 (event 0) f.ext.args → HasArrived script past x.node f.ext.args
    arrived s =
        let by : SentBy script f.before s.to (event 0) f.ext.args = sent_by script f.before s.ran s.call s.to (event 0) f.ext.args s.served s.entry in
        let there : In by.step past = subst (λ (ys : List HandlerStep). In by.step ys) (sym f.over) (in_right by.step f.own (trace script f.before) by.there) in
        let m : IsMessage script past by.step.node s.to f.ext.args = sent by.step there by.effective s.to (event 0) f.ext.args by.frame by.outcome refl in
        record {
          from = by.step.node;
          to = m.to;
          chan = m.chan;
          words = m.words;
          is = m.is;
          told = m.told;
          here = for_node script x.node m.to s.to m.dest_is (subst (λ (u : ℕ). IsTo u s.to) (sym f.follows.node) s.here);
        }

    changed : (c : ℕ) → c < length group_changes → (get_or group_changes c no_change).event ≡ event 18
    changed zero lt = refl
    changed (suc zero) lt = refl
    changed (suc (suc c)) lt = absurd (omega arith)

    rebinding : IsRebinding script f.before f.ext → IsGood script past x.node x.call.handler x.moment
    rebinding r =
        let known : IsExtOf script f.ext = each_in (IsExtOf script) exts f.ext history.known (subst (λ (xs : List Ext). In f.ext xs) (sym f.admitted) (in_middle f.ext f.before f.later)) in
        let in_range : r.change.0 < length script.changes = subst (IsCauseOf script) r.cause known.cause in
        let lt : r.change.0 < length group_changes = subst (λ (cs : List ChangeDef). r.change.0 < length cs) history.group.changes in_range in
        root_begin script exts history.group past x f 18
        (ap (root_of script) r.cause ∙ (ap (λ (cs : List ChangeDef). (get_or cs r.change.0 no_change).event) history.group.changes ∙ changed r.change.0 lt))
        (other_call script past x.node 18 f.ext.args (inr (omega arith))) root

    go : IsFree f.ext.cause ⊎ (IsWire script f.before f.ext ⊎ IsRebinding script f.before f.ext) → IsGood script past x.node x.call.handler x.moment
    go (inl (inl is)) = free 14 (omega arith) is
    go (inl (inr (inl is))) = free 15 (omega arith) is
    go (inl (inr (inr (inl is)))) = free 16 (omega arith) is
    go (inl (inr (inr (inr (inl is))))) = free 17 (omega arith) is
    go (inl (inr (inr (inr (inr out))))) = absurd out
    go (inr (inl wire)) =
        root_begin script exts history.group past x f 0 (ap (root_of script) wire.cause)
        (record { send = λ i. absurd (omega arith); get = λ i. arrived wire.sent; hear = λ chan le i. absurd (omega arith); up = λ i. absurd (omega arith); cast = λ i. absurd (omega arith) }) root
    go (inr (inr r)) = rebinding r

group-keeps : (script : Script) (exts : List Ext) → IsGroupHistory script exts → Keeps (group_claims script) script exts
group-keeps script exts history = record {
  good_more = λ x past v h m good. good-more script x past v h m good;
  message_more = λ x past v to e arg message wire. message-more script x past v to arg (message wire);
  box_more = λ x past v p s away box. tt;
  opening = λ v p. tt;
  root = λ past x f trace sent root. root_good script exts history past x f sent root;
  step = λ past x f trace good box. (tt, λ effective. step_owes script exts past x (record { group = history.group; follows = f; good = good }) effective);
}

-- a part of a sound trace: its last step's moment was good
good_at : (C : Claims) (script : Script) (exts : List Ext) (more : List HandlerStep) (x : HandlerStep) (past : List HandlerStep) (t : IsTrace script exts (more ++ x ∷ past))
    → Sound C script exts (more ++ x ∷ past) t → C.Good past x.node x.call.handler x.moment
good_at C script exts [] x past t sound = sound.0.good
good_at C script exts (y ∷ more) x past t sound = good_at C script exts more x past t.1 sound.1

-- each moment of a group history is good
pub moment_good : (script : Script) (exts : List Ext) → IsGroupHistory script exts → (more : List HandlerStep) (x : HandlerStep) (past : List HandlerStep)
    → trace script exts ≡ more ++ x ∷ past → IsGood script past x.node x.call.handler x.moment
moment_good script exts history more x past split =
    let t : IsTrace script exts (more ++ x ∷ past) = subst (IsTrace script exts) split (trace-is_trace script exts) in
    good_at (group_claims script) script exts more x past t (guaranteed (group_claims script) script exts (group-keeps script exts history) (more ++ x ∷ past) t).sound

-- what is received on a channel was told by its sender
pub heard : (script : Script) (exts : List Ext) → IsGroupHistory script exts → (past : List HandlerStep) (chan node : ℕ) (arg : List ℕ) → chan ≤ 3
    → BeginsAt script exts past node (handler (owner chan) 1) arg → IsHeard script past chan node arg
heard script exts history past chan node arg le b =
    let good : IsGood script past b.step.node b.step.call.handler b.step.moment = moment_good script exts history b.more b.step past b.split in
    let h : Hears script past b.step.node chan arg = good.hear chan le arg b.handler_is b.moment in
    record {
      from = h.from;
      words = h.words;
      is = h.is;
      told = record {
        step = h.told.step;
        there = h.told.there;
        sender = h.told.at;
        micro = h.told.micro;
        effective = h.told.effective;
        to = h.to;
        frame = h.told.frame;
        outcome = h.told.outcome;
        here = subst (λ (u : ℕ). IsFor script u h.to) b.node_is h.here;
      };
    }

-- what reliable broadcast hands up was cast
pub handed_up : (script : Script) (exts : List Ext) → IsGroupHistory script exts → (past : List HandlerStep) (node : ℕ) (h : HandlerId) (arg : List ℕ) → event_for h ≡ 7
    → BeginsAt script exts past node h arg → IsCast past arg
handed_up script exts history past node h arg stands b =
    let good : IsGood script past b.step.node b.step.call.handler b.step.moment = moment_good script exts history b.more b.step past b.split in
    good.up arg (ap event_for b.handler_is ∙ stands) (b.moment ∙ ap (λ (g : HandlerId). Moment.Begin g.index arg) (sym b.handler_is))

pub upward : (script : Script) (exts : List Ext) → IsGroupHistory script exts → (past : List HandlerStep) (node : ℕ) (h : HandlerId) (arg : List ℕ)
    → (h ≡ handler 3 2) ⊎ (h ≡ handler 4 1) → BeginsAt script exts past node h arg → IsCast past arg
upward script exts history past node h arg (inl is) b = handed_up script exts history past node h arg (ap event_for is) b
upward script exts history past node h arg (inr is) b = handed_up script exts history past node h arg (ap event_for is) b
