-- Who calls the events of the group stack, and which handler stands at `ab_up`.
use Rattle.std.proofs.Common.{◌≡◌, ◌+◌, ◌≢◌, ◌⊎◌, ◌≤◌, ◌<◌, ℕ, zero, suc, inl, inr, refl, sym, ap, subst, ◌∙◌, arith, List, [], ◌∷◌, ◌++◌, length, map, get_or, true}
use Rattle.std.specs.Prelude.{⊤, slice_index_or}
use Rattle.samoa_model.specs.Range.{IsCauseOf, IsExtOf}
use Rattle.samoa_model.specs.Scripts.{no_change, no_micro, root_of}
use Rattle.samoa_model.specs.declared.handler.Moment.{Moment}
use Rattle.samoa_model.specs.declared.handler.Outcome.{Outcome}
use Rattle.samoa_model.specs.declared.handler.Reply.{Reply}
use Rattle.samoa_model.specs.declared.ids.EventId.{EventId}
use Rattle.samoa_model.specs.declared.ids.HandlerId.{HandlerId}
use Rattle.samoa_model.specs.declared.record.Cause.{Cause}
use Rattle.samoa_model.specs.declared.record.Ext.{Ext}
use Rattle.samoa_model.specs.declared.script.ChangeDef.{ChangeDef}
use Rattle.samoa_model.specs.declared.script.EventDef.{EventDef}
use Rattle.samoa_model.specs.declared.script.Script.{Script}
use Rattle.samoa_model.specs.declared.script.TableDef.{TableDef}
use Rattle.samoa_model.specs.declared.setup.Setup.{Setup}
use Rattle.samoa_serial.specs.Kinds.{kind_step}
use Rattle.samoa_serial.specs.Rows.{port_at}
use Rattle.samoa_serial.specs.State.{State}
use Rattle.samoa_serial.specs.Lists.{Each, In}
use Rattle.samoa_laws.specs.trace.Trace.{HandlerStep, micro_of}
use Rattle.samoa_laws.specs.trace.Causes as causes
use Rattle.samoa_laws.specs.trace.Causes.{Calls, Comes, Defers, FollowsIn, IsOther, IsRoot, IsTrace}
use Rattle.samoa_laws.specs.trace.Group.{IsFree, IsGroup, IsGroupHistory, IsRebinding, IsWire, event, group_changes, group_events, handler}
use Rattle.samoa_laws.specs.transport.Callers.{callers}
use Rattle.samoa_laws.proofs.transport.Accepted.{kind_port}
use Rattle.samoa_serial.proofs.ListLaws.{each_in, in_middle}
use Rattle.samoa_laws.proofs.transport.Received.{no_box}
use Rattle.samoa_laws.proofs.trace.Shapes.{AbCasts, AbHandsOn, AbNothing, AbProposes, AbSays, Asks, AtPort, Casts, ConsAnnounces, ConsDecides, ConsNothing, ConsSays, ConsTells, Hands, HandsUp, IsDone, IsQuiet, LinkShape, Quiet, RbShape, Relays, Rests, Sends, Silent, Talks, abcast-step, cons-step, fd-step, link-step, rbcast-step, repl-step, seqcast-step, views-step}
use Rattle.samoa_laws.proofs.trace.Steps.{before, setting}
use Rattle.samoa_laws.proofs.trace.Tables.{IsBound, table-holds}
use Rattle.samoa_laws.proofs.trace.Worlds.{bound_stands, event_for, group_micro, group_setup, outcome_is, setup_from}
use Rattle.samoa_laws.proofs.transport.Claims.{begin_arg}

-- ---- no box asks for a call later
abbrev pub NotLater : Outcome → Type 0
NotLater (Outcome.Later event arg frame) = ⊥
NotLater _ = ⊤

quiet_now : (o : Outcome) → IsQuiet o → NotLater o
quiet_now (Outcome.Done reply) q = tt
quiet_now (Outcome.Call event arg frame) q = tt
quiet_now (Outcome.Later event arg frame) q = q
quiet_now (Outcome.Send to event arg frame) q = tt
quiet_now (Outcome.Deliver arg frame) q = tt
quiet_now (Outcome.Change change arg frame) q = tt

done_now : (o : Outcome) → IsDone o → NotLater o
done_now (Outcome.Done reply) d = tt
done_now (Outcome.Call event arg frame) d = tt
done_now (Outcome.Later event arg frame) d = d
done_now (Outcome.Send to event arg frame) d = tt
done_now (Outcome.Deliver arg frame) d = tt
done_now (Outcome.Change change arg frame) d = tt

call_now : (o : Outcome) (event : EventId) (arg frame : List ℕ) → o ≡ Outcome.Call event arg frame → NotLater o
call_now o event arg frame is = subst NotLater (sym is) tt

asks_now : (setup : Setup) (ports : List ℕ) (o : Outcome) → Asks setup ports o → NotLater o
asks_now setup ports o (Quiet q) = quiet_now o q
asks_now setup ports o (AtPort port i arg frame is) = call_now o _ arg frame is

talks_now : (setup : Setup) (ports : List ℕ) (o : Outcome) → Talks setup ports o → NotLater o
talks_now setup ports o (inl t) = call_now o _ _ _ t.is
talks_now setup ports o (inr a) = asks_now setup ports o a

link_now : (setup : Setup) (m : Moment) (o : Outcome) → LinkShape setup m o → NotLater o
link_now setup m o (Sends a begun is) = subst NotLater (sym is) tt
link_now setup m o (Hands a begun lt is) = call_now o _ _ _ is
link_now setup m o (Silent q) = quiet_now o q

rb_now : (setup : Setup) (m : Moment) (o : Outcome) → RbShape setup m o → NotLater o
rb_now setup m o (Casts a begun number is) = call_now o _ _ _ is
rb_now setup m o (Relays a begun is) = call_now o _ _ _ is
rb_now setup m o (HandsUp i f r resumed one next two is) = call_now o _ _ _ is
rb_now setup m o (Rests d) = done_now o d

cons_now : (setup : Setup) (o : Outcome) → ConsSays setup o → NotLater o
cons_now setup o (ConsNothing d) = done_now o d
cons_now setup o (ConsTells to tag b ts m frame is) = call_now o _ _ _ is
cons_now setup o (ConsAnnounces i m is) = call_now o _ _ _ is
cons_now setup o (ConsDecides i m is) = call_now o _ _ _ is

ab_now : (setup : Setup) (o : Outcome) → AbSays setup o → NotLater o
ab_now setup o (AbNothing d) = done_now o d
ab_now setup o (AbCasts m is) = call_now o _ _ _ is
ab_now setup o (AbProposes i m is) = call_now o _ _ _ is
ab_now setup o (AbHandsOn i m is) = call_now o _ _ _ is

pub kind_now : (nodes v p : ℕ) (s : State) (m : Moment) → NotLater (kind_step (group_micro p).kind (group_setup nodes v p) s m).1
kind_now nodes v zero s m = link_now (group_setup nodes v 0) m _ (link-step (group_setup nodes v 0) s m)
kind_now nodes v (suc zero) s m = talks_now (group_setup nodes v 1) _ _ (fd-step (group_setup nodes v 1) s m)
kind_now nodes v (suc (suc zero)) s m = rb_now (group_setup nodes v 2) m _ (rbcast-step (group_setup nodes v 2) s m)
kind_now nodes v (suc (suc (suc zero))) s m = cons_now (group_setup nodes v 3) _ (cons-step (group_setup nodes v 3) s m)
kind_now nodes v (suc (suc (suc (suc zero)))) s m = ab_now (group_setup nodes v 4) _ (abcast-step (group_setup nodes v 4) s m)
kind_now nodes v (suc (suc (suc (suc (suc zero))))) s m = talks_now (group_setup nodes v 5) _ _ (seqcast-step (group_setup nodes v 5) s m)
kind_now nodes v (suc (suc (suc (suc (suc (suc zero)))))) s m = asks_now (group_setup nodes v 6) _ _ (repl-step (group_setup nodes v 6) s m)
kind_now nodes v (suc (suc (suc (suc (suc (suc (suc zero))))))) s m = asks_now (group_setup nodes v 7) _ _ (views-step (group_setup nodes v 7) s m)
kind_now nodes v (suc (suc (suc (suc (suc (suc (suc (suc p)))))))) s m = asks_now (setup_from nodes v no_micro) _ _ (no_box nodes v s m)

pub never_later : (script : Script) (exts : List Ext) → IsGroup script → (past : List HandlerStep) → IsTrace script exts past → (y : HandlerStep) → In y past
    → (called : EventId) (arg frame : List ℕ) → y.outcome ≡ Outcome.Later called arg frame → ⊥
never_later script exts group past trace y there called arg frame is =
    let b = before script exts past y trace there in
    subst NotLater (sym (outcome_is script exts group b.earlier y b.follows) ∙ is) (kind_now script.nodes y.node (micro_of y) y.old y.moment)

-- ---- a port is one of a microprotocol that calls its event
calls_at : (p : ℕ) (ports : List EventId) (port : ℕ) → Each (λ (e : EventId). In p (callers e.0)) ports
    → ((slice_index_or ports port (event 0)).0 ≡ 0) ⊎ In p (callers (slice_index_or ports port (event 0)).0)
calls_at p [] port all = inl refl
calls_at p (e ∷ es) zero all = inr all.0
calls_at p (e ∷ es) (suc port) all = calls_at p es port all.1

ports_called : (p : ℕ) → Each (λ (e : EventId). In p (callers e.0)) (group_micro p).ports
ports_called zero = (inl refl, (inl refl, (inl refl, (inl refl, (inl refl, tt)))))
ports_called (suc zero) = (inl refl, (inl refl, tt))
ports_called (suc (suc zero)) = (inr (inl refl), (inl refl, tt))
ports_called (suc (suc (suc zero))) = (inr (inr (inl refl)), (inl refl, (inl refl, tt)))
ports_called (suc (suc (suc (suc zero)))) = (inr (inl refl), (inl refl, (inl refl, tt)))
ports_called (suc (suc (suc (suc (suc zero))))) = (inr (inr (inr (inl refl))), (inr (inl refl), tt))
ports_called (suc (suc (suc (suc (suc (suc zero)))))) = (inl refl, (inl refl, tt))
ports_called (suc (suc (suc (suc (suc (suc (suc zero))))))) = (inl refl, tt)
ports_called (suc (suc (suc (suc (suc (suc (suc (suc p)))))))) = tt

-- a step calls the events of its microprotocol
pub calls_own : (script : Script) (exts : List Ext) → IsGroup script → (past : List HandlerStep) (y : HandlerStep) → FollowsIn script exts past y
    → (e : ℕ) (arg frame : List ℕ) → 1 ≤ e → y.outcome ≡ Outcome.Call (event e) arg frame → In (micro_of y) (callers e)
calls_own script exts group past y f e arg frame le is = go (calls_at (micro_of y) (group_micro (micro_of y)).ports port.0 (ports_called (micro_of y)))
  where
    port : (port : ℕ) × (event e ≡ port_at (group_setup script.nodes y.node (micro_of y)) port)
    port = kind_port script.nodes y.node (micro_of y) y.old y.moment (event e) arg frame (sym (outcome_is script exts group past y f) ∙ is)

    at : e ≡ (port_at (group_setup script.nodes y.node (micro_of y)) port.0).0
    at = ap (λ (a : EventId). a.0) port.1

    go : ((port_at (group_setup script.nodes y.node (micro_of y)) port.0).0 ≡ 0) ⊎ In (micro_of y) (callers (port_at (group_setup script.nodes y.node (micro_of y)) port.0).0)
        → In (micro_of y) (callers e)
    go (inl none) = absurd (omega (arith, at, none))
    go (inr i) = subst (λ (n : ℕ). In (micro_of y) (callers n)) (sym at) i

-- `ab_cast` is called by the replacement layer alone, `ab_up` by the two broadcasts, `propose` by abcast
pub calls_down : (script : Script) (exts : List Ext) → IsGroup script → (past : List HandlerStep) (y : HandlerStep) → FollowsIn script exts past y
    → (arg frame : List ℕ) → y.outcome ≡ Outcome.Call (event 12) arg frame → micro_of y ≡ 6
calls_down script exts group past y f arg frame is = go (calls_own script exts group past y f 12 arg frame (omega arith) is)
  where
    go : In (micro_of y) (6 ∷ []) → micro_of y ≡ 6
    go (inl e) = e
    go (inr none) = absurd none

pub calls_up : (script : Script) (exts : List Ext) → IsGroup script → (past : List HandlerStep) (y : HandlerStep) → FollowsIn script exts past y
    → (arg frame : List ℕ) → y.outcome ≡ Outcome.Call (event 11) arg frame → (micro_of y ≡ 4) ⊎ (micro_of y ≡ 5)
calls_up script exts group past y f arg frame is = go (calls_own script exts group past y f 11 arg frame (omega arith) is)
  where
    go : In (micro_of y) (4 ∷ 5 ∷ []) → (micro_of y ≡ 4) ⊎ (micro_of y ≡ 5)
    go (inl e) = inl e
    go (inr (inl e)) = inr e
    go (inr (inr none)) = absurd none

pub proposes : (script : Script) (exts : List Ext) → IsGroup script → (past : List HandlerStep) (y : HandlerStep) → FollowsIn script exts past y
    → (arg frame : List ℕ) → y.outcome ≡ Outcome.Call (event 10) arg frame → micro_of y ≡ 4
proposes script exts group past y f arg frame is = go (calls_own script exts group past y f 10 arg frame (omega arith) is)
  where
    go : In (micro_of y) (4 ∷ []) → micro_of y ≡ 4
    go (inl e) = e
    go (inr none) = absurd none

-- ---- one handler stands at `ab_up`, in every table
abbrev IsUpward : ℕ → List HandlerId → Type 0
IsUpward e hs = e ≡ 11 → hs ≡ handler 6 1 ∷ []

upward_bound : (script : Script) → IsGroup script → IsBound script IsUpward
upward_bound script group = record {
  first = λ e is. ap (λ (n : ℕ). get_or (map (λ (d : EventDef). d.handlers) script.events) n []) is
      ∙ ap (λ (ds : List EventDef). get_or (map (λ (d : EventDef). d.handlers) ds) 11 []) group.events;
  changed = λ change. subst (λ (cs : List ChangeDef). Each (λ (t : TableDef). IsUpward t.event.0 t.handlers) (get_or cs change.0 no_change).table) (sym group.changes) (changed change.0);
}
  where
    changed : (c : ℕ) → Each (λ (t : TableDef). IsUpward t.event.0 t.handlers) (get_or group_changes c no_change).table
    changed zero = ((λ e. absurd (omega arith)), tt)
    changed (suc zero) = ((λ e. absurd (omega arith)), tt)
    changed (suc (suc c)) = tt

pub upward_is : (script : Script) (exts : List Ext) → IsGroup script → (past : List HandlerStep) (x : HandlerStep) (f : FollowsIn script exts past x)
    → (e : EventId) → e.0 ≡ 11 → (setting f).handlers e ≡ handler 6 1 ∷ []
upward_is script exts group past x f e is = table-holds script IsUpward (upward_bound script group) (f.before ++ f.ext ∷ []) f.ext.node.0 e.0 is

-- ---- the root events are wire, the free ones, and that of a change
root_outer : (script : Script) (exts : List Ext) → IsGroupHistory script exts → (past : List HandlerStep) (x : HandlerStep) (f : FollowsIn script exts past x)
    → ((root_of script f.ext.cause).0 ≡ 0) ⊎ (14 ≤ (root_of script f.ext.cause).0)
root_outer script exts history past x f = go (history.allowed f.before f.ext f.later f.admitted)
  where
    Outer : ℕ → Type 0
    Outer e = (e ≡ 0) ⊎ (14 ≤ e)

    free : (e : ℕ) → 14 ≤ e → f.ext.cause ≡ Cause.Event (event e) → Outer (root_of script f.ext.cause).0
    free e le is = inr (let same : (root_of script f.ext.cause).0 ≡ e = ap (λ (c : Cause). (root_of script c).0) is in omega arith)

    changed : (c : ℕ) → c < length group_changes → (get_or group_changes c no_change).event ≡ event 18
    changed zero lt = refl
    changed (suc zero) lt = refl
    changed (suc (suc c)) lt = absurd (omega arith)

    rebinding : IsRebinding script f.before f.ext → Outer (root_of script f.ext.cause).0
    rebinding r =
        let known : IsExtOf script f.ext = each_in (IsExtOf script) exts f.ext history.known (subst (λ (xs : List Ext). In f.ext xs) (sym f.admitted) (in_middle f.ext f.before f.later)) in
        let in_range : r.change.0 < length script.changes = subst (IsCauseOf script) r.cause known.cause in
        let lt : r.change.0 < length group_changes = subst (λ (cs : List ChangeDef). r.change.0 < length cs) history.group.changes in_range in
        let is : root_of script f.ext.cause ≡ event 18 =
        ap (root_of script) r.cause ∙ (ap (λ (cs : List ChangeDef). (get_or cs r.change.0 no_change).event) history.group.changes ∙ changed r.change.0 lt) in
        inr (let same : (root_of script f.ext.cause).0 ≡ 18 = ap (λ (a : EventId). a.0) is in omega arith)

    go : IsFree f.ext.cause ⊎ (IsWire script f.before f.ext ⊎ IsRebinding script f.before f.ext) → Outer (root_of script f.ext.cause).0
    go (inl (inl is)) = free 14 (omega arith) is
    go (inl (inr (inl is))) = free 15 (omega arith) is
    go (inl (inr (inr (inl is)))) = free 16 (omega arith) is
    go (inl (inr (inr (inr (inl is))))) = free 17 (omega arith) is
    go (inl (inr (inr (inr (inr out))))) = absurd out
    go (inr (inl wire)) = inl (ap (λ (c : Cause). (root_of script c).0) wire.cause)
    go (inr (inr r)) = rebinding r

pub root_other : (script : Script) (exts : List Ext) → IsGroupHistory script exts → (past : List HandlerStep) (x : HandlerStep) (f : FollowsIn script exts past x)
    → (n : ℕ) → 1 ≤ n → n ≤ 13 → (root_of script f.ext.cause).0 ≢ n
root_other script exts history past x f n low high is = go (root_outer script exts history past x f)
  where
    go : ((root_of script f.ext.cause).0 ≡ 0) ⊎ (14 ≤ (root_of script f.ext.cause).0) → ⊥
    go (inl none) = omega (arith, none, is, low)
    go (inr le) = omega (arith, le, is, high)

-- ---- a begin at such an event was called by a step
pub stands_at : (script : Script) (exts : List Ext) → IsGroup script → (past : List HandlerStep) (x : HandlerStep) (f : FollowsIn script exts past x)
    → (e : EventId) (h : HandlerId) → In h ((setting f).handlers e) → event_for h ≡ e.0
stands_at script exts group past x f e h bound = each_in (λ (g : HandlerId). event_for g ≡ e.0) ((setting f).handlers e) h (bound_stands script exts group past x f e) bound

pub not_root : (script : Script) (exts : List Ext) → IsGroupHistory script exts → (past : List HandlerStep) (x : HandlerStep) (f : FollowsIn script exts past x)
    → (n : ℕ) → 1 ≤ n → n ≤ 13 → event_for x.call.handler ≡ n → IsRoot (setting f) x.call x.moment → ⊥
not_root script exts history past x f n low high at root =
    root_other script exts history past x f n low high
    (sym (stands_at script exts history.group past x f (root_of script f.ext.cause) x.call.handler root.bound) ∙ at)

-- y called x at the event n, with these words
pub record IsCaller (y x : HandlerStep) (n : ℕ) (arg : List ℕ) : Type 0 where
  pub comp : y.comp ≡ x.comp
  pub node : y.node ≡ x.node
  pub effective : y.effective ≡ true
  pub frame : List ℕ
  pub outcome : y.outcome ≡ Outcome.Call (event n) arg frame

pub record CalledBy (past : List HandlerStep) (x : HandlerStep) (n : ℕ) (arg : List ℕ) : Type 0 where
  pub by : HandlerStep
  pub there : In by past
  pub is : IsCaller by x n arg

pub no_begin : (i j : ℕ) (arg frame : List ℕ) (reply : Reply) → Moment.Begin i arg ≡ Moment.Resume j frame reply → ⊥
no_begin i j arg frame reply e = cc

pub called_is : (script : Script) (exts : List Ext) → IsGroup script → (past : List HandlerStep) (x : HandlerStep) (f : FollowsIn script exts past x)
    → (n : ℕ) → event_for x.call.handler ≡ n → (i : ℕ) (arg : List ℕ) → x.moment ≡ Moment.Begin i arg
    → (y : HandlerStep) → Calls (setting f) y x.call x.moment → IsCaller y x n arg
called_is script exts group past x f n at i arg is y c =
    let same : c.event.0 ≡ n = sym (stands_at script exts group past x f c.event x.call.handler c.bound) ∙ at in
    let event_is : c.event ≡ event n = ap event same in
    let arg_is : c.arg ≡ arg = begin_arg _ _ _ _ (sym c.moment ∙ is) in
    record {
      comp = c.acts.comp ∙ sym f.follows.comp;
      node = c.acts.node ∙ sym f.follows.node;
      effective = c.acts.effective;
      frame = c.frame;
      outcome = c.outcome ∙ (ap (λ (e : EventId). Outcome.Call e c.arg c.frame) event_is ∙ ap (λ (ws : List ℕ). Outcome.Call (event n) ws c.frame) arg_is);
    }

pub called : (script : Script) (exts : List Ext) → IsGroupHistory script exts → (past : List HandlerStep) → IsTrace script exts past → (x : HandlerStep) (f : FollowsIn script exts past x)
    → (n : ℕ) → 1 ≤ n → n ≤ 13 → event_for x.call.handler ≡ n → (i : ℕ) (arg : List ℕ) → x.moment ≡ Moment.Begin i arg → CalledBy past x n arg
called script exts history past trace x f n low high at i arg is = go f.follows.cause
  where
    go : causes.Cause (setting f) past x.call x.moment → CalledBy past x n arg
    go (causes.Cause.Root root) = absurd (not_root script exts history past x f n low high at root)
    go (causes.Cause.Called y there c) = record { by = y; there = there; is = called_is script exts history.group past x f n at i arg is y c }
    go (causes.Cause.Deferred y there d) = absurd (never_later script exts history.group past trace y there d.event d.arg d.frame d.outcome)
    go (causes.Cause.Resumed r) = absurd (no_begin _ _ _ _ _ (sym is ∙ r.goes_on.moment))

-- ---- each event but `rb_up` has at most one handler, in every table
abbrev IsOne : ℕ → List HandlerId → Type 0
IsOne e hs = e ≢ 7 → length hs ≤ 1

abbrev AllOne : ℕ → List EventDef → Type 0
AllOne k [] = ⊤
AllOne k (d ∷ ds) = IsOne k d.handlers × AllOne (k + 1) ds

one-at : (k : ℕ) (ds : List EventDef) → AllOne k ds → (i e : ℕ) → e ≡ k + i → IsOne e (get_or (map (λ (d : EventDef). d.handlers) ds) i [])
one-at k [] all i e is = λ other. omega arith
one-at k (d ∷ ds) all zero e is = let same : e ≡ k = omega (arith, is) in subst (λ (n : ℕ). IsOne n d.handlers) (sym same) all.0
one-at k (d ∷ ds) all (suc i) e is = one-at (k + 1) ds all.1 i e (omega (arith, is))

group_one : AllOne 0 group_events
group_one = (
  (λ other. omega arith),
  (
    (λ other. omega arith),
    (
      (λ other. omega arith),
      (
        (λ other. omega arith),
        (
          (λ other. omega arith),
          (
            (λ other. omega arith),
            (
              (λ other. omega arith),
              (
                (λ other. absurd (other refl)),
                ((λ other. omega arith), ((λ other. omega arith), ((λ other. omega arith), ((λ other. omega arith), ((λ other. omega arith), ((λ other. omega arith), ((λ other. omega arith), ((λ other. omega arith), ((λ other. omega arith), ((λ other. omega arith), ((λ other. omega arith), tt))))))))))),
              ),
            ),
          ),
        ),
      ),
    ),
  ),
)

one_bound : (script : Script) → IsGroup script → IsBound script IsOne
one_bound script group = record {
  first = λ e. subst (λ (ds : List EventDef). IsOne e (get_or (map (λ (d : EventDef). d.handlers) ds) e [])) (sym group.events) (one-at 0 group_events group_one e e (omega arith));
  changed = λ change. subst (λ (cs : List ChangeDef). Each (λ (t : TableDef). IsOne t.event.0 t.handlers) (get_or cs change.0 no_change).table) (sym group.changes) (changed change.0);
}
  where
    changed : (c : ℕ) → Each (λ (t : TableDef). IsOne t.event.0 t.handlers) (get_or group_changes c no_change).table
    changed zero = ((λ other. omega arith), tt)
    changed (suc zero) = ((λ other. omega arith), tt)
    changed (suc (suc c)) = tt

not_other : (script : Script) (exts : List Ext) → IsGroup script → (past : List HandlerStep) (x : HandlerStep) (f : FollowsIn script exts past x)
    → event_for x.call.handler ≢ 7 → IsOther (setting f) x.call → ⊥
not_other script exts group past x f other o = go o.others few o.bound
  where
    here : event_for x.call.handler ≡ o.event.0
    here = stands_at script exts group past x f o.event x.call.handler (subst (λ (hs : List HandlerId). In x.call.handler hs) (sym o.list) (inr o.bound))

    few : length (o.first ∷ o.others) ≤ 1
    few =
        subst (λ (hs : List HandlerId). length hs ≤ 1) o.list
        (table-holds script IsOne (one_bound script group) (f.before ++ f.ext ∷ []) f.ext.node.0 o.event.0 (λ e. other (here ∙ e)))

    go : (hs : List HandlerId) → length (o.first ∷ hs) ≤ 1 → In x.call.handler hs → ⊥
    go [] le i = i
    go (h ∷ hs) le i = omega (arith, le)

-- ---- so a call of such an event is begun right after the step that made it
pub record CalledAtOnce (past : List HandlerStep) (x : HandlerStep) (n : ℕ) (arg : List ℕ) : Type 0 where
  pub by : HandlerStep
  pub earlier : List HandlerStep
  pub split : past ≡ by ∷ earlier
  pub is : IsCaller by x n arg

pub at_once : (script : Script) (exts : List Ext) → IsGroupHistory script exts → (past : List HandlerStep) → IsTrace script exts past → (x : HandlerStep) (f : FollowsIn script exts past x)
    → (n : ℕ) → 1 ≤ n → n ≤ 13 → n ≢ 7 → event_for x.call.handler ≡ n → (i : ℕ) (arg : List ℕ) → x.moment ≡ Moment.Begin i arg → CalledAtOnce past x n arg
at_once script exts history past trace x f n low high single at i arg is = go f.follows.comes
  where
    go : Comes (setting f) past x.call x.moment → CalledAtOnce past x n arg
    go (Comes.OnAgain frame reply e) = absurd (no_begin _ _ _ _ _ (sym is ∙ e))
    go (Comes.AsOther o) = absurd (not_other script exts history.group past x f (λ e. single (sym at ∙ e)) o)
    go (Comes.AtOnce y earlier split c) =
        record { by = y; earlier = earlier; split = split; is = called_is script exts history.group past x f n at i arg is y c }
    go (Comes.AsFirst root all) = absurd (not_root script exts history past x f n low high at root)
    go (Comes.AsDeferred y there d) = absurd (never_later script exts history.group past trace y there d.event d.arg d.frame d.outcome)
